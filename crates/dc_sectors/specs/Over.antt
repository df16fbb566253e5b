-- A file over another one (this product): what it asks of the inner file, and what it returns itself.
use Rattle.std.specs.Prelude.{◌≡◌, ◌&&◌, ◌==◌, ℕ, zero, suc, Bool, false, List, [], ◌∷◌, slice_index, None}
use Rattle.std.specs.Prelude.{Result, Err}
use Rattle.dc_sectors.specs.declared.sector.ReadFault.{ReadFault}
use Rattle.dc_sectors.specs.declared.sector.ReadFault.TheVariants.{Unreadable, Failed}
use Rattle.dc_sectors.specs.FileCalls.{Call, Got, Put, Synced}
use Rattle.dc_sectors.specs.Note.{Note, got_by, call_by}

-- one step of a file over another
pub data Step : Type 0 where
  -- a call of the inner file, whose result is returned
  Passes : Call → Step
  -- a read of the inner file that the drive couldn't do; it is returned as another failure
  Fails : ℕ → ℕ → Step
  -- a read of the inner file for the outer file's own use; nothing is returned
  Looks : ℕ → ℕ → Result (List ℕ) ReadFault → Step
  -- a write that fails without a call of the inner file
  Refuses : ℕ → List ℕ → Step
  -- a sync of the inner file, and whether it succeeded; nothing is returned yet
  Tries : Bool → Step
  -- whether it is returned that a sync succeeded
  Answers : Bool → Step

-- the newest sync of the inner file succeeded, and since then there were only looks
abbrev pub is_durable : List Step → Bool
is_durable [] = false
is_durable (Passes call ∷ earlier) = false
is_durable (Fails at n ∷ earlier) = false
is_durable (Looks at n got ∷ earlier) = is_durable earlier
is_durable (Refuses at bytes ∷ earlier) = false
is_durable (Tries done ∷ earlier) = done
is_durable (Answers done ∷ earlier) = false

-- the calls of the inner file in these steps, the newest first
abbrev pub asked : List Step → List Call
asked [] = []
asked (Passes call ∷ earlier) = call ∷ asked earlier
asked (Fails at n ∷ earlier) = Got at n (Err Unreadable) ∷ asked earlier
asked (Looks at n got ∷ earlier) = Got at n got ∷ asked earlier
asked (Refuses at bytes ∷ earlier) = asked earlier
asked (Tries done ∷ earlier) = Synced done ∷ asked earlier
asked (Answers done ∷ earlier) = asked earlier

-- The calls of the outer file, with what it returned. It returns that a sync succeeded only where the inner file's did.
abbrev pub told : List Step → List Call
told [] = []
told (Passes call ∷ earlier) = call ∷ told earlier
told (Fails at n ∷ earlier) = Got at n (Err Failed) ∷ told earlier
told (Looks at n got ∷ earlier) = told earlier
told (Refuses at bytes ∷ earlier) = Put at bytes None ∷ told earlier
told (Tries done ∷ earlier) = told earlier
told (Answers done ∷ earlier) = Synced (done && is_durable earlier) ∷ told earlier

-- THE OUTER HISTORY IS THE INNER ONE, but for failures (a read that the drive couldn't do is returned as another failure,
-- a write is refused, a sync that succeeded is returned as one that failed) and for reads and syncs of the inner file of
-- which nothing is returned.
pub record IsOver (outer inner : List Call) : Type 0 where
  pub steps : List Step
  pub outer_is : outer ≡ told steps
  pub inner_is : inner ≡ asked steps

-- Steps as notes have them. The kinds of calls are those of specs/Note.

-- which step, and the numbers and bytes of its call
abbrev pub step_by : ℕ → ℕ → ℕ → ℕ → List ℕ → Step
step_by zero at n ok bytes = Passes (call_by 0 at n ok bytes)
step_by (suc zero) at n ok bytes = Passes (call_by 1 at n ok bytes)
step_by (suc (suc zero)) at n ok bytes = Passes (call_by 2 at n ok bytes)
step_by (suc (suc (suc zero))) at n ok bytes = Passes (call_by 3 at n ok bytes)
step_by (suc (suc (suc (suc zero)))) at n ok bytes = Fails at n
step_by (suc (suc (suc (suc (suc zero))))) at n ok bytes = Looks at n (got_by ok bytes)
step_by (suc (suc (suc (suc (suc (suc zero)))))) at n ok bytes = Refuses at bytes
step_by (suc (suc (suc (suc (suc (suc (suc zero))))))) at n ok bytes = Tries (ok == 1)
step_by (suc (suc (suc (suc (suc (suc (suc (suc more)))))))) at n ok bytes = Answers (ok == 1)

abbrev pub step_of : Note → Step
step_of note = step_by (slice_index note.0 0) (slice_index note.0 1) (slice_index note.0 2)
    (slice_index note.0 3) note.1

abbrev pub steps_of : List Note → List Step
steps_of [] = []
steps_of (note ∷ earlier) = step_of note ∷ steps_of earlier
