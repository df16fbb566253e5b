-- A commit, step by step.
use Rattle.std.proofs.Common.{◌≡◌, ℕ, zero, suc, ◌+◌, ◌<◌, Bool, true, false, List, [], ◌∷◌, ◌++◌, Option, Some, None, cond, ◌==◌, arith, refl, sym, ◌∙◌, ap}
use Rattle.std.specs.Prelude.{slice_get, slice_set, unwrap_or}
use Rattle.std.proofs.lemmas.Bool.{eq-eqb, ne_eqb}
use Rattle.dc_readout.specs.declared.stage.Stage.{Stage}
use Rattle.dc_readout.specs.declared.stage.Stage.TheVariants.{Pending, Ended}
use Rattle.dc_readout.specs.Summary.{settled_by, stage_settled}
use Rattle.dc_readout.specs.Meter.{Position}
use Rattle.dc_readout.specs.World.{World, Running, Finished, committed, committed_body, joined, kept, more_after}

-- ---- whether more follow

ended_when : (more : Bool) → stage_settled (Pending more) ≡ Ended → more ≡ false
ended_when true e = absurd cc
ended_when false e = refl

goes_when : (more : Bool) → (stage_settled (Pending more) ≡ Ended → ⊥) → more ≡ true
goes_when true not = refl
goes_when false not = absurd (not refl)

pub none_follow : (stage : Stage) (more : Bool) → stage ≡ Pending more → stage_settled stage ≡ Ended → more ≡ false
none_follow stage more is e = ended_when more (ap stage_settled (sym is) ∙ e)

pub more_follow : (stage : Stage) (more : Bool) → stage ≡ Pending more → (stage_settled stage ≡ Ended → ⊥) → more ≡ true
more_follow stage more is not = goes_when more (λ e. not (ap stage_settled is ∙ e))

-- ---- the parts

pub parts_joined : (b : Bool) (n : ℕ) (body : List ℕ) (before : List (List ℕ)) (o : Option (List (List ℕ))) → (b ≡ true → 0 < n) → (0 < n → b ≡ true) → o ≡ Some before
    → cond b (before ++ body ∷ []) (body ∷ []) ≡ joined (n + 1) body (unwrap_or o [])
parts_joined true n body before o some back is =
    let more = some refl in
    let other : (n + 1 == 1) ≡ false = ne_eqb (n + 1) 1 (λ e. omega arith) in
    rw (other, is) refl
parts_joined false n body before o some back is =
    let first : (n + 1 == 1) ≡ true = eq-eqb (n + 1) 1 (zero_is n back) in
    rw first refl
  where
    zero_is : (n : ℕ) → (0 < n → false ≡ true) → n + 1 ≡ 1
    zero_is zero back = refl
    zero_is (suc n) back = absurd (let e = back (omega arith) in cc)

-- ---- the world that a commit leaves

abbrev pub world_of : List Position → Option Running → List (List (List ℕ)) → List Finished → World
world_of ps r o h = record { positions = ps; running = r; parts_open = o; held = h }

same_world : (ps : List Position) (r r' : Option Running) (o o' : List (List (List ℕ))) (h h' : List Finished) → r ≡ r' → o ≡ o' → h ≡ h'
    → world_of ps r o h ≡ world_of ps r' o' h'
same_world ps r r' o o' h h' a b d = ap (λ x. world_of ps x o h) a ∙ ap (λ x. world_of ps r' x h) b ∙ ap (λ x. world_of ps r' o' x) d

module _ (w : World) (r : Running) (body : List ℕ) (parts : List (List ℕ)) (runs : w.running ≡ Some r) (waits : r.waiting ≡ Some body) (are : parts ≡ joined (r.session.settled + 1) body (unwrap_or (slice_get w.parts_open r.meter) [])) where
  by_more : (more : Bool) → more_after body ≡ more → kept more parts r w ≡ committed w.running w
  by_more more e =
      ap (λ ps. kept more ps r w) are
      ∙ ap (λ b. kept b (joined (r.session.settled + 1) body (unwrap_or (slice_get w.parts_open r.meter) [])) r w) (sym e)
      ∙ ap (λ o. committed_body o r w) (sym waits) ∙ ap (λ o. committed o w) (sym runs)

  pub last_held : (running : Option Running) (opened : List (List (List ℕ))) (held : List Finished) → more_after body ≡ false
      → running ≡ None → opened ≡ slice_set w.parts_open r.meter [] → held ≡ w.held ++ record { meter = r.meter; parts = parts } ∷ []
      → world_of w.positions running opened held ≡ committed w.running w
  last_held running opened held last a b d =
      let e = by_more false last in
      same_world w.positions running None opened (slice_set w.parts_open r.meter []) held (w.held ++ record { meter = r.meter; parts = parts } ∷ []) a b d ∙ e

  pub more_open : (running : Option Running) (opened : List (List (List ℕ))) → more_after body ≡ true
      → running ≡ Some (record r { session = settled_by r.session; waiting = None }) → opened ≡ slice_set w.parts_open r.meter parts
      → world_of w.positions running opened w.held ≡ committed w.running w
  more_open running opened more a b =
      same_world w.positions running (Some (record r { session = settled_by r.session; waiting = None })) opened (slice_set w.parts_open r.meter parts) w.held w.held a b refl ∙ by_more true more
