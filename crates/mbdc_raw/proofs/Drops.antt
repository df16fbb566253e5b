-- What is dropped while a request waits, and what is gathered of several answers.
use Rattle.std.proofs.Common.{◌≡◌, ℕ, ◌+◌, ◌<◌, ◌≤◌, Bool, true, false, List, [], ◌∷◌, ◌++◌, Option, Some, length, take, ap, refl, sym, ◌∙◌, subst, arith, append-nil}
use Rattle.std.specs.List.{All}
use Rattle.std.proofs.lemmas.List.Elements.{All-nil, All-push}
use Rattle.std.proofs.lemmas.List.{length-append, map-append, length-take-le}
use Rattle.mbdc_bus.specs.Limits.{most_answer}
use Rattle.mbdc_raw.specs.Turn.{late_at, late_by, state_by}
use Rattle.mbdc_raw.specs.Wire.{Sound, AreHeard, piece, pieces}
use Rattle.mbdc_raw.specs.Heard.{Drains, Gathers, HasByte, IsDrained, IsGathered, never_quiet, is_loud, most_pieces, state_with, late_with, gathered_by}
use Rattle.mbdc_raw.specs.declared.state.State.{State}
use Rattle.mbdc_raw.specs.declared.state.State.TheVariants.{Busy}
use Rattle.mbdc_raw.proofs.Pieces.{heard_one}

state_more : (sounds : List Sound) (sound : Sound) (state : State) → state_with (sounds ++ sound ∷ []) state ≡ state_by sound (state_with sounds state)
state_more [] sound state = refl
state_more (s ∷ sounds) sound state = state_more sounds sound (state_by s state)

late_more : (sounds : List Sound) (sound : Sound) (state : State) (late : ℕ) → late_with (sounds ++ sound ∷ []) state late ≡ late_by sound (state_with sounds state) (late_with sounds state late)
late_more [] sound state late = refl
late_more (s ∷ sounds) sound state late = late_more sounds sound (state_by s state) (late_by s state late)

gathered_more : (bursts : List (List ℕ)) (burst bytes : List ℕ) → gathered_by (bursts ++ burst ∷ []) bytes ≡ take most_answer (gathered_by bursts bytes ++ burst)
gathered_more [] burst bytes = refl
gathered_more (b ∷ bursts) burst bytes = gathered_more bursts burst (take most_answer (bytes ++ b))

-- the first bytes of the room are those that came
pub came_some : (count : ℕ) (room : List ℕ) → 0 < count → count ≤ length room → HasByte (take count room)
came_some count room some fits = omega (arith, length-take-le count room fits)

module _ {W : Type 0} (hears : W → Sound → W → Type 0) where
  -- this many pieces came
  pub record Pieces (old : W) (count : ℕ) (now : W) : Type 0 where
    pub bursts : List (List ℕ)
    pub each : All HasByte bursts
    pub gave : AreHeard hears old (pieces bursts) now
    pub counted : length bursts ≡ count

  pub none_came : (wire : W) → Pieces wire 0 wire
  none_came wire = record { bursts = []; each = All-nil HasByte; gave = refl; counted = refl }

  pub more_came : (old now new : W) (count : ℕ) (given : List ℕ) → Pieces old count now → HasByte given → hears now (piece given) new → Pieces old (count + 1) new
  more_came old now new count given so has gave = record {
    bursts = so.bursts ++ given ∷ [];
    each = All-push HasByte so.bursts given so.each has;
    gave = subst (λ (xs : List Sound). AreHeard hears old xs new) (sym (map-append piece so.bursts (given ∷ []))) (heard_one hears old now new (pieces so.bursts) (piece given) so.gave gave);
    counted = omega (arith, length-append so.bursts (given ∷ []), so.counted);
  }

  -- ---- dropped

  pub record Dropped (old : W) (state : State) (late count : ℕ) (now : W) (after : State) (lates : ℕ) : Type 0 where
    pub came : Pieces old count now
    pub moved : after ≡ state_with (pieces came.bursts) state
    pub added : lates ≡ late_with (pieces came.bursts) state late

  pub dropped_none : (wire : W) (state : State) (late : ℕ) → Dropped wire state late 0 wire state late
  unfolding none_came
  dropped_none wire state late = record { came = none_came wire; moved = refl; added = refl }

  pub dropped_more : (old now new : W) (state after : State) (late lates count : ℕ) (given : List ℕ) → Dropped old state late count now after lates → HasByte given → hears now (piece given) new
      → Dropped old state late (count + 1) new Busy (late_at after lates)
  unfolding more_came
  dropped_more old now new state after late lates count given so has gave =
      let xs : List Sound = pieces so.came.bursts in
      let spell = map-append piece so.came.bursts (given ∷ []) in
      record {
        came = more_came old now new count given so.came has gave;
        moved = sym (ap (λ (ys : List Sound). state_with ys state) spell ∙ state_more xs (piece given) state);
        added = ap (λ (s : State). late_at s lates) so.moved ∙ ap (late_at (state_with xs state)) so.added ∙ sym (ap (λ (ys : List Sound). late_with ys state late) spell ∙ late_more xs (piece given) state late);
      }

  pub drained : (old now new : W) (state after : State) (late lates count : ℕ) (end : Sound) → Dropped old state late count now after lates → hears now end new → ((bursts : List (List ℕ)) → IsDrained bursts false (end ∷ []))
      → Drains hears old state late false new (state_by end after) (late_by end after lates)
  drained old now new state after late lates count end so gave ends =
      let xs : List Sound = pieces so.came.bursts in
      record {
        bursts = so.came.bursts;
        each = so.came.each;
        end = end ∷ [];
        gave = heard_one hears old now new xs end so.came.gave gave;
        ends = ends so.came.bursts;
        moved = ap (state_by end) so.moved ∙ sym (state_more xs end state);
        counted = ap (λ (s : State). late_by end s lates) so.moved ∙ ap (late_by end (state_with xs state)) so.added ∙ sym (late_more xs end state late);
      }

  pub drained_most : (old now : W) (state after : State) (late lates count : ℕ) → Dropped old state late count now after lates → count ≡ most_pieces → Drains hears old state late true now after lates
  drained_most old now state after late lates count so all =
      let xs : List Sound = pieces so.came.bursts in
      record {
        bursts = so.came.bursts;
        each = so.came.each;
        end = [];
        gave = subst (λ (ys : List Sound). AreHeard hears old ys now) (sym (append-nil xs)) so.came.gave;
        ends = never_quiet (so.came.counted ∙ all);
        moved = so.moved ∙ sym (ap (λ (ys : List Sound). state_with ys state) (append-nil xs));
        counted = so.added ∙ sym (ap (λ (ys : List Sound). late_with ys state late) (append-nil xs));
      }

  -- ---- gathered

  pub record Gathered (old : W) (before : List ℕ) (count : ℕ) (now : W) (after : List ℕ) : Type 0 where
    pub came : Pieces old count now
    pub kept : after ≡ gathered_by came.bursts before

  pub gathered_none : (wire : W) (bytes : List ℕ) → Gathered wire bytes 0 wire bytes
  unfolding none_came
  gathered_none wire bytes = record { came = none_came wire; kept = refl }

  pub gathered_one : (old now new : W) (before after then' : List ℕ) (count : ℕ) (given : List ℕ) → Gathered old before count now after → HasByte given → hears now (piece given) new
      → then' ≡ take most_answer (after ++ given) → Gathered old before (count + 1) new then'
  unfolding more_came
  gathered_one old now new before after then' count given so has gave is = record {
    came = more_came old now new count given so.came has gave;
    kept = is ∙ ap (λ (xs : List ℕ). take most_answer (xs ++ given)) so.kept ∙ sym (gathered_more so.came.bursts given before);
  }

  pub gathers : (old now new : W) (before after : List ℕ) (count : ℕ) (end : Sound) (quiet : Option Bool) → Gathered old before count now after → hears now end new
      → ((bursts : List (List ℕ)) → IsGathered bursts quiet (end ∷ [])) → Gathers hears old before quiet new after
  gathers old now new before after count end quiet so gave ends = record {
    bursts = so.came.bursts;
    each = so.came.each;
    end = end ∷ [];
    gave = heard_one hears old now new (pieces so.came.bursts) end so.came.gave gave;
    ends = ends so.came.bursts;
    kept = so.kept;
  }

  pub gathers_most : (old now : W) (before after : List ℕ) (count : ℕ) → Gathered old before count now after → count ≡ most_pieces → Gathers hears old before (Some false) now after
  gathers_most old now before after count so all = record {
    bursts = so.came.bursts;
    each = so.came.each;
    end = [];
    gave = subst (λ (ys : List Sound). AreHeard hears old ys now) (sym (append-nil (pieces so.came.bursts))) so.came.gave;
    ends = is_loud (so.came.counted ∙ all);
    kept = so.kept;
  }
