-- The parts of sound places say what their places consumed.
use Rattle.std.proofs.Common.{arith, ◌≡◌, ◌≤◌, ℕ, zero, suc, List, [], ◌∷◌, map, get_or, sym, subst, Some}
use Rattle.std.specs.Prelude.{All, slice_get}
use Rattle.mbdc_audit.specs.Consumption.Order.{IsInOrder}
use Rattle.mbdc_audit.specs.Amount.{entries}
use Rattle.mbdc_audit.specs.House.{House, Span, Value}
use Rattle.mbdc_audit.specs.Settled.{AreCounted, AreKnown}
use Rattle.mbdc_audit.specs.Sound.{IsPlace, IsWindow, Tile}
use Rattle.mbdc_audit.specs.View.{part_of, place_of, run_of, seen_value, window_of}
use Rattle.mbdc_audit.specs.Walk.{AreFound, AreGradedAll, IsGradedPlace}
use Rattle.mbdc_audit.specs.declared.house.Part as part_type
use Rattle.mbdc_audit.specs.declared.house.Place as place_type
use Rattle.mbdc_audit.specs.declared.house.Window as window_type
use Rattle.mbdc_audit.proofs.Checks.{all_map}
use Rattle.mbdc_audit.proofs.InOrder.{sound_order}

times : (a b : ℕ) (parts : List part_type.Part) → Tile a b (map part_of parts) → All (λ x. x.from ≤ x.to) parts
times a b [] t k d lt = absurd (omega (arith, lt))
times a b (p ∷ parts) t zero d lt = omega (arith, t.1)
times a b (p ∷ parts) t (suc k) d lt = times p.to b parts t.2 k d (omega (arith, lt))

graded : {A : Type 0} (h : House) (p : place_type.Place A) → IsPlace h (place_of p) → All (λ w. AreKnown w) p.windows.items
    → All (λ w. AreCounted (map run_of p.runs.items) w) p.windows.items → IsGradedPlace p
graded {A} h p sound known counted j e lt =
    let w = get_or p.windows.items j e in
    let found = (all_map (λ x. (s : Span) × (slice_get h.spans x.span ≡ Some s) × IsWindow h (place_of p) x s) (λ (x : window_type.Window A). window_of x) p.windows.items).0 sound.windows j e lt in
    let is = (known j e lt).1 in (
      is,
      counted j e lt (subst (λ (l : List Value). IsInOrder (entries (map run_of p.runs.items) l)) (sym is)
          (sound_order (map run_of p.runs.items) (map seen_value w.values.items) found.2.timed.order)) (times _ _ w.parts.items found.2.parts.tile),
    )

-- what sound places say, as the walk over numbers asks for it
pub graded_all : {A : Type 0} (h : House) (ps : List (place_type.Place A)) → All (IsPlace h) (map place_of ps)
    → All (λ p. All (λ w. AreKnown w) p.windows.items) ps
    → All (λ p. All (λ w. AreCounted (map run_of p.runs.items) w) p.windows.items) ps → AreGradedAll ps
graded_all {A} h ps sound known counted i d lt = graded h (get_or ps i d)
    ((all_map (IsPlace h) (λ (p : place_type.Place A). place_of p) ps).0 sound i d lt) (known i d lt) (counted i d lt)

-- what the walk over the house asks for
pub found_all : {A : Type 0} (ps : List (place_type.Place A)) → All (λ p. All (λ w. AreKnown w) p.windows.items) ps
    → All (λ p. All (λ w. AreFound w.values.items) p.windows.items) ps
found_all ps known i d lt j e lt' = (known i d lt j e lt').0
