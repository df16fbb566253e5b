use Rattle.std.proofs.Common.{arith, ◌≡◌, ◌↔◌, ◌<◌, ◌≤◌, ℕ, Bool, false, IsTrue, List, map, sym, subst, ◌∙◌}
use Rattle.std.proofs.lemmas.Bool.{false≢true, leb-true, ltb-false, ltb-true}
use Rattle.std.proofs.lemmas.Bool.Decides.{nat_tests}
use Rattle.std.specs.Prelude.{nat_le}
use Rattle.mbdc_audit.specs.declared.house.Part.{Part}
use Rattle.mbdc_audit.specs.Sound.{Tile, from, to}
use Rattle.mbdc_audit.specs.View.{part_of, place_of, window_of}
use Rattle.mbdc_audit.specs.Walk.{open_of}
use Rattle.mbdc_audit.proofs.Periods.{first_begins, last_ends, within}
use Rattle.mbdc_audit.proofs.numbers.is_period.Goals.{then-first-number, else-first-number}
use Rattle.mbdc_audit.proofs.numbers.is_period.Goals as goal

-- whether a period has time and lies within the parts, test by test
ended : (first last a b : ℕ) → first ≤ a → a < b → IsTrue (nat_le b last) ↔ ((a < b) × (first ≤ a) × (b ≤ last))
ended first last a b le lt = (λ t. (lt, le, grind (arith, nat_tests)), λ p. let le' : b ≤ last = p.2 in grind (arith, nat_tests))

not_ended : (v : Bool) (first last a b : ℕ) → v ≡ false → ((first ≤ a) × (a < b) → ⊥) → IsTrue v ↔ ((a < b) × (first ≤ a) × (b ≤ last))
not_ended v first last a b e none = (λ t. absurd (false≢true (sym e ∙ t)), λ p. absurd (none (p.1, p.0)))

pub returns-then-number : goal.returns-then-number
returns-then-number g c = λ s tile.
    let p = place_of c.args.place.now in
    let front : Tile (from p s) (to p s) (map part_of c.deref.result.now) =
    subst (λ (xs : List Part). Tile (from p s) (to p s) (map part_of xs)) (sym c.deref.ensures.value) tile in
    let back : Tile (from p s) (to p s) (map part_of c.deref-2.result.now) =
    subst (λ (xs : List Part). Tile (from p s) (to p s) (map part_of xs)) (sym c.deref-2.ensures.value) tile in
    let both : (c.in-Some.first.now.from ≤ c.args.number.now.from) × (c.args.number.now.from < c.args.number.now.to) =
    elim c.if-first-number.branch [
      | then-first-number w ↦ (w.if-first-number.true, ltb-true c.args.number.now.from c.args.number.now.to (sym w.value-is ∙ c.if-number.true))
      | else-first-number w ↦ (
          let le = leb-true c.in-Some.first.now.from c.args.number.now.from (sym w.value-is ∙ c.if-number.true) in
          let gt = w.if-first-number.false in
          absurd (omega (arith, le, gt)))
    ] in
    within (open_of p (window_of c.args.window.now)) s c.args.number.now.from c.args.number.now.to c.in-Some.first.now.from c.in-Some-last.last.now.to
    c.is_cut.result c.is_cut-2.result _ c.is_cut.ensures c.is_cut-2.ensures c.if-not-is_cut.false c.if-not-is_cut-2.false
    (first_begins (from p s) (to p s) c.deref.result.now c.in-Some.first.now front c.in-Some.ensures.item.3.0 c.in-Some.ensures.item.1)
    (last_ends (from p s) (to p s) c.deref-2.result.now c.in-Some-last.last.now back c.in-Some-last.ensures.item.3.0 c.in-Some-last.ensures.item.1)
    (ended c.in-Some.first.now.from c.in-Some-last.last.now.to c.args.number.now.from c.args.number.now.to both.0 both.1)

pub returns-else-number : goal.returns-else-number
returns-else-number g c = λ s tile.
    let p = place_of c.args.place.now in
    let front : Tile (from p s) (to p s) (map part_of c.deref.result.now) =
    subst (λ (xs : List Part). Tile (from p s) (to p s) (map part_of xs)) (sym c.deref.ensures.value) tile in
    let back : Tile (from p s) (to p s) (map part_of c.deref-2.result.now) =
    subst (λ (xs : List Part). Tile (from p s) (to p s) (map part_of xs)) (sym c.deref-2.ensures.value) tile in
    let none : (c.in-Some.first.now.from ≤ c.args.number.now.from) × (c.args.number.now.from < c.args.number.now.to) → ⊥ = λ both.
    elim c.if-first-number.branch [
      | then-first-number w ↦ (
          let lt = both.1 in
          let ge = ltb-false c.args.number.now.from c.args.number.now.to (sym w.value-is ∙ c.if-number.false) in
          absurd (omega (arith, lt, ge)))
      | else-first-number w ↦ (let le = both.0 in let gt = w.if-first-number.false in absurd (omega (arith, le, gt)))
    ] in
    within (open_of p (window_of c.args.window.now)) s c.args.number.now.from c.args.number.now.to c.in-Some.first.now.from c.in-Some-last.last.now.to
    c.is_cut.result c.is_cut-2.result _ c.is_cut.ensures c.is_cut-2.ensures c.if-not-is_cut.false c.if-not-is_cut-2.false
    (first_begins (from p s) (to p s) c.deref.result.now c.in-Some.first.now front c.in-Some.ensures.item.3.0 c.in-Some.ensures.item.1)
    (last_ends (from p s) (to p s) c.deref-2.result.now c.in-Some-last.last.now back c.in-Some-last.ensures.item.3.0 c.in-Some-last.ensures.item.1)
    (not_ended c.if-first-number.value c.in-Some.first.now.from c.in-Some-last.last.now.to c.args.number.now.from c.args.number.now.to c.if-number.false none)
