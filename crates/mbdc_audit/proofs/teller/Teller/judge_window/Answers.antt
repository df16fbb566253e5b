use Rattle.std.proofs.Common.{All, ◌≡◌, ◌≤◌, ◌↔◌, ◌∷◌, [], ℕ, List, arith, get_or, length, map, refl}
use Rattle.mbdc_audit.specs.File.{AsksNothing}
use Rattle.mbdc_audit.specs.House.{House, Place, Window}
use Rattle.mbdc_audit.specs.Grade.{grade_name}
use Rattle.mbdc_audit.specs.Published.{IsNumberOf, IsShown, IsValueOf, MayAskOf, share_of, worst}
use Rattle.mbdc_audit.specs.declared.house.Number as number_type
use Rattle.mbdc_audit.specs.declared.line.Word.TheVariants as word
use Rattle.mbdc_audit.specs.View.{house_of, key_of, number_of, place_of, window_of}
use Rattle.mbdc_audit.specs.Walk.{open_of}
use Rattle.mbdc_audit.proofs.LastingFound.{are_found}
use Rattle.mbdc_audit.proofs.Nested.{each_all, placed_more}
use Rattle.mbdc_audit.proofs.PlacedNumbers.{of_shown, of_value}
use Rattle.mbdc_audit.proofs.teller.Teller.judge_window.Goals as goal

value_at : (h : House) (p : Place) (w : Window) (xs : List number_type.Number) (i : ℕ) (d : number_type.Number) → (get_or xs i d).word ≡ word.Value
    → MayAskOf h p w (key_of (get_or xs i d))
    → IsValueOf (open_of p w) (number_of (get_or xs i d)) ↔ IsNumberOf h (open_of p w) (number_of (get_or xs i d))
value_at h p w xs i d = of_value h p w (get_or xs i d)

shown_at : (h : House) (p : Place) (w : Window) (xs : List number_type.Number) (i : ℕ) (d : number_type.Number) → ((get_or xs i d).word ≡ word.Value → ⊥)
    → MayAskOf h p w (key_of (get_or xs i d))
    → (IsShown h (open_of p w) (number_of (get_or xs i d))
    × ((number_of (get_or xs i d)).beside ≡ grade_name (worst (share_of (open_of p w) (key_of (get_or xs i d)))) ∷ []))
    ↔ IsNumberOf h (open_of p w) (number_of (get_or xs i d))
shown_at h p w xs i d = of_shown h p w (get_or xs i d)

pub numbers-preserved : goal.numbers-preserved
numbers-preserved g c = λ s at sound same asks.
    let h : House = house_of c.args.house.now in
    let p : Place = place_of c.args.place.now in
    let w : Window = window_of c.args.window.now in
    placed_more h p w c.deref-number-items.result.now c.args.window.now.numbers.items c.numbers.number-index _
    c.args.self.now.counts c.numbers.self.counts c.judge_value.new.self.counts c.deref-number-items.ensures.value c.numbers-test.true
    asks (c.numbers.invariant s at sound same asks)
    (λ may. (
      λ clean. (
        c.in_ok-judge_value.ensures.kept clean,
        λ none. (value_at h p w c.deref-number-items.result.now c.numbers.number-index _ c.in-Value.is may).0
            ((c.in_ok-judge_value.ensures.right none (are_found c.args.window.now.values.items same) sound.timed.order (open_of p w) refl).0 clean).1,
      ),
      λ none both. (c.in_ok-judge_value.ensures.right none (are_found c.args.window.now.values.items same) sound.timed.order (open_of p w) refl).1
          (both.0, (value_at h p w c.deref-number-items.result.now c.numbers.number-index _ c.in-Value.is may).1 (both.1 none)),
    ))

pub numbers-preserved-in_default : goal.numbers-preserved-in_default
numbers-preserved-in_default g c = λ s at sound same asks.
    let h : House = house_of c.args.house.now in
    let p : Place = place_of c.args.place.now in
    let w : Window = window_of c.args.window.now in
    placed_more h p w c.deref-number-items.result.now c.args.window.now.numbers.items c.numbers.number-index _
    c.args.self.now.counts c.numbers.self.counts c.judge_shown.new.self.counts c.deref-number-items.ensures.value c.numbers-test.true
    asks (c.numbers.invariant s at sound same asks)
    (λ may. (
      λ clean. (
        c.in_ok-judge_shown.ensures.kept clean,
        λ none. (shown_at h p w c.deref-number-items.result.now c.numbers.number-index _ c.in_default.not-Value may).0
            ((c.in_ok-judge_shown.ensures.right s at sound same none).0 clean).1,
      ),
      λ none both. (c.in_ok-judge_shown.ensures.right s at sound same none).1
          (both.0, (shown_at h p w c.deref-number-items.result.now c.numbers.number-index _ c.in_default.not-Value may).1 (both.1 none)),
    ))

pub returns : goal.returns
returns g c = record {
  right = λ s at sound same asks.
      let h : House = house_of c.args.house.now in
      let le : length c.deref-number-items.result.now ≤ c.numbers.number-index = omega (arith, c.numbers-test.false) in
      each_all (λ n. AsksNothing n → IsNumberOf h (open_of (place_of c.args.place.now) (window_of c.args.window.now)) n)
      (All AsksNothing (map number_of c.args.window.now.numbers.items)) number_of c.deref-number-items.result.now c.args.window.now.numbers.items
      c.numbers.number-index c.args.self.now.counts c.numbers.self.counts c.deref-number-items.ensures.value le
      (c.numbers.invariant s at sound same asks);
}
