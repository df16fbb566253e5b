use Rattle.std.proofs.Common.{◌<◌, ◌≤◌, ◌==◌, Any, length, arith, not, rules, sym, ◌∙◌, refl, tests}
use Rattle.std.proofs.lemmas.Bool.{true≢false}
use Rattle.std.proofs.lemmas.Iterator.{YieldsList-from_slice}
use Rattle.std.proofs.lemmas.Iterator.Search.{any_from_yields_List}
use Rattle.mbdc_audit.proofs.Checks.{all_full, all_more, any_all}
use Rattle.mbdc_audit.proofs.SomethingAsked.{any_some}
use Rattle.mbdc_audit.proofs.sound.asks_of.Goals as goal

pub places-preserved : goal.places-preserved
places-preserved g c =
    let below : c.places.place-index < length c.args.places.now = omega arith in
    let any = any_from_yields_List (λ w. not (length w.numbers.items == 0)) _ _ c.any.result c.any.ensures.ran
    (YieldsList-from_slice c.place-item.result.windows.items cc) (λ x b q k. search (rules, tests)) in
    (all_more (λ p. Any (λ w. 0 < length w.numbers.items) p.windows.items → ⊥) c.args.places.now c.places.place-index c.place-item.result below c.place-item.is).1
    (c.places.invariant, λ p. true≢false (sym ((any_some (λ w. w.numbers.items) c.place-item.result.windows.items).1 p) ∙ (sym any ∙ c.if-any.false)))

pub returns-then-any : goal.returns-then-any
returns-then-any g c =
    let below : c.places.place-index < length c.args.places.now = omega arith in
    let any = any_from_yields_List (λ w. not (length w.numbers.items == 0)) _ _ c.any.result c.any.ensures.ran
    (YieldsList-from_slice c.place-item.result.windows.items cc) (λ x b q k. search (rules, tests)) in
    (λ t. (c.places.place-index, c.place-item.result, below, sym c.place-item.is, (any_some (λ w. w.numbers.items) c.place-item.result.windows.items).0 (sym any ∙ c.if-any.true)), λ a. refl)

pub returns : goal.returns
returns g c =
    let past : length c.args.places.now ≤ c.places.place-index = omega arith in
    let none = (all_full (λ p. Any (λ w. 0 < length w.numbers.items) p.windows.items → ⊥) c.args.places.now c.places.place-index past).0 c.places.invariant in
    (λ f. absurd (true≢false (sym f)), λ a. let x = any_all (λ p. Any (λ w. 0 < length w.numbers.items) p.windows.items) (λ p. Any (λ w. 0 < length w.numbers.items) p.windows.items → ⊥) c.args.places.now a none in absurd (x.2 x.1))
