use Rattle.std.proofs.Common.{◌≡◌, ◌↔◌, ◌<◌, [], Any, IsTrue, map, length, arith, sym, ap, ◌∙◌, refl, subst, eqb-true}
use Rattle.std.proofs.lemmas.List.{length-map, nil_from_length}
use Rattle.std.proofs.lemmas.Grind.{common_steps}
use Rattle.mbdc_audit.specs.View.{house_of, number_of, place_of}
use Rattle.mbdc_audit.proofs.SomethingAsked.{asked, not_zero}
use Rattle.mbdc_audit.proofs.sound.is_asked.Goals as goal

pub returns-else-not-is_empty : goal.returns-else-not-is_empty
returns-else-not-is_empty g c =
    let empty : length c.as_slice-numbers.result.now ≡ 0 = eqb-true _ _ (sym c.if-not-is_empty.ensures) in
    let items : c.args.house.now.numbers.items ≡ [] = sym c.as_slice-numbers.ensures.value ∙ nil_from_length c.as_slice-numbers.result.now empty in
    let n = asked (house_of c.args.house.now) c.args.house.now.places.items refl (ap (λ ns. map number_of ns) items) in
    let a = subst (λ ps. IsTrue c.asks_of.result ↔ Any (λ p. Any (λ w. 0 < length w.numbers.items) p.windows.items) ps) c.as_slice-places.ensures.value c.asks_of.ensures in
    let there = not_zero (length c.as_slice-places.result.now) c.if-is_empty.ensures in
    let some : 0 < length (house_of c.args.house.now).places =
    omega (arith, there, ap length c.as_slice-places.ensures.value, length-map c.args.house.now.places.items place_of) in
    (λ t. (some, n.1 (a.0 t)), λ r. a.1 (n.0 r.1))

pub returns-then-is_empty : goal.returns-then-is_empty
returns-then-is_empty g c = grind (arith, common_steps)

pub returns-then-not-is_empty : goal.returns-then-not-is_empty
returns-then-not-is_empty g c = grind (arith, common_steps)
