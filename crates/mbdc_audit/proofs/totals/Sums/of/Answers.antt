use Rattle.std.proofs.Common.{◌≡◌, ◌<◌, List, length, get_or, subst, arith}
use Rattle.std.proofs.lemmas.Grind.{common_steps}
use Rattle.mbdc_audit.proofs.IndexPlaces.{index_more}
use Rattle.mbdc_audit.proofs.totals.Sums.of.Goals as goal

pub places-preserved : goal.places-preserved
places-preserved g c =
    let same = c.deref-place-items.ensures.value in
    index_more c.places.flats c.add.new.self c.args.house.now.places.items c.places.i c.flat_key.result c.place-item.result
    (subst (λ (ps : List _). c.places.i < length ps) same c.places-test.true)
    (subst (λ (ps : List _). c.place-item.result ≡ get_or ps c.places.i c.place-item.result) same c.place-item.is)
    c.flat_key.ensures c.in_ok-add.ensures c.places.invariant

pub places-init : goal.places-init
places-init g c = grind (arith, common_steps)

pub returns-in_err-add : goal.returns-in_err-add
returns-in_err-add g c = grind (arith, common_steps)

pub invariant_of-result : goal.invariant_of-result
invariant_of-result g c = grind (arith, common_steps)

pub returns : goal.returns
returns g c = grind (arith, common_steps)
