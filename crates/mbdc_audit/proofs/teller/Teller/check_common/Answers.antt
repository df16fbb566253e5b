use Rattle.std.proofs.Common.{◌≡◌, ◌<◌, ◌≤◌, List, map, length, arith, sym, refl, subst}
use Rattle.mbdc_audit.specs.Walk.{AreFound}
use Rattle.mbdc_audit.proofs.Checks.{all_full, all_more, link, same}
use Rattle.mbdc_audit.specs.View.{seen_value, house_of, window_of}
use Rattle.mbdc_audit.specs.declared.house.Value as value_type
use Rattle.mbdc_audit.specs.Amount.{counting}
use Rattle.mbdc_audit.specs.Sound.{AreOneCurve}
use Rattle.mbdc_audit.proofs.Curves.{curve_is}
use Rattle.mbdc_audit.proofs.teller.Teller.check_common.Goals as goal

pub earlier-preserved : goal.earlier-preserved
earlier-preserved g c = λ here all.
    let below : c.earlier.other-index < length c.args.earlier.now = omega arith in
    let item = c.other-item.result in
    let found = subst (λ w. AreFound w.values.items) (sym c.other-item.is) (all c.earlier.other-index item below) in
    let curve = subst (λ (vs : List value_type.Value). map seen_value c.in_ok-there.there.values.items ≡ counting (map seen_value vs)) c.deref.ensures.value
    (curve_is c.in_ok-there.there.values.items c.deref.result.now (subst (λ (vs : List value_type.Value). AreFound vs) (sym c.deref.ensures.value) found)
    (c.in_ok-there.ensures.raw refl)) in
    link (c.earlier.invariant here all) (c.in_ok-check_two.ensures here curve)
    (all_more (λ w. AreOneCurve (house_of c.args.house.now) (window_of w) (window_of c.args.one.0.now)) c.args.earlier.now
    c.earlier.other-index item below c.other-item.is)

pub returns : goal.returns
returns g c = λ here all.
    let past : length c.args.earlier.now ≤ c.earlier.other-index = omega arith in
    same (c.earlier.invariant here all)
    (all_full (λ w. AreOneCurve (house_of c.args.house.now) (window_of w) (window_of c.args.one.0.now)) c.args.earlier.now c.earlier.other-index past)
