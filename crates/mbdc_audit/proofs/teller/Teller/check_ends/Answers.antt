use Rattle.std.proofs.Common.{◌≡◌, ◌<◌, ◌≤◌, List, map, length, arith, sym, refl, subst}
use Rattle.mbdc_audit.specs.Walk.{AreFound}
use Rattle.mbdc_audit.proofs.Checks.{all_of, back, link, pairs_full, pairs_map, pairs_more, same, through}
use Rattle.mbdc_audit.specs.View.{seen_value, house_of, window_of}
use Rattle.mbdc_audit.specs.declared.house.Value as value_type
use Rattle.std.proofs.lemmas.List.Elements.{All-take}
use Rattle.mbdc_audit.proofs.Checks.{pairs_of}
use Rattle.mbdc_audit.specs.Amount.{counting}
use Rattle.mbdc_audit.specs.Sound.{AreOneCurve}
use Rattle.mbdc_audit.proofs.Curves.{curve_is}
use Rattle.mbdc_audit.proofs.teller.Teller.check_ends.Goals as goal

pub windows-preserved : goal.windows-preserved
windows-preserved g c = λ all.
    let below : c.windows.i < length c.as_slice-windows.result.now = omega arith in
    let item = c.index-windows-i.result in
    let found = subst (λ w. AreFound w.values.items) (sym c.index-windows-i.is) (all c.windows.i item below) in
    let curve = subst (λ (vs : List value_type.Value). map seen_value c.in_ok-here.here.values.items ≡ counting (map seen_value vs)) c.deref-in-windows.ensures.value
    (curve_is c.in_ok-here.here.values.items c.deref-in-windows.result.now (subst (λ (vs : List value_type.Value). AreFound vs) (sym c.deref-in-windows.ensures.value) found)
    (c.in_ok-here.ensures.raw refl)) in
    link (c.windows.invariant all) (c.in_ok-check_common.ensures curve (All-take (λ w. AreFound w.values.items) c.windows.i c.as_slice-windows.result.now all))
    (pairs_more (λ w x. AreOneCurve (house_of c.args.house.now) (window_of w) (window_of x)) c.as_slice-windows.result.now c.windows.i item below c.index-windows-i.is)

pub returns : goal.returns
returns g c = λ all.
    let past : length c.as_slice-windows.result.now ≤ c.windows.i = omega arith in
    let value = c.as_slice-windows.ensures.value in
    let run = c.windows.invariant ((all_of (λ w. AreFound w.values.items) value).1 all) in
    same run (through (pairs_full (λ w x. AreOneCurve (house_of c.args.house.now) (window_of w) (window_of x)) c.as_slice-windows.result.now c.windows.i past)
    (through (pairs_of (λ w x. AreOneCurve (house_of c.args.house.now) (window_of w) (window_of x)) value)
    (back (pairs_map (AreOneCurve (house_of c.args.house.now)) window_of c.args.place.now.windows.items))))
