use Rattle.std.proofs.Common.{◌≡◌, ◌<◌, ◌≤◌, map, flat_map, length, arith, sym, ap, ◌∙◌, subst, Some}
use Rattle.mbdc_audit.proofs.Checks.{all_full, all_more, back, link, same}
use Rattle.mbdc_audit.specs.View.{house_of, use_of, window_of, place_of}
use Rattle.std.proofs.Common.{slice_get}
use Rattle.mbdc_audit.proofs.Checks.{pair}
use Rattle.mbdc_audit.proofs.Ends.{walks_all, walks_then, walks_same, walks_by, walks_ends, walks_more}
use Rattle.std.specs.BTreeMap.{get}
use Rattle.std.specs.Ordering.{nat_cmp}
use Rattle.mbdc_audit.specs.House.{Use}
use Rattle.mbdc_audit.specs.Sound.{ends_of}
use Rattle.mbdc_audit.proofs.Windowed.{IsOpened, built_window, opened_is, place_is, use_is, used_there}
use Rattle.mbdc_audit.proofs.Timed.{flat_of}
use Rattle.mbdc_audit.proofs.teller.Teller.check_place.Goals as goal

pub windows-preserved : goal.windows-preserved
windows-preserved g c = λ built there.
    let below : c.windows.window-index < length c.as_slice-windows.result.now = omega arith in
    let h = house_of c.args.house.now in
    let p = place_of c.args.place.now in
    let is = ap (λ ws. map window_of ws) (sym c.as_slice-windows.ensures.value) in
    let found = built_window h p c.as_slice-windows.result.now is built there c.windows.window-index c.window-item.result below c.window-item.is in
    walks_more (λ w. ends_of (window_of w)) c.as_slice-windows.result.now c.windows.window-index c.window-item.result below c.window-item.is
    (back (all_more (IsOpened h p) c.as_slice-windows.result.now c.windows.window-index c.window-item.result below c.window-item.is))
    (c.windows.invariant built there)
    (walks_same (opened_is h p c.window-item.result found.0.0 found.0.1) (c.in_ok-check_opened.ensures found.0.0 found.0.1 found.1))

pub returns : goal.returns
returns g c = λ built there.
    let past : length c.as_slice-windows.result.now ≤ c.windows.window-index = omega arith in
    let h = house_of c.args.house.now in
    let p = place_of c.args.place.now in
    let is = ap (λ ws. map window_of ws) (sym c.as_slice-windows.ensures.value) in
    let u = used_there h p built there in
    let used = use_is c.args.house.now.uses.items c.args.place.now.used c.used-used.result u.0 c.used-used.ensures u.1 in
    let at = subst (λ (x : Use). slice_get h.uses p.used ≡ Some x) (sym used) u.1 in
    walks_ends (flat_of ends_of window_of c.as_slice-windows.result.now ∙ ap (λ ws. flat_map ends_of (map window_of ws)) c.as_slice-windows.ensures.value)
    (walks_same (place_is h p (use_of c.used-used.result) c.as_slice-windows.result.now at is)
    (walks_then (walks_by (get nat_cmp c.args.offsets.now) (link (same c.in_ok-unless.ensures c.is_weighed.ensures)
    (link c.in_ok-check_runs.ensures c.in_ok-check_spanned.ensures pair) pair))
    (walks_all (λ w. ends_of (window_of w)) c.as_slice-windows.result.now c.windows.window-index past
    (all_full (IsOpened h p) c.as_slice-windows.result.now c.windows.window-index past) (c.windows.invariant built there))))
