use Rattle.std.proofs.Common.{arith, ◌≤◌, ◌<◌, List, length, map, ap, subst, sym, ◌∙◌}
use Rattle.std.specs.Prelude.{All}
use Rattle.mbdc_audit.specs.House.{Window}
use Rattle.mbdc_audit.specs.Settled.{AreCounted, AreKnown, IsOnly}
use Rattle.mbdc_audit.specs.Sound.{IsRead}
use Rattle.mbdc_audit.specs.View.{place_of, run_of, use_of, window_of}
use Rattle.mbdc_audit.specs.File.{bare_window}
use Rattle.mbdc_audit.specs.declared.curve.Run as run_type
use Rattle.mbdc_audit.specs.declared.uses.Counted.{Counted}
use Rattle.mbdc_audit.proofs.Checks.{all_full, all_map, back, link, same, through}
use Rattle.mbdc_audit.proofs.Evidences.{read_by}
use Rattle.mbdc_audit.proofs.Written.{in_vector, looks, stays, written}
use Rattle.mbdc_audit.proofs.teller.Teller.read_place.Goals as goal

pub windows-preserved : goal.windows-preserved
windows-preserved g c =
    let rs = map run_of c.as_slice-runs.result.now in
    let q = c.in_ok-counts.counts in
    let ws = c.windows.windows in
    let i = c.windows.window-index in
    let new = c.read_window.new.window in
    let lt : i < length ws = omega (arith, c.windows-test.true, c.windows.auto.windows) in
    let found = c.in_ok-read_window.ensures.found in (
      link c.windows.invariant.0 found (written (λ w. IsRead rs q (window_of w)) ws i new lt),
      stays (λ w. bare_window (window_of w)) ws i c.window-item.result new lt c.in_ok-read_window.ensures.kept ∙ c.windows.invariant.1,
      λ clean. (written (λ w. AreKnown w) ws i new lt).1 (c.windows.invariant.2 (found.0 clean).0, c.in_ok-read_window.ensures.values clean),
      (written (λ w. AreCounted rs w) ws i new lt).1 (c.windows.invariant.3, c.in_ok-read_window.ensures.parts),
      (written (λ w. IsOnly rs q w) ws i new lt).1 (c.windows.invariant.4, c.in_ok-read_window.ensures.only),
    )

pub returns-clause-found : goal.returns-clause-found
returns-clause-found g c =
    let p = c.args.place.now in
    let new = c.windows.windows in
    let rs = map run_of c.as_slice-runs.result.now in
    let q = c.in_ok-counts.counts in
    let past : length new ≤ c.windows.window-index = omega (arith, c.windows-test.false) in
    let are = in_vector p.windows.len new p.windows.items (omega (arith, p.windows.ok.0, c.windows.auto.windows, c.as_mut_slice-windows.ensures.len)) in
    link c.in_ok-counts.ensures.found
    (same c.windows.invariant.0 (through (all_full (λ w. IsRead rs q (window_of w)) new c.windows.window-index past)
    (back (all_map (IsRead rs q) (λ w. window_of w) new))))
    (read_by (map use_of c.args.uses.now) p.used rs (map run_of p.runs.items) q (map window_of new) _
    (ap (λ (l : List run_type.Run). map run_of l) c.as_slice-runs.ensures.value) (ap (λ l. map window_of l) are) c.in_ok-counts.ensures.one)

pub returns-clause-kept : goal.returns-clause-kept
returns-clause-kept g c =
    let p = c.args.place.now in
    let new = c.windows.windows in
    let are = in_vector p.windows.len new p.windows.items (omega (arith, p.windows.ok.0, c.windows.auto.windows, c.as_mut_slice-windows.ensures.len)) in
    ap (λ (l : List Window). record (place_of p) { windows = l })
    (looks (λ w. window_of w) bare_window _ new c.as_mut_slice-windows.result.now p.windows.items are c.as_mut_slice-windows.ensures.value c.windows.invariant.1)

pub returns-clause-values : goal.returns-clause-values
returns-clause-values g c = λ clean.
    let p = c.args.place.now in
    let new = c.windows.windows in
    let past : length new ≤ c.windows.window-index = omega (arith, c.windows-test.false) in
    let are = in_vector p.windows.len new p.windows.items (omega (arith, p.windows.ok.0, c.windows.auto.windows, c.as_mut_slice-windows.ensures.len)) in
    subst (λ l. All (λ w. AreKnown w) l) (sym are) ((all_full (λ w. AreKnown w) new c.windows.window-index past).0 (c.windows.invariant.2 clean))

pub returns-clause-parts : goal.returns-clause-parts
returns-clause-parts g c =
    let p = c.args.place.now in
    let new = c.windows.windows in
    let past : length new ≤ c.windows.window-index = omega (arith, c.windows-test.false) in
    let are = in_vector p.windows.len new p.windows.items (omega (arith, p.windows.ok.0, c.windows.auto.windows, c.as_mut_slice-windows.ensures.len)) in
    subst (λ l. All (λ w. AreCounted (map run_of p.runs.items) w) l) (sym are)
    (subst (λ (k : List run_type.Run). All (λ w. AreCounted (map run_of k) w) new) c.as_slice-runs.ensures.value
    ((all_full (λ w. AreCounted (map run_of c.as_slice-runs.result.now) w) new c.windows.window-index past).0 c.windows.invariant.3))

pub returns-clause-only : goal.returns-clause-only
returns-clause-only g c = λ u is.
    let p = c.args.place.now in
    let new = c.windows.windows in
    let past : length new ≤ c.windows.window-index = omega (arith, c.windows-test.false) in
    let are = in_vector p.windows.len new p.windows.items (omega (arith, p.windows.ok.0, c.windows.auto.windows, c.as_mut_slice-windows.ensures.len)) in
    subst (λ l. All (λ w. IsOnly (map run_of p.runs.items) u.counts w) l) (sym are)
    (subst (λ (q : Counted). All (λ w. IsOnly (map run_of p.runs.items) q w) new) (sym (c.in_ok-counts.ensures.one u is))
    (subst (λ (k : List run_type.Run). All (λ w. IsOnly (map run_of k) c.in_ok-counts.counts w) new) c.as_slice-runs.ensures.value
    ((all_full (λ w. IsOnly (map run_of c.as_slice-runs.result.now) c.in_ok-counts.counts w) new c.windows.window-index past).0 c.windows.invariant.4)))
