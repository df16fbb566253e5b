use Rattle.std.proofs.Common.{arith, ◌≤◌, ◌<◌, List, length, map, ap, subst, sym, ◌∙◌}
use Rattle.std.specs.Prelude.{All}
use Rattle.mbdc_audit.specs.House.{Place}
use Rattle.mbdc_audit.specs.Settled.{AreCounted, AreKnown, AreOnly, IsReadBy}
use Rattle.mbdc_audit.specs.View.{house_of, place_of, run_of, use_of}
use Rattle.mbdc_audit.specs.File.{bare_place}
use Rattle.mbdc_audit.specs.declared.house.Use as use_type
use Rattle.mbdc_audit.proofs.Checks.{all_full, link, same}
use Rattle.mbdc_audit.proofs.Evidences.{all_by}
use Rattle.mbdc_audit.proofs.Written.{in_vector, looks, stays, written}
use Rattle.mbdc_audit.proofs.teller.Teller.read_values.Goals as goal

pub places-preserved : goal.places-preserved
places-preserved g c =
    let us = map use_of c.as_slice-uses.result.now in
    let ps = c.places.places in
    let i = c.places.place-index in
    let new = c.read_place.new.place in
    let lt : i < length ps = omega (arith, c.places-test.true, c.places.auto.places) in
    let found = c.in_ok-read_place.ensures.found in (
      link c.places.invariant.0 found (written (λ p. IsReadBy us (place_of p)) ps i new lt),
      stays (λ p. bare_place (place_of p)) ps i c.place-item.result new lt c.in_ok-read_place.ensures.kept ∙ c.places.invariant.1,
      λ clean. (written (λ p. All (λ w. AreKnown w) p.windows.items) ps i new lt).1 (c.places.invariant.2 (found.0 clean).0, c.in_ok-read_place.ensures.values clean),
      (written (λ p. All (λ w. AreCounted (map run_of p.runs.items) w) p.windows.items) ps i new lt).1 (c.places.invariant.3, c.in_ok-read_place.ensures.parts),
      (written (λ p. AreOnly us p) ps i new lt).1 (c.places.invariant.4, c.in_ok-read_place.ensures.only),
    )

pub returns-clause-found : goal.returns-clause-found
returns-clause-found g c =
    let h = c.args.house.now in
    let new = c.places.places in
    let us = map use_of c.as_slice-uses.result.now in
    let past : length new ≤ c.places.place-index = omega (arith, c.places-test.false) in
    let are = in_vector h.places.len new h.places.items (omega (arith, h.places.ok.0, c.places.auto.places, c.as_mut_slice-places.ensures.len)) in
    same (same c.places.invariant.0 (all_full (λ p. IsReadBy us (place_of p)) new c.places.place-index past))
    (all_by us (map use_of h.uses.items) new _ (ap (λ (l : List use_type.Use). map use_of l) c.as_slice-uses.ensures.value) are)

pub returns-clause-kept : goal.returns-clause-kept
returns-clause-kept g c =
    let h = c.args.house.now in
    let new = c.places.places in
    let are = in_vector h.places.len new h.places.items (omega (arith, h.places.ok.0, c.places.auto.places, c.as_mut_slice-places.ensures.len)) in
    ap (λ (l : List Place). record (house_of h) { places = l })
    (looks (λ p. place_of p) bare_place _ new c.as_mut_slice-places.result.now h.places.items are c.as_mut_slice-places.ensures.value c.places.invariant.1)

pub returns-clause-values : goal.returns-clause-values
returns-clause-values g c = λ clean.
    let h = c.args.house.now in
    let new = c.places.places in
    let past : length new ≤ c.places.place-index = omega (arith, c.places-test.false) in
    let are = in_vector h.places.len new h.places.items (omega (arith, h.places.ok.0, c.places.auto.places, c.as_mut_slice-places.ensures.len)) in
    subst (λ l. All (λ p. All (λ w. AreKnown w) p.windows.items) l) (sym are)
    ((all_full (λ p. All (λ w. AreKnown w) p.windows.items) new c.places.place-index past).0 (c.places.invariant.2 clean))

pub returns-clause-parts : goal.returns-clause-parts
returns-clause-parts g c =
    let h = c.args.house.now in
    let new = c.places.places in
    let past : length new ≤ c.places.place-index = omega (arith, c.places-test.false) in
    let are = in_vector h.places.len new h.places.items (omega (arith, h.places.ok.0, c.places.auto.places, c.as_mut_slice-places.ensures.len)) in
    subst (λ l. All (λ p. All (λ w. AreCounted (map run_of p.runs.items) w) p.windows.items) l) (sym are)
    ((all_full (λ p. All (λ w. AreCounted (map run_of p.runs.items) w) p.windows.items) new c.places.place-index past).0 c.places.invariant.3)

pub returns-clause-only : goal.returns-clause-only
returns-clause-only g c =
    let h = c.args.house.now in
    let new = c.places.places in
    let past : length new ≤ c.places.place-index = omega (arith, c.places-test.false) in
    let are = in_vector h.places.len new h.places.items (omega (arith, h.places.ok.0, c.places.auto.places, c.as_mut_slice-places.ensures.len)) in
    subst (λ l. All (λ p. AreOnly (map use_of h.uses.items) p) l) (sym are)
    (subst (λ (us : List use_type.Use). All (λ p. AreOnly (map use_of us) p) new) c.as_slice-uses.ensures.value
    ((all_full (λ p. AreOnly (map use_of c.as_slice-uses.result.now) p) new c.places.place-index past).0 c.places.invariant.4))
