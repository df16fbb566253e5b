use Rattle.std.proofs.Common.{◌<◌, ◌≤◌, All, take, map, flat_map, length, arith, sym, ap, ◌∙◌, refl, subst}
use Rattle.mbdc_audit.specs.Walk.{AreFound, IsMet, fit, key_lived, key_of, live}
use Rattle.mbdc_audit.proofs.Checks.{all_of, link, through}
use Rattle.mbdc_audit.specs.View.{house_of, place_of}
use Rattle.mbdc_audit.proofs.Checks.{pair}
use Rattle.mbdc_audit.proofs.Ends.{walks_all, walks_then, walks_by, walks_nothing, walks_ends, walks_more}
use Rattle.std.specs.BTreeMap.{get}
use Rattle.std.specs.Ordering.{nat_cmp}
use Rattle.std.proofs.lemmas.List.{append-nil}
use Rattle.mbdc_audit.specs.Sound.{IsOnce, IsOneTenancy, ends_of_place, fitted_of, lived_of}
use Rattle.mbdc_audit.proofs.Places.{IsChecked, of_more, of_places, places_all, places_full, places_more, there}
use Rattle.mbdc_audit.proofs.PairsMet.{met_none}
use Rattle.mbdc_audit.proofs.Checks.{pairs_nil}
use Rattle.std.proofs.lemmas.List.Elements.{All-nil}
use Rattle.mbdc_audit.proofs.Timed.{flat_of}
use Rattle.mbdc_audit.proofs.teller.Teller.check_places.Goals as goal

pub places-init : goal.places-init
places-init g c = (
  met_none key_of fit c.new-meters.result c.new-meters.ensures.none,
  met_none key_lived live c.new-parts.result c.new-parts.ensures.none,
  λ built found is. walks_nothing c.args.self.now.counts (get nat_cmp c.args.offsets.now) (
    All-nil (IsChecked (house_of c.args.house.now)),
    pairs_nil IsOnce,
    pairs_nil IsOneTenancy,
  ),
)

pub places-preserved : goal.places-preserved
places-preserved g c =
    let places = c.as_slice-places.result.now in
    let below : c.places.i < length places = omega arith in
    let h = house_of c.args.house.now in
    let item = c.index-places-i.result in
    let meters = c.in_ok-check_meters.ensures (of_places fitted_of (take c.places.i places)) c.places.invariant.0 in
    let parts = c.in_ok-check_tenancy.ensures (of_places lived_of (take c.places.i places)) c.places.invariant.1 in (
      subst (λ xs. IsMet key_of fit c.check_meters.new.met xs) (of_more fitted_of places c.places.i item below c.index-places-i.is) meters.1,
      subst (λ xs. IsMet key_lived live c.check_tenancy.new.met xs) (of_more lived_of places c.places.i item below c.index-places-i.is) parts.1,
      λ built found is.
          let seen = ap (λ ps. map place_of ps) (sym is) in
          let known = subst (λ p. All (λ w. AreFound w.values.items) p.windows.items) (sym c.index-places-i.is) (found c.places.i item below) in
          walks_more (λ p. ends_of_place (place_of p)) places c.places.i item below c.index-places-i.is
          (places_more h places c.places.i item below c.index-places-i.is) (c.places.invariant.2 built found is)
          (walks_ends (append-nil _) (walks_then (c.in_ok-check_place.ensures built (there h places seen c.places.i item below c.index-places-i.is))
          (walks_by (get nat_cmp c.check_place.new.offsets) (link (c.in_ok-check_ends.ensures known) (link meters.0 parts.0 pair) pair)))),
    )

pub returns : goal.returns
returns g c = λ built found.
    let past : length c.as_slice-places.result.now ≤ c.places.i = omega arith in
    let h = house_of c.args.house.now in
    let value = c.as_slice-places.ensures.value in
    let run = c.places.invariant.2 built ((all_of (λ p. All (λ w. AreFound w.values.items) p.windows.items) value).1 found) value in
    walks_ends (flat_of ends_of_place place_of c.as_slice-places.result.now ∙ ap (λ ps. flat_map ends_of_place (map place_of ps)) value)
    (walks_all (λ p. ends_of_place (place_of p)) c.as_slice-places.result.now c.places.i past
    (through (places_full h c.as_slice-places.result.now c.places.i past)
    (places_all h c.args.house.now.places.items c.as_slice-places.result.now value refl)) run)
