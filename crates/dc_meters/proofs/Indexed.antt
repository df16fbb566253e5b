-- The orders of the meters through the changes of the meters.
use Rattle.std.proofs.Common.{◌≡◌, ℕ, Bool, true, false, cond, List, [], ◌∷◌, Option, None, Some, map, refl, sym, ap, subst, ◌∙◌}
use Rattle.std.specs.Prelude.{◌&&◌, ◌||◌, not, IsSome}
use Rattle.std.specs.List.{list_any, AllByRecursion}
use Rattle.std.specs.List.Sorted.{IsStrictlySortedBy}
use Rattle.std.specs.Map.{lookup, keys_of, set_value}
use Rattle.std.specs.BTreeMap.{BTreeMap, is_at, WritesThrough}
use Rattle.std.specs.Ordering.{nat_cmp, eq_by_cmp, is_eq}
use Rattle.std.specs.declared.cmp.Ordering.{Ordering}
use Rattle.std.specs.declared.cmp.Ordering.TheVariants.{Less, Equal, Greater}
use Rattle.std.specs.Cmp.Lexicographic.{slice_cmp}
use Rattle.std.specs.FinMap.{slice_cmp-IsAntisymmetric, nat_cmp-IsAntisymmetric}
use Rattle.std.proofs.lemmas.Map.Steps.{set_value_same}
use Rattle.mbdc_io.proofs.Bools.{or_false}
use Rattle.dc_address.specs.declared.identity.Identity.{Identity}
use Rattle.dc_address.specs.Identity.{identity_cmp}
use Rattle.dc_address.proofs.Order.{same_from_tie}
use Rattle.mbdc_change.specs.State.{MeterRow, PartRow}
use Rattle.dc_meters.specs.declared.place.Place.{Place}
use Rattle.dc_meters.specs.declared.place.BusPlace.{BusPlace}
use Rattle.dc_meters.specs.Places.{place_cmp, bus_cmp, place_of, by_flat, among, stands, is_own, is_in_flat, hangs_at, meter_by_flat, meter_on_bus, moved_in, AreIndexed}
use Rattle.dc_meters.proofs.InOrder.{in_order}
use Rattle.dc_meters.proofs.PlaceOrder.{places_total, places_same, place_ties}
use Rattle.dc_meters.proofs.Placed.{placed_more, placed_less, placed_same, placed_moved}

pub indexed_nothing : AreIndexed [] [] []
unfolding IsStrictlySortedBy
indexed_nothing = record { ascend = tt; by_flat = λ q. refl; on_bus = λ q. refl }

module _ (flats new_flats : List Place) (bus new_bus : List BusPlace) (old meters : List (Identity × MeterRow)) (meter : Identity) (indexed : AreIndexed flats bus old) where
  -- nothing went in
  pub indexed_back : ((q : Place) → among place_cmp new_flats q ≡ among place_cmp flats q) → ((q : BusPlace) → among bus_cmp new_bus q ≡ among bus_cmp bus q) → AreIndexed new_flats new_bus old
  indexed_back flats_are bus_is = record { ascend = indexed.ascend; by_flat = λ q. flats_are q ∙ indexed.by_flat q; on_bus = λ q. bus_is q ∙ indexed.on_bus q }

  -- a meter more
  pub indexed_more : (row : MeterRow) → lookup (is_at (identity_cmp meter)) old ≡ None → ((q : Place) → among place_cmp new_flats q ≡ (among place_cmp flats q || is_own meter_by_flat is_in_flat meter row q))
      → ((q : BusPlace) → among bus_cmp new_bus q ≡ (among bus_cmp bus q || is_own meter_on_bus hangs_at meter row q))
      → ((k : Identity) → lookup (is_at (identity_cmp k)) meters ≡ cond (is_at (identity_cmp meter) k) (Some row) (lookup (is_at (identity_cmp k)) old))
      → IsStrictlySortedBy identity_cmp (keys_of meters) → AreIndexed new_flats new_bus meters
  indexed_more row absent flats_are bus_is map_is ascend = record {
    ascend = ascend;
    by_flat = placed_more place_cmp meter_by_flat is_in_flat flats new_flats old meters meter indexed.by_flat row absent flats_are map_is;
    on_bus = placed_more bus_cmp meter_on_bus hangs_at bus new_bus old meters meter indexed.on_bus row absent bus_is map_is;
  }

  -- a meter less
  pub indexed_less : (row : MeterRow) → lookup (is_at (identity_cmp meter)) old ≡ Some row → ((q : Place) → among place_cmp new_flats q ≡ (among place_cmp flats q && not (is_own meter_by_flat is_in_flat meter row q)))
      → ((q : BusPlace) → among bus_cmp new_bus q ≡ (among bus_cmp bus q && not (is_own meter_on_bus hangs_at meter row q)))
      → ((k : Identity) → lookup (is_at (identity_cmp k)) meters ≡ cond (is_at (identity_cmp meter) k) None (lookup (is_at (identity_cmp k)) old))
      → IsStrictlySortedBy identity_cmp (keys_of meters) → AreIndexed new_flats new_bus meters
  indexed_less row found flats_are bus_is map_is ascend = record {
    ascend = ascend;
    by_flat = placed_less place_cmp meter_by_flat is_in_flat flats new_flats old meters meter indexed.by_flat row found flats_are map_is;
    on_bus = placed_less bus_cmp meter_on_bus hangs_at bus new_bus old meters meter indexed.on_bus row found bus_is map_is;
  }

  -- two flats of which a new place says that they differ
  flats_apart : (row after : MeterRow) → lookup (is_at (identity_cmp meter)) old ≡ Some row → among place_cmp flats (record { flat = after.flat; meter = meter }) ≡ false → (q : Place) → is_in_flat q row ≡ true → is_in_flat q after ≡ true → ⊥
  flats_apart row after found away q here there =
      let one : q.flat ≡ row.flat = slice_cmp-IsAntisymmetric nat_cmp-IsAntisymmetric q.flat row.flat (equal_from _ here) in
      let other : q.flat ≡ after.flat = slice_cmp-IsAntisymmetric nat_cmp-IsAntisymmetric q.flat after.flat (equal_from _ there) in
      let place : Place = record { flat = after.flat; meter = meter } in
      let not_here : is_in_flat place row ≡ false = sym (indexed.by_flat place ∙ ap (stands is_in_flat place) found) ∙ away in
      let is_here : is_in_flat place row ≡ true = ap (λ (f : List ℕ). is_eq (slice_cmp nat_cmp f row.flat)) (sym other) ∙ here in
      let both : false ≡ true = sym not_here ∙ is_here in
      cc
    where
      equal_from : (o : Ordering) → is_eq o ≡ true → o ≡ Equal
      equal_from Less e = cc
      equal_from Equal e = refl
      equal_from Greater e = cc

  -- a meter in another flat
  pub indexed_moved : (between : List Place) (row after : MeterRow) → lookup (is_at (identity_cmp meter)) old ≡ Some row → after ≡ record row { flat = after.flat }
      → among place_cmp flats (record { flat = after.flat; meter = meter }) ≡ false
      → ((q : Place) → among place_cmp between q ≡ (among place_cmp flats q || is_own meter_by_flat is_in_flat meter after q))
      → ((q : Place) → among place_cmp new_flats q ≡ (among place_cmp between q && not (is_own meter_by_flat is_in_flat meter row q))) → ((q : BusPlace) → among bus_cmp new_bus q ≡ among bus_cmp bus q)
      → ((k : Identity) → lookup (is_at (identity_cmp k)) meters ≡ cond (is_at (identity_cmp meter) k) (Some after) (lookup (is_at (identity_cmp k)) old))
      → IsStrictlySortedBy identity_cmp (keys_of meters) → AreIndexed new_flats new_bus meters
  indexed_moved between row after found is away in_is out_is bus_is map_is ascend = record {
    ascend = ascend;
    by_flat = placed_moved place_cmp meter_by_flat is_in_flat flats new_flats old meters meter indexed.by_flat between row after found (flats_apart row after found away) in_is out_is map_is;
    on_bus = placed_same bus_cmp meter_on_bus hangs_at bus new_bus old meters meter indexed.on_bus row after found (λ q. ap (hangs_at q) is) bus_is map_is;
  }

-- other parts, written in a meter's row
pub indexed_same : (flats : List Place) (bus : List BusPlace) (old new : BTreeMap Identity MeterRow) (meter : Identity) (row after : MeterRow) {parts : List PartRow} → AreIndexed flats bus old.entries
    → lookup (is_at (identity_cmp meter)) old.entries ≡ Some row → after ≡ record row { parts = parts } → WritesThrough identity_cmp (identity_cmp meter) old after new → AreIndexed flats bus new.entries
indexed_same flats bus old new meter row after indexed found is written =
    let map_is = (written.3 (subst IsSome (sym found) refl)).0 in
    record {
      ascend = written.4;
      by_flat = placed_same place_cmp meter_by_flat is_in_flat flats flats old.entries new.entries meter indexed.by_flat row after found (λ q. ap (is_in_flat q) is) (λ q. refl) map_is;
      on_bus = placed_same bus_cmp meter_on_bus hangs_at bus bus old.entries new.entries meter indexed.on_bus row after found (λ q. ap (hangs_at q) is) (λ q. refl) map_is;
    }

-- a meter that moves to its own flat
pub moved_nowhere : (flats : List Place) (bus : List BusPlace) (meters : List (Identity × MeterRow)) (meter : Identity) (row : MeterRow) (flat : List ℕ) → AreIndexed flats bus meters → lookup (is_at (identity_cmp meter)) meters ≡ Some row
    → among place_cmp flats (record { flat = flat; meter = meter }) ≡ true → meters ≡ moved_in meter flat (lookup (is_at (identity_cmp meter)) meters) meters
moved_nowhere flats bus meters meter row flat indexed found here =
    let place : Place = record { flat = flat; meter = meter } in
    let alike : is_eq (slice_cmp nat_cmp flat row.flat) ≡ true = sym (indexed.by_flat place ∙ ap (stands is_in_flat place) found) ∙ here in
    let same : row.flat ≡ flat = sym (slice_cmp-IsAntisymmetric nat_cmp-IsAntisymmetric flat row.flat (equal_from _ alike)) in
    let kept = set_value_same (is_at (identity_cmp meter)) meters row found in
    sym kept ∙ ap (λ (f : List ℕ). set_value (is_at (identity_cmp meter)) meters (record row { flat = f })) same ∙ sym (ap (λ (o : Option MeterRow). moved_in meter flat o meters) found)
  where
    equal_from : (o : Ordering) → is_eq o ≡ true → o ≡ Equal
    equal_from Less e = cc
    equal_from Equal e = refl
    equal_from Greater e = cc

-- ---- the order by flat

and_false : (a : Bool) → (a && false) ≡ false
and_false true = refl
and_false false = refl

and_true : (a : Bool) → (a && true) ≡ a
and_true true = refl
and_true false = refl

-- another meter has another place
apart : (q : Place) (e : Identity × MeterRow) → is_eq (identity_cmp q.meter e.0) ≡ false → eq_by_cmp place_cmp q (place_of e) ≡ false
apart q e other = place_ties q (place_of e) ∙ ap (λ (b : Bool). is_eq (slice_cmp nat_cmp q.flat e.1.flat) && b) other ∙ and_false (is_eq (slice_cmp nat_cmp q.flat e.1.flat))

-- no later meter has the place of an earlier one
none_behind : (q : Place) (es : List (Identity × MeterRow)) → AllByRecursion (λ k. identity_cmp q.meter k ≡ Less) (keys_of es) → list_any (eq_by_cmp place_cmp q) (map place_of es) ≡ false
none_behind q [] all = refl
none_behind q (e ∷ es) all = ap (λ (b : Bool). b || list_any (eq_by_cmp place_cmp q) (map place_of es)) (apart q e (ap is_eq all.0)) ∙ none_behind q es all.1

stands_in : (q : Place) (es : List (Identity × MeterRow)) → IsStrictlySortedBy identity_cmp (keys_of es) → stands is_in_flat q (lookup (is_at (identity_cmp q.meter)) es) ≡ list_any (eq_by_cmp place_cmp q) (map place_of es)
unfolding IsStrictlySortedBy
stands_in q [] sorted = refl
stands_in q (e ∷ es) sorted = at (stands_in q es sorted.1) (is_eq (identity_cmp q.meter e.0)) refl
  where
    at : stands is_in_flat q (lookup (is_at (identity_cmp q.meter)) es) ≡ list_any (eq_by_cmp place_cmp q) (map place_of es) → (t : Bool) → is_eq (identity_cmp q.meter e.0) ≡ t
        → stands is_in_flat q (cond t (Some e.1) (lookup (is_at (identity_cmp q.meter)) es)) ≡ (eq_by_cmp place_cmp q (place_of e) || list_any (eq_by_cmp place_cmp q) (map place_of es))
    at rest false is = rest ∙ sym (ap (λ (b : Bool). b || list_any (eq_by_cmp place_cmp q) (map place_of es)) (apart q e is))
    at rest true is =
        let none = none_behind q es (subst (λ (i : Identity). AllByRecursion (λ k. identity_cmp i k ≡ Less) (keys_of es)) (sym (same_from_tie q.meter e.0 is)) sorted.0) in
        let here = place_ties q (place_of e) ∙ ap (λ (b : Bool). is_eq (slice_cmp nat_cmp q.flat e.1.flat) && b) is ∙ and_true (is_eq (slice_cmp nat_cmp q.flat e.1.flat)) in
        sym (ap (λ (b : Bool). eq_by_cmp place_cmp q (place_of e) || b) none ∙ or_false (eq_by_cmp place_cmp q (place_of e)) ∙ here)

-- a set in order that has the meters' places is these in order
pub by_flat_is : (flats : List Place) (bus : List BusPlace) (meters : List (Identity × MeterRow)) → IsStrictlySortedBy place_cmp flats → AreIndexed flats bus meters → flats ≡ by_flat meters
by_flat_is flats bus meters ordered indexed = in_order place_cmp places_total places_same flats (map place_of meters) ordered (λ q. indexed.by_flat q ∙ stands_in q meters indexed.ascend)
