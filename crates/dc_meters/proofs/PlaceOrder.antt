-- The orders of places.
use Rattle.std.proofs.Common.{◌≡◌, ℕ, Bool, true, false, cond, List, Option, Some, refl, sym, ap, ◌∙◌}
use Rattle.std.specs.Prelude.{◌&&◌, ◌||◌, ◌==◌, not}
use Rattle.std.specs.Ordering.{nat_cmp, ordering_then, is_eq}
use Rattle.std.specs.BTreeMap.{is_at}
use Rattle.std.specs.declared.cmp.Ordering.{Ordering}
use Rattle.std.specs.declared.cmp.Ordering.TheVariants.{Less, Equal, Greater}
use Rattle.std.specs.Cmp.{IsTotalOrder, nat_cmp_total, tied_then, eq_by_cmp_equiv, unsigned_ties}
use Rattle.std.specs.Cmp.Lexicographic.{slice_cmp, nat_list_cmp_total}
use Rattle.std.proofs.lemmas.Cmp.{on_total, then_total}
use Rattle.std.proofs.lemmas.Bool.{and_parts}
use Rattle.std.specs.FinMap.{IsAntisymmetric, slice_cmp-IsAntisymmetric, nat_cmp-IsAntisymmetric}
use Rattle.dc_address.specs.declared.identity.Identity.{Identity}
use Rattle.dc_address.specs.Identity.{identity_cmp}
use Rattle.dc_address.proofs.Order.{identities_total, same_from_tie}
use Rattle.mbdc_change.specs.State.{MeterRow}
use Rattle.mbdc_change.specs.Accepts.{same_primary}
use Rattle.dc_meters.specs.declared.place.Place.{Place}
use Rattle.dc_meters.specs.declared.place.BusPlace.{BusPlace}
use Rattle.dc_meters.specs.Places.{place_cmp, bus_cmp, is_own, is_in_flat, hangs_at, meter_by_flat, meter_on_bus}

pub places_total : IsTotalOrder place_cmp
places_total = then_total (on_total (λ (p : Place). p.flat) nat_list_cmp_total) (on_total (λ (p : Place). p.meter) identities_total)

pub bus_total : IsTotalOrder bus_cmp
bus_total =
    then_total (on_total (λ (p : BusPlace). p.line) nat_cmp_total)
    (then_total (on_total (λ (p : BusPlace). p.address) nat_cmp_total) (on_total (λ (p : BusPlace). p.meter) identities_total))

equal_from : (o : Ordering) → is_eq o ≡ true → o ≡ Equal
equal_from Less e = cc
equal_from Equal e = refl
equal_from Greater e = cc

same_place : (p q : Place) → p.flat ≡ q.flat → p.meter ≡ q.meter → p ≡ q
same_place p q flat meter i = record { flat = flat i; meter = meter i }

-- two places tie where their flats and their meters tie
pub place_ties : (p q : Place) → is_eq (place_cmp p q) ≡ (is_eq (slice_cmp nat_cmp p.flat q.flat) && is_eq (identity_cmp p.meter q.meter))
place_ties p q = sym (tied_then (slice_cmp nat_cmp p.flat q.flat) (identity_cmp p.meter q.meter))

pub places_same : IsAntisymmetric place_cmp
places_same p q e =
    let parts = and_parts (is_eq (slice_cmp nat_cmp p.flat q.flat)) (is_eq (identity_cmp p.meter q.meter)) (sym (place_ties p q) ∙ ap is_eq e) in
    same_place p q (slice_cmp-IsAntisymmetric nat_cmp-IsAntisymmetric p.flat q.flat (equal_from _ parts.0)) (same_from_tie p.meter q.meter parts.1)

-- ---- the place of a meter

mirrored_flats : (a b : List ℕ) → is_eq (slice_cmp nat_cmp a b) ≡ is_eq (slice_cmp nat_cmp b a)
mirrored_flats a b = (eq_by_cmp_equiv nat_list_cmp_total).symm a b

swapped : (a b : Bool) → (a && b) ≡ (b && a)
swapped true true = refl
swapped true false = refl
swapped false true = refl
swapped false false = refl

pub own_place : (meter : Identity) (flat : List ℕ) (row : MeterRow) (q : Place) → row.flat ≡ flat → is_at (place_cmp (record { flat = flat; meter = meter })) q ≡ is_own meter_by_flat is_in_flat meter row q
own_place meter flat row q is =
    place_ties (record { flat = flat; meter = meter }) q
    ∙ ap (λ (b : Bool). b && is_eq (identity_cmp meter q.meter)) (mirrored_flats flat q.flat ∙ ap (λ (f : List ℕ). is_eq (slice_cmp nat_cmp q.flat f)) (sym is))
    ∙ swapped (is_eq (slice_cmp nat_cmp q.flat row.flat)) (is_eq (identity_cmp meter q.meter))

turned : (a b c : Bool) → (a && (b && c)) ≡ (c && (a && b))
turned true true true = refl
turned true true false = refl
turned true false true = refl
turned true false false = refl
turned false b true = refl
turned false b false = refl

pub own_bus_place : (meter : Identity) (line address : ℕ) (row : MeterRow) (q : BusPlace) → row.line ≡ line → row.address ≡ Some address → is_at (bus_cmp (record { line = line; address = address; meter = meter })) q ≡ is_own meter_on_bus hangs_at meter row q
own_bus_place meter line address row q line_is address_is =
    let at = is_eq (identity_cmp meter q.meter) in
    sym (tied_then (nat_cmp line q.line) (ordering_then (nat_cmp address q.address) (identity_cmp meter q.meter)))
    ∙ ap (λ (b : Bool). is_eq (nat_cmp line q.line) && b) (sym (tied_then (nat_cmp address q.address) (identity_cmp meter q.meter)))
    ∙ turned (is_eq (nat_cmp line q.line)) (is_eq (nat_cmp address q.address)) at
    ∙ ap (λ (b : Bool). at && (b && is_eq (nat_cmp address q.address))) (sym (unsigned_ties line q.line) ∙ ap (λ (n : ℕ). n == q.line) (sym line_is))
    ∙ ap (λ (b : Bool). at && ((row.line == q.line) && b)) (sym (unsigned_ties address q.address))
    ∙ ap (λ (o : Option ℕ). at && ((row.line == q.line) && same_primary (Some q.address) o)) (sym address_is)

-- ---- one place in or out

pub put_in : (t a b : Bool) → t ≡ b → cond t true a ≡ (a || b)
put_in true true b e = refl
put_in true false b e = e
put_in false true b e = refl
put_in false false b e = e

pub taken_out : (t a b : Bool) → t ≡ b → cond t false a ≡ (a && not b)
taken_out true true b e = ap not e
taken_out true false b e = refl
taken_out false true b e = ap not e
taken_out false false b e = refl
