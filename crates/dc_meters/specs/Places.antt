-- The meters indexed by flat, and by bus line and primary address (this product).
use Rattle.std.specs.Prelude.{◌≡◌, ℕ, ◌==◌, Bool, true, false, ◌&&◌, List, [], ◌∷◌, ◌++◌, map}
use Rattle.std.specs.Prelude.{Option, None, Some}
use Rattle.std.specs.List.{list_any}
use Rattle.std.specs.List.Sorted.{IsStrictlySortedBy}
use Rattle.std.specs.Map.{lookup, keys_of, set_value}
use Rattle.std.specs.BTreeMap.{is_at}
use Rattle.std.specs.Ordering.{nat_cmp, ordering_then, on, then_cmp, is_eq}
use Rattle.std.specs.declared.cmp.Ordering.{Ordering}
use Rattle.std.specs.Cmp.Lexicographic.{slice_cmp}
use Rattle.dc_address.specs.declared.identity.Identity.{Identity}
use Rattle.dc_address.specs.Identity.{identity_cmp}
use Rattle.mbdc_change.specs.State.{MeterRow, ReadingRow}
use Rattle.mbdc_change.specs.Size.{meter_size, reading_size}
use Rattle.mbdc_change.specs.Valid.{IsMeter, IsReading}
use Rattle.mbdc_change.specs.Accepts.{occupies}
use Rattle.dc_meters.specs.declared.place.Place.{Place}
use Rattle.dc_meters.specs.declared.place.BusPlace.{BusPlace}
use Rattle.dc_meters.specs.Ascending.{ascending}

-- ---- the meters by flat

-- by flat, byte by byte, and then by identity
abbrev pub place_cmp : Place → Place → Ordering
place_cmp = then_cmp (on (λ p. p.flat) (slice_cmp nat_cmp)) (on (λ p. p.meter) identity_cmp)

abbrev pub place_of : Identity × MeterRow → Place
place_of entry = record { flat = entry.1.flat; meter = entry.0 }

-- the meters' places, in order
abbrev pub by_flat : List (Identity × MeterRow) → List Place
by_flat meters = ascending place_cmp (map place_of meters)

-- ---- the indexes of the meters

-- by bus line, then by primary address, and then by identity
abbrev pub bus_cmp : BusPlace → BusPlace → Ordering
bus_cmp a b = ordering_then (nat_cmp a.line b.line)
    (ordering_then (nat_cmp a.address b.address) (identity_cmp a.meter b.meter))

abbrev pub is_on_bus : ℕ → ℕ → BusPlace → Bool
is_on_bus line address p = (p.line == line) && (p.address == address)

abbrev pub among : {P : Type 0} → (P → P → Ordering) → List P → P → Bool
among cmp places q = list_any (is_at (cmp q)) places

-- the meter with this row is there
abbrev pub is_in_flat : Place → MeterRow → Bool
is_in_flat q row = is_eq (slice_cmp nat_cmp q.flat row.flat)

abbrev pub hangs_at : BusPlace → MeterRow → Bool
hangs_at q row = occupies q.line (Some q.address) row

abbrev pub stands : {P : Type 0} → (P → MeterRow → Bool) → P → Option MeterRow → Bool
stands here q None = false
stands here q (Some row) = here q row

-- the place is that of this meter with this row
abbrev pub is_own : {P : Type 0} → (P → Identity) → (P → MeterRow → Bool) → Identity → MeterRow → P
    → Bool
is_own meter_of here meter row q = is_at (identity_cmp meter) (meter_of q) && here q row

-- the meter has no place
abbrev pub IsNowhere : {P : Type 0} → (P → P → Ordering) → (P → Identity) → Identity → List P
    → Type 0
IsNowhere {P} cmp meter_of meter places =
    (q : P) → is_at (identity_cmp meter) (meter_of q) ≡ true → among cmp places q ≡ false

-- the places are those of the meters
abbrev pub ArePlaces : {P : Type 0} → (P → P → Ordering) → (P → Identity) → (P → MeterRow → Bool)
    → List P → List (Identity × MeterRow) → Type 0
ArePlaces {P} cmp meter_of here places meters =
    (q : P) → among cmp places q ≡ stands here q (lookup (is_at (identity_cmp (meter_of q))) meters)

abbrev pub meter_by_flat : Place → Identity
meter_by_flat p = p.meter

abbrev pub meter_on_bus : BusPlace → Identity
meter_on_bus p = p.meter

-- ---- meters in memory

pub record MeterRows : Type 0 where
  pub entries : List (Identity × MeterRow)

-- meters that ascend, and their indexes by flat and on the bus
pub record AreIndexed (flats : List Place) (bus : List BusPlace)
    (meters : List (Identity × MeterRow)) : Type 0 where
  pub ascend : IsStrictlySortedBy identity_cmp (keys_of meters)
  pub by_flat : ArePlaces place_cmp meter_by_flat is_in_flat flats meters
  pub on_bus : ArePlaces bus_cmp meter_on_bus hangs_at bus meters

-- the meters after one was assigned to a flat
abbrev pub moved_in : Identity → List ℕ → Option MeterRow → List (Identity × MeterRow)
    → List (Identity × MeterRow)
moved_in meter flat None meters = meters
moved_in meter flat (Some row) meters =
    set_value (is_at (identity_cmp meter)) meters (record row { flat = flat })

-- the meter has another row, of this size
pub record IsWrittenOver (meter : Identity) (row : MeterRow) (size : ℕ)
    (old new : List (Identity × MeterRow)) : Type 0 where
  pub entries : new ≡ set_value (is_at (identity_cmp meter)) old row
  pub size_is : size ≡ meter_size row
  pub is_meter : IsMeter row

-- one more reading, of this size
pub record IsRead (reading : ReadingRow) (size : ℕ) (old new : List ReadingRow) : Type 0 where
  pub readings : new ≡ old ++ reading ∷ []
  pub size_is : size ≡ reading_size reading
  pub is_reading : IsReading reading
