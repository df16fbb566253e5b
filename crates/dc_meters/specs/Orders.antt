-- Queries of readings that ascend by serial, and the serials indexed by keys (this product).
use Rattle.std.specs.Prelude.{◌≡◌, ℕ, ◌<◌, ◌-◌, ◌^◌, ◌==◌, Bool, true, false, ◌&&◌, List, map}
use Rattle.std.specs.Prelude.{filter, find, nat_le, All, Option}
use Rattle.std.specs.List.{list_any}
use Rattle.std.specs.List.Sorted.{IsStrictlySortedBy}
use Rattle.std.specs.Ordering.{nat_cmp, ordering_then, is_eq}
use Rattle.std.specs.declared.cmp.Ordering.{Ordering}
use Rattle.std.specs.BTreeMap.{is_at}
use Rattle.std.specs.BTreeMap.Range.{range_contains}
use Rattle.std.specs.declared.ops.Bound.TheVariants.{Included}
use Rattle.dc_address.specs.declared.identity.Identity.{Identity}
use Rattle.dc_address.specs.Identity.{identity_cmp}
use Rattle.dc_units.specs.Date.{Day}
use Rattle.mbdc_change.specs.State.{ReadingRow}
use Rattle.mbdc_change.specs.Valid.{IsReading}
use Rattle.dc_meters.specs.Due.{day_cmp, due_days, has_value}
use Rattle.dc_meters.specs.Points.{points_of}
use Rattle.dc_meters.specs.declared.filed.Filed.{Filed}

-- ---- the queries, each a filter of the readings

-- the readings from a serial on
abbrev pub readings_from : ℕ → List ReadingRow → List ReadingRow
readings_from serial readings = filter (λ r. nat_le serial r.serial) readings

-- the reading with a serial
abbrev pub reading_of : ℕ → List ReadingRow → Option ReadingRow
reading_of serial readings = find (λ r. r.serial == serial) readings

abbrev pub is_of : Identity → ReadingRow → Bool
is_of meter r = is_eq (identity_cmp meter r.meter)

-- the serials of a meter's readings
abbrev pub serials_of : Identity → List ReadingRow → List ℕ
serials_of meter readings = map (λ r. r.serial) (filter (is_of meter) readings)

-- the serials of the readings that have a due-date value for a date
abbrev pub due_serials : Day → List ReadingRow → List ℕ
due_serials date readings = map (λ r. r.serial) (filter (has_value date) readings)

-- ---- serials indexed by keys

-- by key, and by serial for equal keys
abbrev pub filed_cmp : {K : Type 0} → (K → K → Ordering) → Filed K → Filed K → Ordering
filed_cmp R a b = ordering_then (R a.key b.key) (nat_cmp a.serial b.serial)

-- the serials under a key
abbrev pub serials_under : {K : Type 0} → (K → K → Ordering) → K → List (Filed K) → List ℕ
serials_under {K} R key filed = map (λ (f : Filed K). f.serial)
    (filter (range_contains (filed_cmp R) (Included (record { key = key; serial = 0 }))
    (Included (record { key = key; serial = 2 ^ 64 - 1 }))) filed)

-- the index has, under each key, the serials of the readings that have it
abbrev pub AreFiled : {K : Type 0} → (K → K → Ordering) → (K → ReadingRow → Bool) → List (Filed K)
    → List ReadingRow → Type 0
AreFiled {K} R has filed readings =
    (q : Filed K) → list_any (is_at (filed_cmp R q)) filed ≡ list_any (λ r.
    has q.key r && is_eq (nat_cmp q.serial r.serial)) readings

-- ---- one reading's serial, indexed by its meter and by the days for which it has a due-date value

abbrev pub found : {K : Type 0} → (K → K → Ordering) → List (Filed K) → Filed K → Bool
found R filed q = list_any (is_at (filed_cmp R q)) filed

-- the serial is under no key
abbrev pub IsUnfiled : {K : Type 0} → (K → K → Ordering) → ℕ → List (Filed K) → Type 0
IsUnfiled {K} R serial filed = (q : Filed K) → is_eq (nat_cmp q.serial serial) ≡ true
    → found R filed q ≡ false

abbrev pub is_under_meter : Identity → ℕ → Filed Identity → Bool
is_under_meter meter serial q = is_eq (identity_cmp q.key meter) && is_eq (nat_cmp q.serial serial)

abbrev pub is_under_days : List Day → ℕ → Filed Day → Bool
is_under_days days serial q = list_any (λ day.
    is_eq (day_cmp q.key day)) days && is_eq (nat_cmp q.serial serial)

-- ---- readings in memory

-- a reading, and the days for which it has a due-date value
pub record IsDated (days : List Day) (reading : ReadingRow) : Type 0 where
  pub is_reading : IsReading reading
  pub days_are : days ≡ due_days (points_of reading.parts)

pub record ReadingRows : Type 0 where
  pub items : List ReadingRow

-- readings that ascend, and the indexes of their serials by meter and by due date
pub record AreOrdered (by_meter : List (Filed Identity)) (by_day : List (Filed Day))
    (readings : List ReadingRow) : Type 0 where
  pub ascend : IsStrictlySortedBy nat_cmp (map (λ (r : ReadingRow). r.serial) readings)
  pub fit : All (λ (r : ReadingRow). r.serial < 2 ^ 64) readings
  pub of_meters : AreFiled identity_cmp is_of by_meter readings
  pub of_days : AreFiled day_cmp has_value by_day readings
