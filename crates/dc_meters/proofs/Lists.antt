-- Meters and readings that are read one after the other, in order.
use Rattle.std.proofs.Common.{◌≡◌, ℕ, ◌-◌, ◌+◌, ◌<◌, List, [], ◌∷◌, ◌++◌, map, Some, sym, subst, ◌∙◌, append_assoc}
use Rattle.std.specs.Prelude.{All}
use Rattle.std.specs.Map.{keys_of}
use Rattle.std.specs.BTreeMap.{insert_entry}
use Rattle.std.specs.List.Sorted.{IsStrictlySortedBy}
use Rattle.std.specs.Ordering.{nat_cmp}
use Rattle.std.specs.declared.cmp.Ordering.TheVariants.{Less}
use Rattle.std.proofs.lemmas.Cmp.{ranked}
use Rattle.std.proofs.lemmas.List.Elements.{All-nil, All-push, All-head, All-tail, All-cons}
use Rattle.dc_address.specs.declared.identity.Identity.{Identity}
use Rattle.dc_address.specs.Identity.{identity_cmp}
use Rattle.mbdc_change.specs.State.{MeterRow, ReadingRow}
use Rattle.mbdc_change.specs.Valid.{IsOpenSerial}
use Rattle.mbdc_change.specs.Order.{MetersAscend, ReadingsAscend, IsNextSerial}
use Rattle.mbdc_change.specs.Pieces.{Reader, many}
use Rattle.mbdc_change.specs.Reading.{entry_at, reading_at}
use Rattle.dc_meters.proofs.Counts.{with_front, begins_with, goes_on, front_of}
use Rattle.dc_meters.proofs.Ascending.{insert_last, before_next}
use Rattle.dc_address.proofs.Order.{identities_total}
use Rattle.dc_meters.proofs.Readings.{sorted_of_pushed}

-- what was read and what is still read are all that is read
abbrev pub IsReadOf : {X : Type 0} → Reader X → ℕ → List ℕ → List X → ℕ → List ℕ → Type 0
IsReadOf at count bytes front i rest = with_front front (many at (count - i) rest) ≡ many at count bytes

-- ---- meters

pub record AreMetersUpTo (count : ℕ) (bytes : List ℕ) (meters : List (Identity × MeterRow)) (i : ℕ) (rest : List ℕ) : Type 0 where
  pub read : IsReadOf entry_at count bytes meters i rest
  pub ascend : MetersAscend meters

-- a meter that isn't after those before it is in no ascending list
pub meter_refused : (count : ℕ) (bytes : List ℕ) (meters : List (Identity × MeterRow)) (i : ℕ) (rest : List ℕ) (meter : Identity) (row : MeterRow) (after : List ℕ) (all : List (Identity × MeterRow)) (end : List ℕ)
    → AreMetersUpTo count bytes meters i rest → i < count → entry_at rest ≡ Some ((meter, row), after) → (All (λ other. identity_cmp other meter ≡ Less) (keys_of meters) → ⊥)
    → many entry_at count bytes ≡ Some (all, end) → MetersAscend all → ⊥
meter_refused count bytes meters i rest meter row after all end so_far below found refused whole ascend =
    let entry : Identity × MeterRow = (meter, row) in
    let on = goes_on entry_at meters count i rest entry after (many entry_at count bytes) below found so_far.read in
    let more = front_of (meters ++ entry ∷ []) (many entry_at (count - (i + 1)) after) all end (on ∙ whole) in
    let grouped : all ≡ meters ++ entry ∷ more.0 = more.1 ∙ append_assoc meters (entry ∷ []) more.0 in
    refused (before_next identity_cmp (λ (e : Identity × MeterRow). e.0) meters entry more.0 (subst MetersAscend grouped ascend))

-- one meter more
pub meter_kept : (count : ℕ) (bytes : List ℕ) (meters new : List (Identity × MeterRow)) (i : ℕ) (rest : List ℕ) (meter : Identity) (row : MeterRow) (after : List ℕ)
    → AreMetersUpTo count bytes meters i rest → i < count → entry_at rest ≡ Some ((meter, row), after) → All (λ other. identity_cmp other meter ≡ Less) (keys_of meters)
    → new ≡ insert_entry identity_cmp meters meter row → MetersAscend new → AreMetersUpTo count bytes new (i + 1) after
meter_kept count bytes meters new i rest meter row after so_far below found behind is ascend =
    let entry : Identity × MeterRow = (meter, row) in
    let on = goes_on entry_at meters count i rest entry after (many entry_at count bytes) below found so_far.read in
    let last : new ≡ meters ++ entry ∷ [] = is ∙ insert_last identities_total meters meter row behind in
    record { read = subst (λ (ms : List (Identity × MeterRow)). IsReadOf entry_at count bytes ms (i + 1) after) (sym last) on; ascend = ascend }

-- ---- readings

pub record AreReadingsUpTo (count : ℕ) (bytes : List ℕ) (confirmed next : ℕ) (readings : List ReadingRow) (i : ℕ) (rest : List ℕ) : Type 0 where
  pub read : IsReadOf reading_at count bytes readings i rest
  pub ascend : ReadingsAscend confirmed next readings

below_serial : (readings : List ReadingRow) (serial : ℕ) → All (λ (q : ℕ). nat_cmp q serial ≡ Less) (map (λ (r : ReadingRow). r.serial) readings) → All (λ (r : ReadingRow). r.serial < serial) readings
below_serial [] serial all = All-nil (λ (r : ReadingRow). r.serial < serial)
below_serial (r ∷ rs) serial all =
    let first : r.serial < serial = ranked r.serial serial Less (sym (All-head (λ (q : ℕ). nat_cmp q serial ≡ Less) r.serial (map (λ (r : ReadingRow). r.serial) rs) all)) in
    All-cons (λ (r : ReadingRow). r.serial < serial) r rs first (below_serial rs serial (All-tail (λ (q : ℕ). nat_cmp q serial ≡ Less) r.serial (map (λ (r : ReadingRow). r.serial) rs) all))

open_at_next : (P : ReadingRow → Type 0) (front : List ReadingRow) (r : ReadingRow) (more : List ReadingRow) → All P (front ++ r ∷ more) → P r
open_at_next P [] r more all = All-head P r more all
open_at_next P (x ∷ front) r more all = open_at_next P front r more (All-tail P x (front ++ r ∷ more) all)

pub reading_refused : (count : ℕ) (bytes : List ℕ) (confirmed next : ℕ) (readings : List ReadingRow) (i : ℕ) (rest : List ℕ) (reading : ReadingRow) (after : List ℕ) (all : List ReadingRow) (end : List ℕ)
    → AreReadingsUpTo count bytes confirmed next readings i rest → i < count → reading_at rest ≡ Some (reading, after) → (IsNextSerial confirmed next readings reading.serial → ⊥)
    → many reading_at count bytes ≡ Some (all, end) → ReadingsAscend confirmed next all → ⊥
reading_refused count bytes confirmed next readings i rest reading after all end so_far below found refused whole ascend =
    let on = goes_on reading_at readings count i rest reading after (many reading_at count bytes) below found so_far.read in
    let more = front_of (readings ++ reading ∷ []) (many reading_at (count - (i + 1)) after) all end (on ∙ whole) in
    let grouped : all ≡ readings ++ reading ∷ more.0 = more.1 ∙ append_assoc readings (reading ∷ []) more.0 in
    let order : ReadingsAscend confirmed next (readings ++ reading ∷ more.0) = subst (ReadingsAscend confirmed next) grouped ascend in
    refused (record {
      is_open = open_at_next (λ (r : ReadingRow). IsOpenSerial confirmed next r.serial) readings reading more.0 order.are_open;
      later = below_serial readings reading.serial (before_next nat_cmp (λ (r : ReadingRow). r.serial) readings reading more.0 order.ascend);
    })

pub reading_kept : (count : ℕ) (bytes : List ℕ) (confirmed next : ℕ) (readings : List ReadingRow) (i : ℕ) (rest : List ℕ) (reading : ReadingRow) (after : List ℕ)
    → AreReadingsUpTo count bytes confirmed next readings i rest → i < count → reading_at rest ≡ Some (reading, after) → IsNextSerial confirmed next readings reading.serial
    → AreReadingsUpTo count bytes confirmed next (readings ++ reading ∷ []) (i + 1) after
reading_kept count bytes confirmed next readings i rest reading after so_far below found is = record {
  read = goes_on reading_at readings count i rest reading after (many reading_at count bytes) below found so_far.read;
  ascend = record {
    ascend = sorted_of_pushed readings reading so_far.ascend.ascend is.later;
    are_open = All-push (λ (r : ReadingRow). IsOpenSerial confirmed next r.serial) readings reading so_far.ascend.are_open is.is_open;
  };
}

pub no_readings : (count : ℕ) (bytes : List ℕ) (confirmed next : ℕ) → AreReadingsUpTo count bytes confirmed next [] 0 bytes
unfolding IsStrictlySortedBy
no_readings count bytes confirmed next = record {
  read = begins_with reading_at count bytes;
  ascend = record { ascend = tt; are_open = All-nil (λ (r : ReadingRow). IsOpenSerial confirmed next r.serial) };
}
