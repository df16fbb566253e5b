-- The order of meters and readings in a state.
use Rattle.std.specs.Prelude.{ℕ, ◌<◌, List, map, All}
use Rattle.std.specs.Map.{keys_of}
use Rattle.std.specs.List.Sorted.{IsStrictlySortedBy}
use Rattle.std.specs.Ordering.{nat_cmp}
use Rattle.dc_address.specs.declared.identity.Identity.{Identity}
use Rattle.dc_address.specs.Identity.{identity_cmp}
use Rattle.mbdc_change.specs.State.{MeterRow, ReadingRow}
use Rattle.mbdc_change.specs.Valid.{IsOpenSerial}

-- by identity, each once
abbrev pub MetersAscend : List (Identity × MeterRow) → Type 0
MetersAscend meters = IsStrictlySortedBy identity_cmp (keys_of meters)

-- by serial, each between the mark and the next serial
pub record ReadingsAscend (confirmed next : ℕ) (readings : List ReadingRow) : Type 0 where
  pub ascend : IsStrictlySortedBy nat_cmp (map (λ (r : ReadingRow). r.serial) readings)
  pub are_open : All (λ (r : ReadingRow). IsOpenSerial confirmed next r.serial) readings

-- the condition on the next serial
pub record IsNextSerial (confirmed next : ℕ) (readings : List ReadingRow)
    (serial : ℕ) : Type 0 where
  pub is_open : IsOpenSerial confirmed next serial
  pub later : All (λ (r : ReadingRow). r.serial < serial) readings
