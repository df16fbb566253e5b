-- How far a walk over the entries has come: for the contracts of private functions.
use Rattle.std.specs.Prelude.{◌≡◌, ℕ, ◌<◌, ◌≤◌, List, length, take, slice_index_or}
use Rattle.mbdc_audit.specs.declared.consumption.entry.Entry.{Entry}
use Rattle.mbdc_audit.specs.declared.consumption.reached.Reached.{Reached}
use Rattle.mbdc_audit.specs.Consumption.Step.{total}

-- the walk has passed some entries, and none after the moment
pub record IsBefore (moment : ℕ) (entries : List Entry) (reached : Reached) : Type 0 where
  pub within : reached.count ≤ length entries
  pub before : (k : ℕ) (d : Entry) → k < reached.count
      → (slice_index_or entries k d).moment ≤ moment
  pub sum_is : reached.sum ≡ total (take reached.count entries)

-- the walk has passed the entries at the moment or before it, and no other
pub record HasReached (moment : ℕ) (entries : List Entry) (reached : Reached) : Type 0 where
  pub within : reached.count ≤ length entries
  pub before : (k : ℕ) (d : Entry) → k < reached.count
      → (slice_index_or entries k d).moment ≤ moment
  pub after : (d : Entry) → reached.count < length entries
      → moment < (slice_index_or entries reached.count d).moment
  pub sum_is : reached.sum ≡ total (take reached.count entries)
