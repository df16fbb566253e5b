-- The empty register is a state.
use Rattle.std.proofs.Common.{ℕ, ◌≤◌, [], arith}
use Rattle.std.specs.List.Sorted.{IsStrictlySortedBy}
use Rattle.std.specs.Ordering.{nat_cmp}
use Rattle.std.specs.declared.cmp.Ordering.{Ordering}
use Rattle.std.proofs.lemmas.List.Elements.{All-nil}
use Rattle.dc_address.specs.Identity.{identity_cmp}
use Rattle.mbdc_change.specs.State.{ReadingRow, empty_state}
use Rattle.mbdc_change.specs.Valid.{IsState, IsMeter, IsReading, IsOpenSerial}

sorted_nothing : {K : Type 0} (c : K → K → Ordering) → IsStrictlySortedBy c []
unfolding IsStrictlySortedBy
sorted_nothing c = tt

pub IsState-empty : (budget : ℕ) → 153 ≤ budget → IsState budget empty_state
IsState-empty budget room = record {
  meters_ascend = sorted_nothing identity_cmp;
  meters_are = All-nil IsMeter;
  readings_ascend = sorted_nothing nat_cmp;
  readings_are = All-nil IsReading;
  serials_are = All-nil (λ (r : ReadingRow). IsOpenSerial 0 1 r.serial);
  next_fits = omega arith;
  confirmed_fits = omega arith;
  number_fits = omega arith;
  line_fits = omega arith;
  size_fits = room;
}
