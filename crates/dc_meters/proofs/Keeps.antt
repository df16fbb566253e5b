-- Each step of a change leaves a state, with its size.
use Rattle.std.proofs.Common.{◌≡◌, ℕ, ◌+◌, ◌<◌, ◌≤◌, List, [], ◌∷◌, ◌++◌, length, Option, Some, None, sum_by, Bool, false, refl, sym, ap, subst, arith, nat_lt, ◌-◌, All}
use Rattle.std.proofs.lemmas.Bool.{ltb-true}
use Rattle.std.specs.Map.{values_of, keys_of}
use Rattle.std.specs.BTreeMap.{is_at}
use Rattle.std.specs.List.Sorted.{IsStrictlySortedBy}
use Rattle.std.proofs.lemmas.Map.{keys-set_value}
use Rattle.std.proofs.lemmas.Map.Views.{All-values-insert_entry, All-values-set_value, All-map-remove_entry}
use Rattle.std.proofs.lemmas.List.Elements.{All-filter, filter_passes, All-push}
use Rattle.dc_address.specs.declared.identity.Identity.{Identity}
use Rattle.dc_address.specs.Identity.{identity_cmp}
use Rattle.mbdc_change.specs.State.{State, MeterRow, PartRow, ReadingRow, row_of, empty_state}
use Rattle.mbdc_change.specs.Size.{parts_size, meter_size, reading_size, size_of}
use Rattle.mbdc_change.specs.Apply.{with_row, joined, heard, fitted, taken_out, confirmed_up_to}
use Rattle.mbdc_change.specs.Valid.{IsMeter, IsReading, IsOpenSerial}
use Rattle.mbdc_change.specs.Fields.{end_of_numbers}
use Rattle.dc_meters.specs.Kept.{IsKept}
use Rattle.dc_meters.proofs.Empty.{IsState-empty}
use Rattle.dc_meters.proofs.Readings.{sorted_of_kept, sorted_of_pushed}
use Rattle.dc_meters.proofs.Sizes.{size_of-with_row, size_of-fitted, size_of-taken_out, size_of-read, meter_size-le, size_of-heard_last}

pub IsKept-empty : (budget : ℕ) → 153 ≤ budget → IsKept 153 budget empty_state
IsKept-empty budget room = record { size_is = refl; state_is = IsState-empty budget room }

-- other meters
IsKept-with_meters : (meters : List (Identity × MeterRow)) (size size' budget : ℕ) (s : State) → IsKept size budget s → IsStrictlySortedBy identity_cmp (keys_of meters) → All IsMeter (values_of meters)
    → size' ≡ size_of (record s { meters = meters }) → size' ≤ budget → IsKept size' budget (record s { meters = meters })
IsKept-with_meters meters size size' budget s kept sorted are size_is room =
    record {
      size_is = size_is;
      state_is = record {
        meters_ascend = sorted;
        meters_are = are;
        readings_ascend = kept.state_is.readings_ascend;
        readings_are = kept.state_is.readings_are;
        serials_are = kept.state_is.serials_are;
        next_fits = kept.state_is.next_fits;
        confirmed_fits = kept.state_is.confirmed_fits;
        number_fits = kept.state_is.number_fits;
        line_fits = kept.state_is.line_fits;
        size_fits = omega (arith, size_is, room);
      };
    }

pub IsKept-fitted : (meter : Identity) (row : MeterRow) (size size' budget : ℕ) (s : State) → IsKept size budget s → row_of meter s ≡ None → IsMeter row
    → IsStrictlySortedBy identity_cmp (keys_of (fitted meter row s).meters) → size' ≡ size + meter_size row → size' ≤ budget → IsKept size' budget (fitted meter row s)
IsKept-fitted meter row size size' budget s kept absent is sorted sum room =
    let more = size_of-fitted meter row s kept.state_is.meters_ascend absent in
    IsKept-with_meters (fitted meter row s).meters size size' budget s kept sorted (All-values-insert_entry identity_cmp meter row IsMeter s.meters kept.state_is.meters_are is)
    (omega (arith, more, kept.size_is)) room

pub IsKept-with_row : (meter : Identity) (old new : MeterRow) (size size' budget : ℕ) (s : State) → IsKept size budget s → row_of meter s ≡ Some old → IsMeter new
    → size' + meter_size old ≡ size + meter_size new → size' ≤ budget → IsKept size' budget (with_row meter new s)
IsKept-with_row meter old new size size' budget s kept found is sum room =
    let more = size_of-with_row meter old new s found in
    let sorted = subst (IsStrictlySortedBy identity_cmp) (sym (keys-set_value (is_at (identity_cmp meter)) s.meters new)) kept.state_is.meters_ascend in
    IsKept-with_meters (with_row meter new s).meters size size' budget s kept sorted (All-values-set_value (is_at (identity_cmp meter)) IsMeter s.meters new kept.state_is.meters_are is)
    (omega (arith, more, kept.size_is)) room

pub IsKept-taken_out : (meter : Identity) (row : MeterRow) (size size' budget : ℕ) (s : State) → IsKept size budget s → row_of meter s ≡ Some row
    → IsStrictlySortedBy identity_cmp (keys_of (taken_out meter s).meters) → size' + meter_size row ≡ size → IsKept size' budget (taken_out meter s)
IsKept-taken_out meter row size size' budget s kept found sorted sum =
    let less = size_of-taken_out meter row s found in
    IsKept-with_meters (taken_out meter s).meters size size' budget s kept sorted (All-map-remove_entry (is_at (identity_cmp meter)) (λ e. e.1) IsMeter s.meters kept.state_is.meters_are)
    (omega (arith, less, kept.size_is)) (omega (arith, kept.size_is, kept.state_is.size_fits))

-- the command's number and line
pub IsKept-signed : (number : ℕ) (line : List ℕ) (size budget : ℕ) (s : State) → IsKept size budget s → number < end_of_numbers → length line ≤ 120
    → IsKept size budget (record s { last_number = number; last_line = line })
IsKept-signed number line size budget s kept low short =
    record {
      size_is = kept.size_is;
      state_is = record {
        meters_ascend = kept.state_is.meters_ascend;
        meters_are = kept.state_is.meters_are;
        readings_ascend = kept.state_is.readings_ascend;
        readings_are = kept.state_is.readings_are;
        serials_are = kept.state_is.serials_are;
        next_fits = kept.state_is.next_fits;
        confirmed_fits = kept.state_is.confirmed_fits;
        number_fits = low;
        line_fits = short;
        size_fits = kept.state_is.size_fits;
      };
    }

-- a meter with another row, within the budget
pub IsKept-other_row : (meter : Identity) (old new : MeterRow) (size budget : ℕ) (s : State) → IsKept size budget s → row_of meter s ≡ Some old → IsMeter new → size_of (with_row meter new s) ≤ budget
    → ((size - meter_size old) + meter_size new ≤ budget) × IsKept ((size - meter_size old) + meter_size new) budget (with_row meter new s)
IsKept-other_row meter old new size budget s kept found is room =
    let sum = size_of-with_row meter old new s found in
    let small = meter_size-le meter old s found in
    let fits : (size - meter_size old) + meter_size new ≤ budget = omega (arith, room, sum, small, kept.size_is) in
    (fits, IsKept-with_row meter old new size ((size - meter_size old) + meter_size new) budget s kept found is (omega (arith, small, kept.size_is)) fits)

-- the readings up to a serial go
pub IsKept-confirmed : (serial gone size size' budget : ℕ) (s : State) → IsKept size budget s → serial < s.next_serial
    → gone + sum_by reading_size (confirmed_up_to serial s).readings ≡ sum_by reading_size s.readings → size' + gone ≡ size
    → IsKept size' budget (confirmed_up_to serial s)
IsKept-confirmed serial gone size size' budget s kept given less sum =
    let later : ReadingRow → Bool = λ (r : ReadingRow). nat_lt serial r.serial in
    let of_before = All-filter later (λ (r : ReadingRow). IsOpenSerial s.confirmed s.next_serial r.serial) s.readings kept.state_is.serials_are in
    let passing = filter_passes later s.readings in
    let size_is : size' ≡ size_of (confirmed_up_to serial s) = omega (arith, less, sum, kept.size_is) in
    record {
      size_is = size_is;
      state_is = record {
        meters_ascend = kept.state_is.meters_ascend;
        meters_are = kept.state_is.meters_are;
        readings_ascend = sorted_of_kept later s.readings kept.state_is.readings_ascend;
        readings_are = All-filter later IsReading s.readings kept.state_is.readings_are;
        serials_are = λ k d at. let open_serial = of_before k d at in
            record { low = omega (arith, open_serial.low, ltb-true serial _ (passing k d at)); high = open_serial.high };
        next_fits = kept.state_is.next_fits;
        confirmed_fits = omega (arith, kept.state_is.confirmed_fits);
        number_fits = kept.state_is.number_fits;
        line_fits = kept.state_is.line_fits;
        size_fits = omega (arith, size_is, kept.size_is, kept.state_is.size_fits);
      };
    }

-- a reading more, with the next serial
pub IsKept-read : (reading : ReadingRow) (size size' budget : ℕ) (s : State) → IsKept size budget s → reading.serial ≡ s.next_serial → IsReading reading
    → s.next_serial < end_of_numbers → size' ≡ size + reading_size reading → size' ≤ budget
    → IsKept size' budget (record s { readings = s.readings ++ reading ∷ []; next_serial = s.next_serial + 1 })
IsKept-read reading size size' budget s kept serial is room sum fits =
    let more = size_of-read reading (s.next_serial + 1) s in
    record {
      size_is = omega (arith, more, kept.size_is);
      state_is = record {
        meters_ascend = kept.state_is.meters_ascend;
        meters_are = kept.state_is.meters_are;
        readings_ascend = sorted_of_pushed s.readings reading kept.state_is.readings_ascend (λ k d at. omega (arith, (kept.state_is.serials_are k d at).high));
        readings_are = All-push IsReading s.readings reading kept.state_is.readings_are is;
        serials_are = All-push (λ (r : ReadingRow). IsOpenSerial s.confirmed (s.next_serial + 1) r.serial) s.readings reading
            (λ k d at. let before = kept.state_is.serials_are k d at in record { low = before.low; high = omega (arith, before.high) })
            (record { low = omega (arith, kept.state_is.confirmed_fits); high = omega arith });
        next_fits = omega arith;
        confirmed_fits = omega (arith, kept.state_is.confirmed_fits);
        number_fits = kept.state_is.number_fits;
        line_fits = kept.state_is.line_fits;
        size_fits = omega (arith, more, kept.size_is);
      };
    }

-- the part that ends a readout
pub IsKept-heard_last : (meter : Identity) (number : ℕ) (part : PartRow) (old closed : MeterRow) (reading : ReadingRow) (size budget : ℕ) (s : State) → IsKept size budget s → row_of meter s ≡ Some old
    → closed ≡ record old { parts = [] } → IsMeter closed
    → reading ≡ record { serial = s.next_serial; meter = meter; flat = old.flat; parts = joined number part old.parts } → IsReading reading
    → s.next_serial < end_of_numbers → size_of (heard meter false number part (row_of meter s) s) ≤ budget
    → ((size - meter_size old) + meter_size closed + reading_size reading ≤ budget)
    × IsKept ((size - meter_size old) + meter_size closed + reading_size reading) budget (record (with_row meter closed s) { readings = s.readings ++ reading ∷ []; next_serial = s.next_serial + 1 })
IsKept-heard_last meter number part old closed reading size budget s kept found is_closed closed_is is_reading reading_is given room =
    let after : size_of (heard meter false number part (Some old) s) ≤ budget = subst (λ (o : Option MeterRow). size_of (heard meter false number part o s) ≤ budget) found room in
    let last = size_of-heard_last meter number part old s found in
    let closed_size : meter_size closed ≡ meter_size (record old { parts = [] }) = ap meter_size is_closed in
    let read_size : reading_size reading ≡ 18 + length old.flat + parts_size (joined number part old.parts) = ap reading_size is_reading in
    let small = meter_size-le meter old s found in
    let mid : ℕ = (size - meter_size old) + meter_size closed in
    let fits : mid + reading_size reading ≤ budget = omega (arith, after, last, closed_size, read_size, small, kept.size_is) in
    let open_kept = IsKept-with_row meter old closed size mid budget s kept found closed_is (omega (arith, small, kept.size_is)) (omega (arith, fits)) in
    let serial : reading.serial ≡ s.next_serial = ap (λ (r : ReadingRow). r.serial) is_reading in
    (fits, IsKept-read reading mid (mid + reading_size reading) budget (with_row meter closed s) open_kept serial reading_is given refl fits)

-- a meter in another's place
pub IsKept-swapped : (old new : Identity) (row hung : MeterRow) (size budget : ℕ) (s : State) → IsKept size budget s → row_of old s ≡ Some row → row_of new s ≡ None
    → hung.flat ≡ row.flat → hung.parts ≡ [] → IsMeter hung → row_of old (fitted new hung s) ≡ Some row → IsStrictlySortedBy identity_cmp (keys_of (taken_out old (fitted new hung s)).meters)
    → ((size - meter_size row) + meter_size hung ≤ size) × IsKept ((size - meter_size row) + meter_size hung) budget (taken_out old (fitted new hung s))
IsKept-swapped old new row hung size budget s kept found absent flat parts hung_is after sorted =
    let more = size_of-fitted new hung s kept.state_is.meters_ascend absent in
    let less = size_of-taken_out old row (fitted new hung s) after in
    let small = meter_size-le old row s found in
    let flat_size : length hung.flat ≡ length row.flat = ap length flat in
    let parts_size_is : parts_size hung.parts ≡ 0 = ap parts_size parts in
    let never_larger : (size - meter_size row) + meter_size hung ≤ size = omega (arith, small, flat_size, parts_size_is, kept.size_is) in
    let size_is : (size - meter_size row) + meter_size hung ≡ size_of (taken_out old (fitted new hung s)) = omega (arith, small, more, less, kept.size_is) in
    let are = All-map-remove_entry (is_at (identity_cmp old)) (λ e. e.1) IsMeter (fitted new hung s).meters (All-values-insert_entry identity_cmp new hung IsMeter s.meters kept.state_is.meters_are hung_is) in
    let room : (size - meter_size row) + meter_size hung ≤ budget = omega (arith, never_larger, kept.size_is, kept.state_is.size_fits) in
    (never_larger, IsKept-with_meters (taken_out old (fitted new hung s)).meters size ((size - meter_size row) + meter_size hung) budget s kept sorted are size_is room)
