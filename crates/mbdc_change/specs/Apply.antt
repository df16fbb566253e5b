-- The state after a change.
use Rattle.std.specs.Prelude.{ℕ, ◌+◌, max, Bool, true, false, Option, None, Some, List, [], ◌∷◌}
use Rattle.std.specs.Prelude.{◌++◌, filter, nat_lt, ◌==◌, if◌then◌else◌}
use Rattle.std.specs.BTreeMap.{is_at, insert_entry}
use Rattle.std.specs.Map.{set_value, remove_entry}
use Rattle.dc_address.specs.declared.identity.Identity.{Identity}
use Rattle.dc_address.specs.Identity.{identity_cmp}
use Rattle.mbdc_change.specs.declared.change.Change.{Change}
use Rattle.mbdc_change.specs.declared.change.Change.TheVariants.{Telegram, Command as Numbered}
use Rattle.mbdc_change.specs.declared.command.Command.{Command}
use Rattle.mbdc_change.specs.declared.command.Command.TheVariants.{Fit, Move, Out, Confirm, Swap}
use Rattle.mbdc_change.specs.Body.{BodyRow}
use Rattle.mbdc_change.specs.State.{State, MeterRow, PartRow, row_of}
use Rattle.mbdc_change.specs.Command.{line_of}

-- the state with this row for the meter
abbrev pub with_row : Identity → MeterRow → State → State
with_row meter row s = record s { meters = set_value (is_at (identity_cmp meter)) s.meters row }

-- the parts after one more: part 1 starts the readout anew
abbrev pub joined : ℕ → PartRow → List PartRow → List PartRow
joined number part parts = if number == 1 then part ∷ [] else parts ++ part ∷ []

-- A part at its meter's row. If more parts follow, it stays open; otherwise the open parts become a
-- reading, with the meter's flat at that time.
abbrev pub heard : Identity → Bool → ℕ → PartRow → Option MeterRow → State → State
heard meter more number part None s = s
heard meter true number part (Some row) s =
    with_row meter (record row { parts = joined number part row.parts }) s
heard meter false number part (Some row) s =
    let closed = with_row meter (record row { parts = [] }) s in
    record closed {
      readings = s.readings ++ record {
        serial = s.next_serial;
        meter = meter;
        flat = row.flat;
        parts = joined number part row.parts;
      } ∷ [];
      next_serial = s.next_serial + 1;
    }

-- a telegram applied to its meter
abbrev pub told : ℕ → ℕ → BodyRow → State → State
told part moment body s = heard body.meter body.more part
    (record { moment = moment; body = body.bytes }) (row_of body.meter s) s

-- the meter's flat is replaced; its readings keep the flat of their time
abbrev pub moved : Identity → List ℕ → Option MeterRow → State → State
moved meter flat None s = s
moved meter flat (Some row) s = with_row meter (record row { flat = flat }) s

-- the meter is registered with this row, in order of identities
abbrev pub fitted : Identity → MeterRow → State → State
fitted meter row s = record s { meters = insert_entry identity_cmp s.meters meter row }

-- the meter and its open parts are removed, its readings stay
abbrev pub taken_out : Identity → State → State
taken_out meter s = record s { meters = remove_entry (is_at (identity_cmp meter)) s.meters }

-- the new meter takes the place of the old one, with no open parts
abbrev pub swapped : Identity → Identity → Option ℕ → Option MeterRow → State → State
swapped old new address None s = s
swapped old new address (Some row) s =
    taken_out old (fitted new (record {
      line = row.line;
      address = address;
      flat = row.flat;
      parts = [];
    }) s)

-- the readings up to a serial are confirmed and removed; the confirmed serial never decreases
abbrev pub confirmed_up_to : ℕ → State → State
confirmed_up_to serial s = record s {
  confirmed = max s.confirmed serial;
  readings = filter (λ r. nat_lt serial r.serial) s.readings;
}

-- the register after a command of the billing office
abbrev pub commanded : Command → State → State
commanded (Fit meter line address flat) s =
    fitted meter (record { line = line; address = address; flat = flat; parts = [] }) s
commanded (Move meter flat) s = moved meter flat (row_of meter s) s
commanded (Out meter) s = taken_out meter s
commanded (Confirm serial) s = confirmed_up_to serial s
commanded (Swap old new address) s = swapped old new address (row_of old s) s

-- The state after a change: a telegram, or a command, whose number and line are then the last ones.
abbrev pub applied : Change → State → State
applied (Telegram part moment body) s = told part moment body s
applied (Numbered number command) s =
    record (commanded command s) { last_number = number; last_line = line_of number command }
