-- Which changes are refused, and why.
use Rattle.std.specs.Prelude.{◌≡◌, ℕ, ◌+◌, Bool, true, false, not, ◌&&◌, ◌||◌, Option, None, Some}
use Rattle.std.specs.Prelude.{Result, Ok, Err, List, [], ◌∷◌, length, find, is_some, nat_lt, nat_le}
use Rattle.std.specs.Prelude.{◌==◌}
use Rattle.std.specs.List.{list_any}
use Rattle.std.specs.BTreeMap.{is_at}
use Rattle.std.specs.Map.{values_of}
use Rattle.dc_address.specs.declared.identity.Identity.{Identity}
use Rattle.dc_address.specs.Identity.{identity_cmp}
use Rattle.mbdc_change.specs.declared.change.Change.{Change}
use Rattle.mbdc_change.specs.declared.change.Change.TheVariants.{Telegram, Command as Numbered}
use Rattle.mbdc_change.specs.declared.command.Command.{Command}
use Rattle.mbdc_change.specs.declared.command.Command.TheVariants.{Fit, Move, Out, Confirm, Swap}
use Rattle.mbdc_change.specs.declared.fault.ChangeFault.{ChangeFault}
use Rattle.mbdc_change.specs.declared.fault.ChangeFault.TheVariants.{Unknown, Known, AddressTaken}
use Rattle.mbdc_change.specs.declared.fault.ChangeFault.TheVariants.{Beyond, Full}
use Rattle.mbdc_change.specs.State.{State, MeterRow, row_of}
use Rattle.mbdc_change.specs.Body.{BodyRow}
use Rattle.mbdc_change.specs.Apply.{told, commanded}
use Rattle.mbdc_change.specs.Size.{size_of}
use Rattle.mbdc_change.specs.Fields.{end_of_numbers}

-- the part is the readout's first, or the next after the open ones
abbrev pub continues : ℕ → Option MeterRow → Bool
continues number None = false
continues number (Some row) = number == 1 || number == length row.parts + 1

-- ---- the tests, one per fault

-- the same primary address; secondary addressing shares none
abbrev pub same_primary : Option ℕ → Option ℕ → Bool
same_primary None taken = false
same_primary (Some address) None = false
same_primary (Some address) (Some taken) = taken == address

-- the meter has this primary address on this line
abbrev pub occupies : ℕ → Option ℕ → MeterRow → Bool
occupies line address row = row.line == line && same_primary address row.address

-- a registered meter has this primary address on this line
abbrev pub is_taken : ℕ → Option ℕ → State → Bool
is_taken line address s = list_any (occupies line address) (values_of s.meters)

-- the same of the other meters, on that meter's line
abbrev pub is_taken_by_other : Identity → Option ℕ → Option MeterRow → State → Bool
is_taken_by_other old address None s = false
is_taken_by_other old address (Some row) s =
    list_any (λ e. not (is_at (identity_cmp old) e.0) && occupies row.line address e.1) s.meters

-- the new meter is already registered
abbrev pub is_known : Command → State → Bool
is_known (Fit meter line address flat) s = is_some (row_of meter s)
is_known (Move meter flat) s = false
is_known (Out meter) s = false
is_known (Confirm serial) s = false
is_known (Swap old new address) s = is_some (row_of new s)

-- the meter isn't registered
abbrev pub is_unknown : Command → State → Bool
is_unknown (Fit meter line address flat) s = false
is_unknown (Move meter flat) s = not (is_some (row_of meter s))
is_unknown (Out meter) s = not (is_some (row_of meter s))
is_unknown (Confirm serial) s = false
is_unknown (Swap old new address) s = not (is_some (row_of old s))

-- another meter has the command's primary address on the same bus line
abbrev pub is_address_taken : Command → State → Bool
is_address_taken (Fit meter line address flat) s = is_taken line address s
is_address_taken (Move meter flat) s = false
is_address_taken (Out meter) s = false
is_address_taken (Confirm serial) s = false
is_address_taken (Swap old new address) s = is_taken_by_other old address (row_of old s) s

-- the confirmed serial hasn't been given yet
abbrev pub is_beyond : Command → State → Bool
is_beyond (Fit meter line address flat) s = false
is_beyond (Move meter flat) s = false
is_beyond (Out meter) s = false
is_beyond (Confirm serial) s = nat_le s.next_serial serial
is_beyond (Swap old new address) s = false

-- the state after the command would exceed the budget
abbrev pub is_full : ℕ → Command → State → Bool
is_full budget (Fit meter line address flat) s =
    nat_lt budget (size_of (commanded (Fit meter line address flat) s))
is_full budget (Move meter flat) s = nat_lt budget (size_of (commanded (Move meter flat) s))
is_full budget (Out meter) s = false
is_full budget (Confirm serial) s = false
is_full budget (Swap old new address) s = false

-- the fault applies to the command
abbrev pub command_stands : ℕ → Command → State → ChangeFault → Bool
command_stands budget command s Unknown = is_unknown command s
command_stands budget command s Known = is_known command s
command_stands budget command s AddressTaken = is_address_taken command s
command_stands budget command s Beyond = is_beyond command s
command_stands budget command s Full = is_full budget command s

-- A telegram is `Full` too if the reading that it finishes would need a serial beyond the last one.
abbrev pub telegram_stands : ℕ → ℕ → ℕ → BodyRow → State → ChangeFault → Bool
telegram_stands budget part moment body s Unknown = not (continues part (row_of body.meter s))
telegram_stands budget part moment body s Known = false
telegram_stands budget part moment body s AddressTaken = false
telegram_stands budget part moment body s Beyond = false
telegram_stands budget part moment body s Full =
    nat_lt budget (size_of (told part moment body s)) ||
    (not body.more && nat_le end_of_numbers s.next_serial)

-- ---- the first fault that applies

-- the faults, in the order in which they are tested
abbrev pub faults_in_order : List ChangeFault
faults_in_order = Known ∷ Unknown ∷ AddressTaken ∷ Beyond ∷ Full ∷ []

-- why a telegram is refused, if it is
abbrev pub telegram_refusal : ℕ → ℕ → ℕ → BodyRow → State → Option ChangeFault
telegram_refusal budget part moment body s =
    find (telegram_stands budget part moment body s) faults_in_order

-- why a command is refused, if it is
abbrev pub command_refusal : ℕ → Command → State → Option ChangeFault
command_refusal budget command s = find (command_stands budget command s) faults_in_order

-- why a change is refused, if it is
abbrev pub refusal : ℕ → Change → State → Option ChangeFault
refusal budget (Telegram part moment body) s = telegram_refusal budget part moment body s
refusal budget (Numbered number command) s = command_refusal budget command s

abbrev pub refused_by : Option ChangeFault → Result (Unit {0}) ChangeFault
refused_by None = Ok tt
refused_by (Some fault) = Err fault

-- a command's number is one more than the last command's
abbrev pub is_next : Change → State → Bool
is_next (Telegram part moment body) s = true
is_next (Numbered number command) s = number == s.last_number + 1

-- the change is accepted in the state
pub record Accepts (budget : ℕ) (change : Change) (s : State) : Type 0 where
  pub next : is_next change s ≡ true
  pub unrefused : refusal budget change s ≡ None
