-- What a list of meters asks of a register (this product): the rows in order, each on the register that those before
-- it leave.
use Rattle.std.specs.Prelude.{◌≡◌, ℕ, ◌+◌, ◌==◌, Bool, true, false, ◌||◌, ◌&&◌, if◌then◌else◌, List, []}
use Rattle.std.specs.Prelude.{◌∷◌, ◌++◌, codes, nat_le, Option, Some, None, Result, Ok, Err}
use Rattle.std.specs.Str.{bytes_eq}
use Rattle.mbdc_io.specs.Words.{number_word}
use Rattle.dc_address.specs.Text.{text_of}
use Rattle.dc_address.specs.declared.identity.Identity.{Identity}
use Rattle.mbdc_change.specs.Accepts.{Accepts, command_refusal, occupies}
use Rattle.mbdc_change.specs.Encoding.{change_bytes}
use Rattle.mbdc_change.specs.Valid.{IsChange}
use Rattle.mbdc_change.specs.Spelled.{SpellsChanges}
use Rattle.mbdc_change.specs.History.{AcceptsAll}
use Rattle.mbdc_change.specs.Apply.{applied}
use Rattle.mbdc_change.specs.Fields.{address_word}
use Rattle.mbdc_change.specs.Command.{line_of}
use Rattle.mbdc_change.specs.State.{State, Held, MeterRow, row_of}
use Rattle.mbdc_change.specs.Fields.{end_of_numbers}
use Rattle.mbdc_change.specs.declared.change.Change.{Change}
use Rattle.mbdc_change.specs.declared.change.Change.TheVariants.{Command as Numbered}
use Rattle.mbdc_change.specs.declared.command.Command.{Command}
use Rattle.mbdc_change.specs.declared.command.Command.TheVariants.{Fit}
use Rattle.mbdc_change.specs.declared.fault.ChangeFault.{ChangeFault}
use Rattle.mbdc_change.specs.declared.fault.ChangeFault.TheVariants.{Unknown, Known, AddressTaken}
use Rattle.mbdc_change.specs.declared.fault.ChangeFault.TheVariants.{Beyond, Full}
use Rattle.mbdc_fit.specs.declared.list.row.Row.{Row}
use Rattle.mbdc_fit.specs.declared.list.listed.Column.{Column}
use Rattle.mbdc_fit.specs.declared.list.listed.Column.TheVariants.{Meter, Line, Address, Flat}
use Rattle.mbdc_fit.specs.declared.list.listed.Listing.{Listing}
use Rattle.mbdc_fit.specs.declared.list.listed.Listing.TheVariants.{Rows, Lacks}
use Rattle.mbdc_fit.specs.declared.list.listed.Listed.{Listed}
use Rattle.mbdc_fit.specs.declared.list.verdict.Mark.{Mark}
use Rattle.mbdc_fit.specs.declared.list.verdict.Mark.TheVariants.{WithAddress, WithFlat, IsAt, AnAddress, IsThatOf}
use Rattle.mbdc_fit.specs.declared.list.verdict.Verdict.{Verdict}
use Rattle.mbdc_fit.specs.declared.list.verdict.Verdict.TheVariants.{Stands, Refused, Spent, New}
use Rattle.mbdc_fit.specs.Rows.{AreReadAs, Entry, Fields, column_name, field_of, fields_in}

-- ---- the verdict on a row

abbrev pub command_of : Row → Command
command_of row = Fit row.meter row.line row.address row.flat

-- a command under the number after the last one
abbrev pub numbered : Command → State → Change
numbered command s = Numbered (s.last_number + 1) command

abbrev pub change_of : Row → State → Change
change_of row s = numbered (command_of row) s

abbrev pub same_address : Option ℕ → Option ℕ → Bool
same_address None None = true
same_address None (Some other) = false
same_address (Some address) None = false
same_address (Some address) (Some other) = address == other

-- the register has the meter at this very place
abbrev pub is_at_place : Row → Option MeterRow → Bool
is_at_place row None = false
is_at_place row (Some known) = known.line == row.line
    && (same_address known.address row.address && bytes_eq known.flat row.flat)

abbrev pub stands : Row → State → Bool
stands row s = is_at_place row (row_of row.meter s)

-- no number is left for a command
abbrev pub is_spent : State → Bool
is_spent s = nat_le end_of_numbers (s.last_number + 1)

abbrev pub unless_refused : Option ChangeFault → Verdict
unless_refused None = New
unless_refused (Some fault) = Refused fault

unfoldable pub verdict_on : ℕ → Row → State → Verdict
verdict_on budget row s =
    if stands row s then Stands
    else if is_spent s then Spent
    else unless_refused (command_refusal budget (command_of row) s)

-- ---- the state, the commands and the soundness after a row

abbrev pub after_verdict : Verdict → Row → State → State
after_verdict New row s = applied (change_of row s) s
after_verdict Stands row s = s
after_verdict Spent row s = s
after_verdict (Refused fault) row s = s

abbrev pub after_read : ℕ → Result Row Column → State → State
after_read budget (Err column) s = s
after_read budget (Ok row) s = after_verdict (verdict_on budget row s) row s

-- the line of a new meter's command
abbrev pub order_of : Verdict → Row → State → List (List ℕ)
order_of New row s = line_of (s.last_number + 1) (command_of row) ∷ []
order_of Stands row s = []
order_of Spent row s = []
order_of (Refused fault) row s = []

abbrev pub read_orders : ℕ → Result Row Column → State → List (List ℕ)
read_orders budget (Err column) s = []
read_orders budget (Ok row) s = order_of (verdict_on budget row s) row s

-- the change of a new meter's command, and its encoding
abbrev pub changes_by : Verdict → Row → State → List Change
changes_by New row s = change_of row s ∷ []
changes_by Stands row s = []
changes_by Spent row s = []
changes_by (Refused fault) row s = []

abbrev pub read_changes : ℕ → Result Row Column → State → List Change
read_changes budget (Err column) s = []
read_changes budget (Ok row) s = changes_by (verdict_on budget row s) row s

abbrev pub bytes_by : Verdict → Row → State → List ℕ
bytes_by New row s = change_bytes (change_of row s)
bytes_by Stands row s = []
bytes_by Spent row s = []
bytes_by (Refused fault) row s = []

abbrev pub read_bytes : ℕ → Result Row Column → State → List ℕ
read_bytes budget (Err column) s = []
read_bytes budget (Ok row) s = bytes_by (verdict_on budget row s) row s

abbrev pub is_wrong_verdict : Verdict → Bool
is_wrong_verdict New = false
is_wrong_verdict Stands = false
is_wrong_verdict Spent = true
is_wrong_verdict (Refused fault) = true

abbrev pub is_wrong : ℕ → Result Row Column → State → Bool
is_wrong budget (Err column) s = true
is_wrong budget (Ok row) s = is_wrong_verdict (verdict_on budget row s)

-- ---- the text of a row

abbrev pub fault_words : Column → List ℕ
fault_words Meter = codes "a meter is its identity, as 12345678.PAD.01.07"
fault_words Line = codes "a line is a number from 1 to 8"
fault_words Address = codes "an address is a number from 1 to 250, or S"
fault_words Flat = codes "a flat is 1 to 12 of A-Z a-z 0-9 . - / _"

unfoldable pub address_text : Option ℕ → List ℕ
address_text address = address_word address

-- the words between
unfoldable pub mark_words : Mark → List ℕ
mark_words WithAddress = codes ", address "
mark_words WithFlat = codes ", flat "
mark_words IsAt = codes " is at "
mark_words AnAddress = codes "address "
mark_words IsThatOf = codes " is that of "

-- a place: bus line, address and flat
unfoldable pub place_words : ℕ → Option ℕ → List ℕ → List ℕ
place_words line address flat = codes "line" ++ (number_word line ++ (mark_words WithAddress
    ++ (address_text address ++ (mark_words WithFlat ++ flat))))

unfoldable pub known_words : Option MeterRow → List ℕ
known_words None = []
known_words (Some row) = place_words row.line row.address row.flat

-- the first meter, by identity, that has this primary address on this line
abbrev pub holder_in : ℕ → Option ℕ → List (Identity × MeterRow) → Option Identity
holder_in line address [] = None
holder_in line address (e ∷ meters) =
    if occupies line address e.1 then Some e.0 else holder_in line address meters

unfoldable pub holder_words : Option Identity → List ℕ
holder_words None = []
holder_words (Some meter) = text_of meter

-- where a meter is registered
unfoldable pub is_at_words : Identity → State → List ℕ
is_at_words meter s = text_of meter ++ (mark_words IsAt ++ known_words (row_of meter s))

-- which meter has a primary address on a bus line
unfoldable pub taken_words : ℕ → Option ℕ → State → List ℕ
taken_words line address s = mark_words AnAddress ++ (address_text address
    ++ (mark_words IsThatOf ++ holder_words (holder_in line address s.meters)))

abbrev pub full_words : List ℕ
full_words = codes "the image is full"

unfoldable pub refusal_words : ChangeFault → Row → State → List ℕ
refusal_words Unknown row s = []
refusal_words Known row s = is_at_words row.meter s
refusal_words AddressTaken row s = taken_words row.line row.address s
refusal_words Beyond row s = []
refusal_words Full row s = full_words

abbrev pub stands_words : Row → List ℕ
stands_words row = text_of row.meter ++ codes " stands already"

abbrev pub spent_words : List ℕ
spent_words = codes "no number is left for a command"

unfoldable pub verdict_words : Verdict → Row → State → List ℕ
verdict_words New row s = line_of (s.last_number + 1) (command_of row)
verdict_words Stands row s = stands_words row
verdict_words Spent row s = spent_words
verdict_words (Refused fault) row s = refusal_words fault row s

-- a line of the list, and what is said of it
unfoldable pub said : ℕ → List ℕ → List ℕ
said number words = codes "line" ++ (number_word number ++ (codes ": " ++ (words ++ codes "\n")))

-- what is said of a row, where nothing is wrong with it, and where something is
abbrev pub fine_text : Verdict → List ℕ → List ℕ
fine_text New text = text
fine_text Stands text = text
fine_text Spent text = []
fine_text (Refused fault) text = []

abbrev pub wrong_text : Verdict → List ℕ → List ℕ
wrong_text New text = []
wrong_text Stands text = []
wrong_text Spent text = text
wrong_text (Refused fault) text = text

abbrev pub row_text : ℕ → Verdict → Row → State → List ℕ
row_text number verdict row s = said number (verdict_words verdict row s)

-- a field that doesn't spell what it has to, as it is spelled, and what it has to be
unfoldable pub field_words : Column → Fields → List ℕ
field_words column f = codes "\"" ++ (field_of column f ++ (codes "\": " ++ fault_words column))

-- what is said of a row of a list
abbrev pub fine_words : ℕ → ℕ → Result Row Column → State → List ℕ
fine_words budget number (Err column) s = []
fine_words budget number (Ok row) s =
    fine_text (verdict_on budget row s) (row_text number (verdict_on budget row s) row s)

abbrev pub wrong_words : ℕ → Listed → Result Row Column → State → List ℕ
wrong_words budget listed (Err column) s = said listed.number (field_words column (fields_in listed))
wrong_words budget listed (Ok row) s =
    wrong_text (verdict_on budget row s) (row_text listed.number (verdict_on budget row s) row s)

-- ---- all rows, one after the other

abbrev pub after_all : ℕ → List Entry → State → State
after_all budget [] s = s
after_all budget (entry ∷ entries) s = after_all budget entries (after_read budget entry.read s)

abbrev pub orders : ℕ → List Entry → State → List (List ℕ)
orders budget [] s = []
orders budget (entry ∷ entries) s =
    read_orders budget entry.read s ++ orders budget entries (after_read budget entry.read s)

abbrev pub changes : ℕ → List Entry → State → List Change
changes budget [] s = []
changes budget (entry ∷ entries) s =
    read_changes budget entry.read s ++ changes budget entries (after_read budget entry.read s)

abbrev pub payload : ℕ → List Entry → State → List ℕ
payload budget [] s = []
payload budget (entry ∷ entries) s =
    read_bytes budget entry.read s ++ payload budget entries (after_read budget entry.read s)

-- each is a change, and accepted in the state after those before it
abbrev pub AreOrdered : ℕ → State → List Change → Type 0
AreOrdered budget s [] = Unit {0}
AreOrdered budget s (change ∷ changes) =
    IsChange change × Accepts budget change s × AreOrdered budget (applied change s) changes

abbrev pub any_wrong : ℕ → List Entry → State → Bool
any_wrong budget [] s = false
any_wrong budget (entry ∷ entries) s =
    is_wrong budget entry.read s || any_wrong budget entries (after_read budget entry.read s)

abbrev pub texts : ℕ → List Entry → State → List ℕ
texts budget [] s = []
texts budget (entry ∷ entries) s = fine_words budget entry.listed.number entry.read s
    ++ texts budget entries (after_read budget entry.read s)

abbrev pub refusals : ℕ → List Entry → State → List ℕ
refusals budget [] s = []
refusals budget (entry ∷ entries) s = wrong_words budget entry.listed entry.read s
    ++ refusals budget entries (after_read budget entry.read s)

-- ---- a list

-- what a list comes to: the lines of the commands and the encoding of their changes, whether a row is wrong, and what is
-- said of the rows that are fine, and of those that are wrong
pub record Outcome : Type 0 where
  pub commands : List (List ℕ)
  pub payload : List ℕ
  pub wrong : Bool
  pub text : List ℕ
  pub refusals : List ℕ

-- the last line where a row is wrong
abbrev pub nothing_done : List ℕ
nothing_done = codes "nothing is done\n"

-- what is printed: what is said of each row or of the command; where one is wrong, what is wrong and that nothing is done
abbrev pub fit_text : Outcome → List ℕ
fit_text plan = if plan.wrong then plan.refusals ++ nothing_done else plan.text

-- the first line doesn't name this column
abbrev pub lacking_words : Column → List ℕ
lacking_words column = codes "no column " ++ column_name column

abbrev pub lacking : Column → Outcome
lacking column = record {
  commands = [];
  payload = [];
  wrong = true;
  text = [];
  refusals = said 1 (lacking_words column);
}

abbrev pub outcome_of : ℕ → List Entry → State → Outcome
outcome_of budget entries s = record {
  commands = orders budget entries s;
  payload = payload budget entries s;
  wrong = any_wrong budget entries s;
  text = texts budget entries s;
  refusals = refusals budget entries s;
}

-- what the rows come to
pub record ArePlanned (rows : List Listed) (house : Held) (outcome : Outcome) : Type 0 where
  pub entries : List Entry
  pub rows_are : AreReadAs rows entries
  pub outcome_is : outcome ≡ outcome_of house.budget entries house.state
  pub ordered : AreOrdered house.budget house.state (changes house.budget entries house.state)

-- WHAT A LIST COMES TO on a register: what its rows come to, where its first line names all columns.
abbrev pub IsPlanned : Listing → Held → Outcome → Type 0
IsPlanned (Lacks column) house outcome = outcome ≡ lacking column
IsPlanned (Rows rows) house outcome = ArePlanned rows.items house outcome

-- ---- the steps: what rows make of a register and of what was planned before

-- the step of a row on which this is the verdict
pub record IsStepBy (verdict : Verdict) (row : Row) (number : ℕ) (old new : Held)
    (before outcome : Outcome) : Type 0 where
  pub house_is : new ≡ record old { state = after_verdict verdict row old.state }
  pub fine : verdict ≡ New → IsChange (change_of row old.state) × Accepts old.budget (change_of row old.state) old.state
  pub commands_are : outcome.commands ≡ before.commands ++ order_of verdict row old.state
  pub payload_is : outcome.payload ≡ before.payload ++ bytes_by verdict row old.state
  pub wrong_is : outcome.wrong ≡ (before.wrong || is_wrong_verdict verdict)
  pub text_is : outcome.text ≡ before.text ++ fine_text verdict (row_text number verdict row old.state)
  pub refusals_are : outcome.refusals ≡ before.refusals ++ wrong_text verdict (row_text number verdict row old.state)

-- the step of a row of a list that is read so
pub record IsStep (listed : Listed) (read : Result Row Column) (old new : Held) (before outcome : Outcome)
    : Type 0 where
  pub house_is : new ≡ record old { state = after_read old.budget read old.state }
  pub ordered : AreOrdered old.budget old.state (read_changes old.budget read old.state)
  pub commands_are : outcome.commands ≡ before.commands ++ read_orders old.budget read old.state
  pub payload_is : outcome.payload ≡ before.payload ++ read_bytes old.budget read old.state
  pub wrong_is : outcome.wrong ≡ (before.wrong || is_wrong old.budget read old.state)
  pub text_is : outcome.text ≡ before.text ++ fine_words old.budget listed.number read old.state
  pub refusals_are : outcome.refusals ≡ before.refusals ++ wrong_words old.budget listed read old.state

pub record AreSteps (rows : List Listed) (old new : Held) (before outcome : Outcome) : Type 0 where
  pub entries : List Entry
  pub rows_are : AreReadAs rows entries
  pub house_is : new ≡ record old { state = after_all old.budget entries old.state }
  pub ordered : AreOrdered old.budget old.state (changes old.budget entries old.state)
  pub commands_are : outcome.commands ≡ before.commands ++ orders old.budget entries old.state
  pub payload_is : outcome.payload ≡ before.payload ++ payload old.budget entries old.state
  pub wrong_is : outcome.wrong ≡ (before.wrong || any_wrong old.budget entries old.state)
  pub text_is : outcome.text ≡ before.text ++ texts old.budget entries old.state
  pub refusals_are : outcome.refusals ≡ before.refusals ++ refusals old.budget entries old.state

abbrev pub nothing : Outcome
nothing = record { commands = []; payload = []; wrong = false; text = []; refusals = [] }

-- THE PAYLOAD OF A PLAN spells changes that are accepted in turn on the register: it is one group of the store.
pub record IsOneGroup (house : Held) (outcome : Outcome) : Type 0 where
  pub changes : List Change
  pub spells : SpellsChanges outcome.payload changes
  pub accepted : AcceptsAll house.budget house.state changes
