-- The verdict on a billing office's line (this product): a repeat, a refusal, a change to be done,
-- or something to show.
use Rattle.std.specs.Prelude.{ℕ, ◌+◌, Bool, false, not, ◌&&◌, ◌==◌, if◌then◌else◌, Option, None}
use Rattle.std.specs.Prelude.{Some, List, [], ◌∷◌, find, nat_le}
use Rattle.std.specs.Str.{bytes_eq}
use Rattle.mbdc_change.specs.Accepts.{is_known, is_unknown, is_address_taken, is_beyond, is_full}
use Rattle.mbdc_change.specs.Command.{line_of}
use Rattle.mbdc_change.specs.State.{State, Held}
use Rattle.mbdc_change.specs.declared.change.Change.{Change}
use Rattle.mbdc_change.specs.declared.change.Change.TheVariants.{Command as Numbered}
use Rattle.mbdc_change.specs.declared.command.Numbered.{Numbered as Ordered}
use Rattle.dc_upload.specs.declared.code.Code.{Code}
use Rattle.dc_upload.specs.declared.code.Code.TheVariants.{Syntax, Store, Order, Known, Unknown}
use Rattle.dc_upload.specs.declared.code.Code.TheVariants.{Address, Beyond, Gone, Full, Memory}
use Rattle.dc_upload.specs.declared.line.OfficeLine.{OfficeLine}
use Rattle.dc_upload.specs.declared.line.OfficeLine.TheVariants.{Command, Window, Register, Report}
use Rattle.dc_upload.specs.declared.verdict.Verdict.{Verdict}
use Rattle.dc_upload.specs.declared.verdict.Verdict.TheVariants.{Repeat, Do, Show, Refuse}

-- the command has the last command's number, and its line is the last line, byte for byte
abbrev pub is_repeat : Ordered → State → Bool
is_repeat ordered s = ordered.number == s.last_number && bytes_eq
    (line_of ordered.number ordered.command) s.last_line

-- the line repeats the last command; only a command can
abbrev pub repeats : OfficeLine → State → Bool
repeats (Command ordered) s = is_repeat ordered s
repeats (Window from count) s = false
repeats Register s = false
repeats (Report date) s = false

-- ---- where a code applies

-- the code applies to the command; numbers are consecutive, so `Order` refuses any but the next
abbrev pub command_stands : ℕ → Ordered → State → Code → Bool
command_stands budget ordered s Syntax = false
command_stands budget ordered s Store = false
command_stands budget ordered s (Order last) = not (ordered.number == s.last_number + 1)
command_stands budget ordered s Known = is_known ordered.command s
command_stands budget ordered s Unknown = is_unknown ordered.command s
command_stands budget ordered s Address = is_address_taken ordered.command s
command_stands budget ordered s Beyond = is_beyond ordered.command s
command_stands budget ordered s (Gone confirmed) = false
command_stands budget ordered s Full = is_full budget ordered.command s
command_stands budget ordered s Memory = false

-- readings up to the mark are gone
abbrev pub window_stands : ℕ → State → Code → Bool
window_stands from s Syntax = false
window_stands from s Store = false
window_stands from s (Order last) = false
window_stands from s Known = false
window_stands from s Unknown = false
window_stands from s Address = false
window_stands from s Beyond = false
window_stands from s (Gone confirmed) = nat_le from s.confirmed
window_stands from s Full = false
window_stands from s Memory = false

-- the code applies to the line; none applies to REGISTER and REPORT
abbrev pub stands : ℕ → OfficeLine → State → Code → Bool
stands budget (Command ordered) s code = command_stands budget ordered s code
stands budget (Window from count) s code = window_stands from s code
stands budget Register s code = false
stands budget (Report date) s code = false

-- ---- the first code that applies

-- the codes, in the order in which they are tested
abbrev pub codes_in_order : State → List Code
codes_in_order s = Order s.last_number ∷ Known ∷ Unknown ∷ Address ∷ Beyond ∷ Gone s.confirmed
    ∷ Full ∷ []

-- the code with which the line is refused, if any
abbrev pub code_against : ℕ → OfficeLine → State → Option Code
code_against budget line s = find (stands budget line s) (codes_in_order s)

-- ---- the verdict

-- of a line to which no code applies
abbrev pub granted : OfficeLine → Verdict
granted (Command ordered) = Do (Numbered ordered.number ordered.command)
granted (Window from count) = Show
granted Register = Show
granted (Report date) = Show

-- the line is refused with this code, or granted without one
abbrev pub unless : Option Code → OfficeLine → Verdict
unless (Some code) line = Refuse code
unless None line = granted line

-- the verdict on a line, in this state and budget
unfoldable pub verdict_of : Held → OfficeLine → Verdict
verdict_of house line =
    if repeats line house.state then Repeat
    else unless (code_against house.budget line house.state) line

-- a fact of the change that is to be done
abbrev pub IfDo : Verdict → (Change → Type 0) → Type 0
IfDo Repeat P = Unit {0}
IfDo (Do change) P = P change
IfDo Show P = Unit {0}
IfDo (Refuse code) P = Unit {0}
