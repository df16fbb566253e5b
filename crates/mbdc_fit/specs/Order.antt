-- What a command that is given at the box asks of a register (this product): one line of the billing office, or nothing.
use Rattle.std.specs.Prelude.{◌≡◌, ℕ, ◌+◌, ◌++◌, if◌then◌else◌, List, [], ◌∷◌, codes, Option, Some, None}
use Rattle.dc_address.specs.Text.{text_of}
use Rattle.dc_address.specs.declared.identity.Identity.{Identity}
use Rattle.mbdc_change.specs.Accepts.{command_refusal}
use Rattle.mbdc_change.specs.Command.{line_of}
use Rattle.mbdc_change.specs.Encoding.{change_bytes}
use Rattle.mbdc_change.specs.State.{State, Held, MeterRow, row_of}
use Rattle.mbdc_change.specs.declared.command.Command.{Command}
use Rattle.mbdc_change.specs.declared.command.Command.TheVariants.{Swap as Swapped, Move as Moved, Out as Gone}
use Rattle.mbdc_change.specs.declared.fault.ChangeFault.{ChangeFault}
use Rattle.mbdc_change.specs.declared.fault.ChangeFault.TheVariants.{Unknown, Known, AddressTaken}
use Rattle.mbdc_change.specs.declared.fault.ChangeFault.TheVariants.{Beyond, Full}
use Rattle.mbdc_fit.specs.Plan.{Outcome, fine_text, full_words, is_at_words, is_spent, is_wrong_verdict, nothing, numbered}
use Rattle.mbdc_fit.specs.Plan.{spent_words, taken_words, unless_refused, wrong_text}
use Rattle.mbdc_fit.specs.declared.list.order.Order.{Order}
use Rattle.mbdc_fit.specs.declared.list.order.Order.TheVariants.{Swap, Move, Out}
use Rattle.mbdc_fit.specs.declared.list.verdict.Verdict.{Verdict}
use Rattle.mbdc_fit.specs.declared.list.verdict.Verdict.TheVariants.{Stands, Refused, Spent, New}

abbrev pub command_for : Order → Command
command_for (Swap old new address) = Swapped old new address
command_for (Move meter flat) = Moved meter flat
command_for (Out meter) = Gone meter

-- the registered meter that it changes
abbrev pub subject_of : Order → Identity
subject_of (Swap old new address) = old
subject_of (Move meter flat) = meter
subject_of (Out meter) = meter

-- the meter that the register has after it
abbrev pub newcomer_of : Order → Identity
newcomer_of (Swap old new address) = new
newcomer_of (Move meter flat) = meter
newcomer_of (Out meter) = meter

-- the primary address that it asks for
abbrev pub address_of : Order → Option ℕ
address_of (Swap old new address) = address
address_of (Move meter flat) = None
address_of (Out meter) = None

-- ---- the verdict

unfoldable pub verdict_for : ℕ → Order → State → Verdict
verdict_for budget order s =
    if is_spent s then Spent else unless_refused (command_refusal budget (command_for order) s)

-- ---- its text

abbrev pub unknown_words : Identity → List ℕ
unknown_words meter = text_of meter ++ codes " isn't registered"

abbrev pub taken_on : Option MeterRow → Option ℕ → State → List ℕ
taken_on None address s = []
taken_on (Some known) address s = taken_words known.line address s

-- which meter has the primary address, on the bus line of the meter that it changes
unfoldable pub taken_by : Order → State → List ℕ
taken_by order s = taken_on (row_of (subject_of order) s) (address_of order) s

unfoldable pub order_refusal : ChangeFault → Order → State → List ℕ
order_refusal Unknown order s = unknown_words (subject_of order)
order_refusal Known order s = is_at_words (newcomer_of order) s
order_refusal AddressTaken order s = taken_by order s
order_refusal Beyond order s = []
order_refusal Full order s = full_words

unfoldable pub order_text : Verdict → Order → State → List ℕ
order_text New order s = line_of (s.last_number + 1) (command_for order)
order_text Stands order s = []
order_text Spent order s = spent_words
order_text (Refused fault) order s = order_refusal fault order s

abbrev pub order_said : Verdict → Order → State → List ℕ
order_said verdict order s = order_text verdict order s ++ codes "\n"

-- ---- what it comes to

-- the line of its command
abbrev pub lines_by : Verdict → Order → State → List (List ℕ)
lines_by New order s = line_of (s.last_number + 1) (command_for order) ∷ []
lines_by Stands order s = []
lines_by Spent order s = []
lines_by (Refused fault) order s = []

-- the encoding of its change
abbrev pub encoded_by : Verdict → Order → State → List ℕ
encoded_by New order s = change_bytes (numbered (command_for order) s)
encoded_by Stands order s = []
encoded_by Spent order s = []
encoded_by (Refused fault) order s = []

-- where this is the verdict
pub record IsOrderedBy (verdict : Verdict) (order : Order) (s : State) (before outcome : Outcome) : Type 0 where
  pub commands_are : outcome.commands ≡ before.commands ++ lines_by verdict order s
  pub payload_is : outcome.payload ≡ before.payload ++ encoded_by verdict order s
  pub wrong_is : before ≡ nothing → outcome.wrong ≡ is_wrong_verdict verdict
  pub text_is : outcome.text ≡ before.text ++ fine_text verdict (order_said verdict order s)
  pub refusals_are : outcome.refusals ≡ before.refusals ++ wrong_text verdict (order_said verdict order s)

-- WHAT AN ORDER COMES TO on a register: exactly its command, or, where that is refused, nothing.
pub record IsOrdered (order : Order) (house : Held) (outcome : Outcome) : Type 0 where
  pub commands_are : outcome.commands ≡ lines_by (verdict_for house.budget order house.state) order house.state
  pub payload_is : outcome.payload ≡ encoded_by (verdict_for house.budget order house.state) order house.state
  pub wrong_is : outcome.wrong ≡ is_wrong_verdict (verdict_for house.budget order house.state)
  pub text_is : outcome.text ≡ fine_text (verdict_for house.budget order house.state)
      (order_said (verdict_for house.budget order house.state) order house.state)
  pub refusals_are : outcome.refusals ≡ wrong_text (verdict_for house.budget order house.state)
      (order_said (verdict_for house.budget order house.state) order house.state)
