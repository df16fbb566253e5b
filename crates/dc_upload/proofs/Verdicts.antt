-- The codes against a command are its faults, in their order; and a command that was done is a repeat.
use Rattle.std.proofs.Common.{◌≡◌, ℕ, ◌+◌, Bool, true, false, not, cond, eqb, Option, None, Some, refl, ap, sym, eq-eqb, subst}
use Rattle.std.proofs.lemmas.Bool.{and_from}
use Rattle.std.proofs.lemmas.Slice.Eq.{bytes_eq-Decides}
use Rattle.std.specs.Prelude.{option_map}
use Rattle.mbdc_change.specs.Accepts.{Accepts, command_refusal, is_known, is_unknown, is_address_taken, is_beyond, is_full}
use Rattle.mbdc_change.specs.Apply.{applied}
use Rattle.mbdc_change.specs.Command.{line_of}
use Rattle.mbdc_change.specs.State.{State, Held}
use Rattle.mbdc_change.specs.declared.change.Change.{Change}
use Rattle.mbdc_change.specs.declared.change.Change.TheVariants.{Command as Ordered}
use Rattle.mbdc_change.specs.declared.command.Numbered.{Numbered}
use Rattle.mbdc_change.specs.declared.fault.ChangeFault.TheVariants as fault
use Rattle.dc_upload.specs.Code.{code_of}
use Rattle.dc_upload.specs.Reply.{done_line, reply_text, TakesMemory}
use Rattle.dc_upload.specs.Verdict.{code_against, granted, is_repeat, repeats, unless, verdict_of}
use Rattle.dc_upload.specs.declared.code.Code.{Code}
use Rattle.dc_upload.specs.declared.code.Code.TheVariants.{Order, Known, Unknown, Address, Beyond, Full}
use Rattle.dc_upload.specs.declared.line.OfficeLine.{OfficeLine}
use Rattle.dc_upload.specs.declared.line.OfficeLine.TheVariants.{Command, Window, Register, Report}
use Rattle.dc_upload.specs.declared.verdict.Verdict.TheVariants.{Repeat, Do}

-- ---- codes

first_code : (known unknown address beyond full : Bool)
    → cond known (Some Known) (cond unknown (Some Unknown) (cond address (Some Address) (cond beyond (Some Beyond) (cond full (Some Full) None))))
    ≡ option_map code_of (cond known (Some fault.Known) (cond unknown (Some fault.Unknown) (cond address (Some fault.AddressTaken) (cond beyond (Some fault.Beyond) (cond full (Some fault.Full) None)))))
first_code true unknown address beyond full = refl
first_code false true address beyond full = refl
first_code false false true beyond full = refl
first_code false false false true full = refl
first_code false false false false true = refl
first_code false false false false false = refl

pub codes_of_faults : (budget : ℕ) (ordered : Numbered) (s : State) → ordered.number ≡ s.last_number + 1
    → code_against budget (Command ordered) s ≡ option_map code_of (command_refusal budget ordered.command s)
codes_of_faults budget ordered s next =
    rw (eq-eqb _ _ next) (first_code (is_known ordered.command s) (is_unknown ordered.command s) (is_address_taken ordered.command s) (is_beyond ordered.command s) (is_full budget ordered.command s))

-- ---- repeats

-- a line whose change is done has no code
unrefused : (r : Bool) (code : Option Code) (line : OfficeLine) (change : Change) → cond r Repeat (unless code line) ≡ Do change → granted line ≡ Do change
unrefused true code line change is = absurd cc
unrefused false (Some code) line change is = absurd cc
unrefused false None line change is = is

done : (ordered : Numbered) (s : State) → is_repeat ordered (applied (Ordered ordered.number ordered.command) s) ≡ true
done ordered s =
    let line = line_of ordered.number ordered.command in
    and_from _ _ (eq-eqb ordered.number ordered.number refl) ((bytes_eq-Decides line line).1 refl)

same_change : (one other : Change) → Do one ≡ Do other → one ≡ other
same_change one other is = cc

repeats_done : (line : OfficeLine) (change : Change) (s : State) → granted line ≡ Do change → repeats line (applied change s) ≡ true
repeats_done (Command ordered) change s is =
    subst (λ (c : Change). is_repeat ordered (applied c s) ≡ true) (same_change (Ordered ordered.number ordered.command) change is) (done ordered s)
repeats_done (Window from count) change s is = absurd cc
repeats_done Register change s is = absurd cc
repeats_done (Report date) change s is = absurd cc

pub repeated : (house : Held) (line : OfficeLine) (change : Change) → verdict_of house line ≡ Do change
    → verdict_of (record house { state = applied change house.state }) line ≡ Repeat
unfolding verdict_of
repeated house line change is =
    rw (repeats_done line change house.state (unrefused (repeats line house.state) (code_against house.budget line house.state) line change is)) refl

number_kept : (ordered : Numbered) (change : Change) (s : State) → granted (Command ordered) ≡ Do change → (applied change s).last_number ≡ ordered.number
number_kept ordered change s is =
    subst (λ (c : Change). (applied c s).last_number ≡ ordered.number) (same_change (Ordered ordered.number ordered.command) change is) refl

pub replied : (house : Held) (ordered : Numbered) (change : Change) → verdict_of house (Command ordered) ≡ Do change
    → reply_text (record house { state = applied change house.state }) (Command ordered) ≡ done_line ordered.number
unfolding reply_text verdict_of
replied house ordered change is =
    let free = unrefused (repeats (Command ordered) house.state) (code_against house.budget (Command ordered) house.state) (Command ordered) change is in
    rw (repeats_done (Command ordered) change house.state free) (ap done_line (number_kept ordered change house.state free))

-- ---- FOR THE CRATES ABOVE: what is to be done is a command, and accepted

pub record IsOrder (house : Held) (change : Change) : Type 0 where
  pub ordered : Numbered
  pub change_is : change ≡ Ordered ordered.number ordered.command
  pub accepted : Accepts house.budget change house.state

-- no code applies to a line: its number is the next one, and its command has no fault
clear : (last : ℕ) (next known unknown address beyond full : Bool)
    → cond (not next) (Some (Order last)) (cond known (Some Known) (cond unknown (Some Unknown) (cond address (Some Address) (cond beyond (Some Beyond) (cond full (Some Full) None))))) ≡ None
    → (next ≡ true) × (cond known (Some fault.Known) (cond unknown (Some fault.Unknown) (cond address (Some fault.AddressTaken) (cond beyond (Some fault.Beyond) (cond full (Some fault.Full) None)))) ≡ None)
clear last false known unknown address beyond full e = absurd cc
clear last true true unknown address beyond full e = absurd cc
clear last true false true address beyond full e = absurd cc
clear last true false false true beyond full e = absurd cc
clear last true false false false true full e = absurd cc
clear last true false false false false true e = absurd cc
clear last true false false false false false e = (refl, refl)

unhindered : (r : Bool) (code : Option Code) (line : OfficeLine) (change : Change) → cond r Repeat (unless code line) ≡ Do change → code ≡ None
unhindered true code line change is = absurd cc
unhindered false (Some code) line change is = absurd cc
unhindered false None line change is = refl

pub order_of : (house : Held) (line : OfficeLine) (change : Change) → verdict_of house line ≡ Do change → IsOrder house change
unfolding verdict_of
order_of house (Command ordered) change is =
    let s = house.state in
    let command = ordered.command in
    let line : OfficeLine = Command ordered in
    let free = unrefused (repeats line s) (code_against house.budget line s) line change is in
    let none : code_against house.budget line s ≡ None = unhindered (repeats line s) (code_against house.budget line s) line change is in
    let same = same_change (Ordered ordered.number command) change free in
    let both_are = clear s.last_number (eqb ordered.number (s.last_number + 1)) (is_known command s) (is_unknown command s) (is_address_taken command s) (is_beyond command s) (is_full house.budget command s) none in
    record {
      ordered = ordered;
      change_is = sym same;
      accepted = subst (λ (c : Change). Accepts house.budget c s) same (record { next = both_are.0; unrefused = both_are.1 });
    }
order_of house (Window from count) change is =
    absurd (let free = unrefused (repeats (Window from count) house.state) (code_against house.budget (Window from count) house.state) (Window from count) change is in cc)
order_of house Register change is =
    absurd (let free = unrefused (repeats Register house.state) (code_against house.budget Register house.state) Register change is in cc)
order_of house (Report date) change is =
    absurd (let free = unrefused (repeats (Report date) house.state) (code_against house.budget (Report date) house.state) (Report date) change is in cc)

-- what is done takes no memory for its reply
pub done_without_memory : (house : Held) (line : OfficeLine) (change : Change) → verdict_of house line ≡ Do change → TakesMemory line → ⊥
unfolding verdict_of
done_without_memory house (Command ordered) change is takes = takes
done_without_memory house (Window from count) change is takes = takes
done_without_memory house Register change is takes = takes
done_without_memory house (Report date) change is takes =
    absurd (let free = unrefused (repeats (Report date) house.state) (code_against house.budget (Report date) house.state) (Report date) change is in cc)
