-- The text that `fold` prints (this product): an answer to each line, and then the register after
-- all lines.
use Rattle.std.specs.Prelude.{◌≡◌, ℕ, ◌&&◌, ◌||◌, if◌then◌else◌, Bool, false, Option, Some, None}
use Rattle.std.specs.Prelude.{is_none, List, [], ◌∷◌, ◌++◌, codes}
use Rattle.mbdc_change.specs.Accepts.{is_next, refusal}
use Rattle.mbdc_change.specs.Apply.{applied}
use Rattle.mbdc_change.specs.ChangeLine.{IsLineOf}
use Rattle.mbdc_change.specs.Fault.{number_of, name_of}
use Rattle.mbdc_change.specs.State.{State, Held, empty_state}
use Rattle.mbdc_change.specs.declared.change.Change.{Change}
use Rattle.mbdc_change.specs.declared.fault.ChangeFault.{ChangeFault}
use Rattle.mbdc_io.specs.Lines.{lines_of}
use Rattle.dc_poller.specs.Register.{register_text}
use Rattle.mbdc_io.specs.Words.{fault_line, number_word}

-- ---- lines

-- A line is read as the change that it spells; `None` if it spells none.
abbrev pub IsReadAs : List ℕ → Option Change → Type 0
IsReadAs line None = (change : Change) → ¬ (IsLineOf line change)
IsReadAs line (Some change) = IsLineOf line change

-- each line is read as the entry at its place
abbrev pub AreReadAs : List (List ℕ) → List (Option Change) → Type 0
AreReadAs [] [] = Unit {0}
AreReadAs [] (read ∷ reads) = ⊥
AreReadAs (line ∷ lines) [] = ⊥
AreReadAs (line ∷ lines) (read ∷ reads) = IsReadAs line read × AreReadAs lines reads

-- ---- answers

abbrev pub order_line : State → List ℕ
order_line s = codes "ORDER" ++ number_word s.last_number ++ codes "\n"

abbrev pub verdict_line : Option ChangeFault → List ℕ
verdict_line None = codes "OK\n"
verdict_line (Some fault) = fault_line (codes "REFUSED") (number_of fault) (name_of fault)

-- the answer to a change, and the state after it
unfoldable pub change_answer : ℕ → Change → State → List ℕ
change_answer budget change s = if is_next change s then verdict_line (refusal budget change s)
    else order_line s

unfoldable pub after_change : ℕ → Change → State → State
after_change budget change s = if is_next change s && is_none (refusal budget change s)
    then applied change s else s

-- the same of a line, by what it is read as
abbrev pub line_answer : ℕ → Option Change → State → List ℕ
line_answer budget None s = codes "SYNTAX\n"
line_answer budget (Some change) s = change_answer budget change s

abbrev pub after_line : ℕ → Option Change → State → State
after_line budget None s = s
after_line budget (Some change) s = after_change budget change s

-- and of lines, one after the other
abbrev pub answers : ℕ → List (Option Change) → State → List ℕ
answers budget [] s = []
answers budget (read ∷ reads) s =
    line_answer budget read s ++ answers budget reads (after_line budget read s)

abbrev pub after_lines : ℕ → List (Option Change) → State → State
after_lines budget [] s = s
after_lines budget (read ∷ reads) s = after_lines budget reads (after_line budget read s)

-- a line spells no change
abbrev pub any_unread : List (Option Change) → Bool
any_unread [] = false
any_unread (read ∷ reads) = is_none read || any_unread reads

-- ---- the text

-- maximum size of the register in bytes
abbrev pub fold_budget : ℕ
fold_budget = 15616

abbrev pub fold_text : List (Option Change) → List ℕ
fold_text reads = answers fold_budget reads empty_state
    ++ register_text (after_lines fold_budget reads empty_state)

-- the text for an input, and whether a SYNTAX is in it
pub record IsFolded (input text : List ℕ) (found : Bool) : Type 0 where
  pub reads : List (Option Change)
  pub lines_are : AreReadAs (lines_of input) reads
  pub text_is : text ≡ fold_text reads
  pub found_is : found ≡ any_unread reads

-- ---- the steps: the effect of lines on a house and on the text

pub record IsStep (line : List ℕ) (unread : Bool) (old new : Held)
    (before text : List ℕ) : Type 0 where
  pub read : Option Change
  pub read_is : IsReadAs line read
  pub unread_is : unread ≡ is_none read
  pub house_is : new ≡ record old { state = after_line old.budget read old.state }
  pub text_is : text ≡ before ++ line_answer old.budget read old.state

pub record AreSteps (lines : List (List ℕ)) (found : Bool) (old new : Held)
    (before text : List ℕ) : Type 0 where
  pub reads : List (Option Change)
  pub lines_are : AreReadAs lines reads
  pub found_is : found ≡ any_unread reads
  pub house_is : new ≡ record old { state = after_lines old.budget reads old.state }
  pub text_is : text ≡ before ++ answers old.budget reads old.state
