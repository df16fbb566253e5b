-- What was reported to the office holds in every state that may be found later (this product).
use Rattle.std.specs.Prelude.{◌≡◌, ℕ, List, [], ◌∷◌, ◌++◌}
use Rattle.mbdc_change.specs.State.{State}
use Rattle.mbdc_change.specs.declared.change.Change.{Change}
use Rattle.mbdc_change.specs.History.{after}
use Rattle.dc_upload.specs.declared.line.OfficeLine.{OfficeLine}
use Rattle.dc_upload.specs.Reply.{shown_text}
use Rattle.dc_core.specs.Core.{opened}
use Rattle.dc_core.specs.Event.{Reply, offices, replied, repeated, shown, obeyed}
use Rattle.dc_core.specs.Step.{Spells}
use Rattle.dc_core.specs.Transcript.{Turn, leads, IsChain, accepted_in}
use Rattle.dc_core.specs.Promised.{promised_in}
use Rattle.dc_core.specs.Lives.{IsFront}

-- what a reply states of a state: `OK n`, that n is the last command's number; readings, meters or
-- due-date values, that the state has those
abbrev pub Tells : List ℕ → Reply → State → Type 0
Tells text (repeated number) s = s.last_number ≡ number
Tells text (obeyed number change) s = s.last_number ≡ number
Tells text (shown bytes) s = (line : OfficeLine) × (Spells text line × (bytes ≡ shown_text line s))
Tells text reply s = Unit {0}

-- Each reply of these turns states what it does of the state after all that was accepted until then.
abbrev pub AreTold : State → List Turn → Type 0
AreTold state turns = (before behind : List Turn) (text : List ℕ) (reply : Reply)
    → turns ≡ before ++ (offices text, replied reply) ∷ behind → Tells text reply
    (after state (accepted_in (opened state) (before ++ (offices text, replied reply) ∷ [])))

-- The reply states what was committed when it was given, and the state is that after a prefix of what was accepted
-- since.
pub record ComesFrom (text : List ℕ) (reply : Reply) (answered : State) (since : List Change)
    (found : State) : Type 0 where
  pub tells : Tells text reply answered
  pub front : IsFront answered 0 since found

-- where the reply states a state
abbrev pub IfTelling : Reply → Type 0 → Type 0
IfTelling (repeated number) P = P
IfTelling (obeyed number change) P = P
IfTelling (shown bytes) P = P
IfTelling reply P = Unit {0}

-- WHAT WAS REPORTED TO THE OFFICE IS KEPT, in every chain of steps from a newly opened
-- concentrator: any state that may be found after it, or after a crash within the next event, which
-- may accept more, has every command acknowledged and every reading shown, and then what was
-- accepted since.
abbrev pub ToldIsKept : Type 0
ToldIsKept = (budget : ℕ) (state : State) (before : List Turn) (text : List ℕ) (reply : Reply)
    (later : List Turn) (more : List Change) (found : State)
    → IsChain budget (opened state) (before ++ (offices text, replied reply) ∷ later)
    → IsFront state (promised_in (before ++ (offices text, replied reply) ∷ later))
    (accepted_in (opened state) (before ++ (offices text, replied reply) ∷ later) ++ more) found
    → IfTelling reply (ComesFrom text reply
    (leads (opened state) (before ++ (offices text, replied reply) ∷ [])).committed
    (accepted_in (leads (opened state) (before ++ (offices text, replied reply) ∷ [])) later
    ++ more) found)
