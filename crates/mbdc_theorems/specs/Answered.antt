-- A search on a bus of these meters, over one run (EN 13757-3, selection with wildcards; EN 13757-2, REQ_UD2): what came in
-- the windows of its questions. It is said of the windows of this run, and of nothing else that a bus might do.
--
-- THE PREMISES, by name, and where the model has each:
--   one master               the questions are all that was asked
--   matching                 selects: a selection selects the meters that match, and no other
--   windows                  each answer comes within the window of its request, and nothing else does
--   nothing lost three times acknowledges, answers: of three windows of a request one isn't silent, where a meter answers
--   several meters           are_told_apart: two windows in a row don't read as telegrams of one and the same meter
use Rattle.std.specs.Prelude.{◌≡◌, ◌≢◌, ℕ, ◌+◌, false, IsTrue, List, [], ◌∷◌, Some, None, filter}
use Rattle.dc_address.specs.Mask.{MaskParts, matches}
use Rattle.dc_address.specs.declared.identity.Identity.{Identity}
use Rattle.dc_linkframe.specs.Frame.{ack, spelling}
use Rattle.dc_search.specs.Answer.{answer_of}
use Rattle.dc_search.specs.State.{SearchState, after, is_idle, new_search, step_of}
use Rattle.dc_search.specs.declared.step.Step.TheVariants.{Select}
use Rattle.mbdc_bus.specs.Bus.{AreExchanged, Exchange}
use Rattle.mbdc_bus.specs.Windows.{Asking, IsAskedAll, Questions, Reads, comes_twice, differs, is_unread}
use Rattle.mbdc_bus.specs.Windows.{reads, selects, skips}

-- ---- what comes of these meters

-- to a selection that they match: nothing, one acknowledgement, or any bytes of several
abbrev pub Acknowledge : List Identity → List ℕ → Type 0
Acknowledge [] answer = answer ≡ []
Acknowledge (meter ∷ []) answer = answer ≡ spelling ack
Acknowledge (meter ∷ other ∷ more) answer = answer ≢ []

-- to the request for data when they are selected: nothing, the telegram of the one, or any bytes of several
abbrev pub Answer : List Identity → List ℕ → Type 0
Answer [] answer = answer ≡ []
Answer (meter ∷ []) answer = answer_of answer ≡ Some meter
Answer (meter ∷ other ∷ more) answer = Unit {0}

-- the same request twice: what comes of several isn't read twice as one meter
abbrev pub AreApart : List Identity → List ℕ → List ℕ → Type 0
AreApart [] first again = Unit {0}
AreApart (meter ∷ []) first again = Unit {0}
AreApart (meter ∷ other ∷ more) first again =
    answer_of first ≡ answer_of again → answer_of first ≡ None

-- ---- the questions of a run

module _ {B : Type 0} {asks_all : B → List ℕ → List ℕ → B → Type 0} where
  abbrev pub AreRead : {request answer : List ℕ} {old new : B} → List Identity
      → Reads asks_all request old answer new → Type 0
  AreRead chosen (is_unread answer none asked) = Answer chosen answer
  AreRead chosen (comes_twice first again one same asked repeated) =
      Answer chosen first × AreApart chosen first again
  AreRead chosen (differs first again one other asked repeated) =
      Answer chosen first × Answer chosen again

  -- A QUESTION, before which the first of these are selected, and after which the others are. A selection
  -- selects the meters that match the mask that is due.
  abbrev pub IsAnswered : {request answer : List ℕ} {old new : Asking B} → List Identity
      → SearchState → List Identity → List Identity → Questions asks_all old request answer new
      → Type 0
  IsAnswered {request} {answer} meters state before chosen (selects digits is asked several) =
      ((mask : MaskParts) → step_of state ≡ Select mask → chosen ≡ filter (matches mask) meters)
      × Acknowledge chosen answer
  IsAnswered meters state before chosen (skips is several noise same) = chosen ≡ before
  IsAnswered meters state before chosen (reads is one still read) =
      (chosen ≡ before) × AreRead before read

-- the questions, one after the other
abbrev pub AreAnswered : {B : Type 0} (asks_all : B → List ℕ → List ℕ → B → Type 0)
    → List Identity → SearchState → List Identity → (exchanges : List Exchange)
    → (old new : Asking B) → AreExchanged (Questions asks_all) old exchanges new → Type 0
AreAnswered asks_all meters state before [] old new same = Unit {0}
AreAnswered asks_all meters state before (exchange ∷ more) old new happened =
    (chosen : List Identity) × IsAnswered meters state before chosen happened.1
    × AreAnswered asks_all meters (after exchange.answer state) chosen more happened.0 new
    happened.2

-- THIS RUN OF A SEARCH WAS ANSWERED BY THESE METERS, of which none was selected at first.
abbrev pub IsAnsweredBy : {B : Type 0} {asks_all : B → List ℕ → List ℕ → B → Type 0} {budget : ℕ}
    {old new : B} {search : SearchState} → List Identity
    → IsAskedAll asks_all budget old new search → Type 0
IsAnsweredBy {asks_all} {budget} {old} {new} meters run =
    AreAnswered asks_all meters (new_search budget) [] run.asked.exchanges
    (record { bus = old; has_several = false })
    (record { bus = new; has_several = run.has_several }) run.asked.happened

-- ---- such a run exists

-- a bus that only counts what it is asked
abbrev pub Counted : ℕ → List ℕ → List ℕ → ℕ → Type 0
Counted old request answer new = new ≡ old + 1

-- a search of one meter with forty selections and one more: it was asked three times, and all premises hold
pub record OneIsAnswered (meter : Identity) : Type 0 where
  pub state : SearchState
  pub run : IsAskedAll Counted 41 0 3 state
  pub answered : IsAnsweredBy (meter ∷ []) run
  pub ended : IsTrue (is_idle (step_of state))
