-- What is under way on a wire (this product), beside what the wire's contract says.
--
-- THE PREMISES of a line in time, by name, and where the model has each:
--   one master       Runs, Lives: nothing is sent on the wire but by the line
--   one answer       Puts: a request has at most one answer, and at most one copy of it
--   alike            IsAlike: a repeat while the acknowledgement is overdue has the same answer, where that was sent
--   in order         Passes, Comes: what is under way comes in the order in which it was sent, or is lost
--   patience         Passes: where the wire gives silence nothing is under way; it gives it after the
--                    patience, and when the time of the reset of all selected meters is over
--   no stray frame   Comes: what is taken as an answer is no frame, or the oldest that is under way
use Rattle.std.specs.Prelude.{◌≡◌, ℕ, Bool, true, false, List, [], ◌∷◌, ◌++◌, drop, Option, Some, None, ◌⊎◌}
use Rattle.dc_linkframe.specs.Reading.{frame_of}
use Rattle.mbdc_raw.specs.Wire.{Sound, silence}
use Rattle.mbdc_raw.specs.declared.wire.Wire.{Ghosts as WireGhosts}
use Rattle.mbdc_raw.specs.Line.{Gives, GivesOver, LineSends, LineWaits, Skips, a_copy, gives_all}
use Rattle.mbdc_raw.specs.Line.{gives_nothing, gives_now, gives_one, gives_then, gives_up, no_copy}
use Rattle.mbdc_raw.specs.Line.{one_answer, two_copies, waits_all, waits_held, waits_nothing, waits_one}
use Rattle.mbdc_raw.specs.declared.line.Line.{Line}
use Rattle.mbdc_raw.specs.declared.state.State.TheVariants.{Busy, Overdue}

-- a wire, and the answers under way on it, the oldest first
pub record OnWay (W : Type 0) : Type 0 where
  pub wire : W
  pub way : List (List ℕ)

-- A REQUEST whose answer is this puts it on the way once, twice, or not at all.
pub data Puts (reply : Option (List ℕ)) (old new : List (List ℕ)) : Type 0 where
  puts_none : new ≡ old → Puts reply old new
  puts_one : (answer : List ℕ) → reply ≡ Some answer → new ≡ old ++ answer ∷ []
      → Puts reply old new
  puts_two : (answer : List ℕ) → reply ≡ Some answer → new ≡ old ++ answer ∷ answer ∷ []
      → Puts reply old new

-- A SOUND OF THE WIRE: of what is under way the oldest came, or were lost.
pub record Passes (sound : Sound) (old new : List (List ℕ)) : Type 0 where
  pub gone : ℕ
  pub in_order : new ≡ drop gone old
  pub patience : sound ≡ silence → old ≡ []

-- WHAT IS TAKEN AS AN ANSWER: no frame, or the oldest under way once some were lost
pub data Comes (answer : List ℕ) (old new : List (List ℕ)) : Type 0 where
  no_frame : frame_of answer ≡ None → Comes answer old new
  oldest : (lost : ℕ) → drop lost old ≡ answer ∷ new → Comes answer old new

-- A LINK THAT IS OPEN AGAIN may give anything; else what is under way stays.
abbrev pub Stays : (again : Bool) → (old new : List (List ℕ)) → Type 0
Stays false old new = new ≡ old
Stays true old new = Unit {0}

-- the wire, once the answer to each request is this
abbrev pub on_way : {W : Type 0} → WireGhosts W → Option (List ℕ) → WireGhosts (OnWay W)
on_way wire reply = record {
  failures = λ on. wire.failures on.wire;
  waits_left = λ on. wire.waits_left on.wire;
  few = λ on. wire.few on.wire;
  sends = λ old request asking new. wire.sends old.wire request asking new.wire
      × Puts reply old.way new.way;
  hears = λ old sound new. wire.hears old.wire sound new.wire × Passes sound old.way new.way;
  reopens = λ old again new. wire.reopens old.wire again new.wire × Stays again old.way new.way;
}

-- One request on a line and its answer (this product), where the premises hold of what is under way.

-- NO STRAY FRAME, in each step of this run
module _ {W : Type 0} {wire : WireGhosts (OnWay W)} where
  abbrev pub SkipsNoStray : {old new : Line (OnWay W)} → Skips wire old new → Type 0
  SkipsNoStray (no_copy same) = Unit {0}
  SkipsNoStray {old} {new} (a_copy copy answers is same) = Comes copy old.wire.way new.wire.way

  abbrev pub GivesNoStray : {old new : Line (OnWay W)} {answer : List ℕ}
      → Gives wire old answer new → Type 0
  GivesNoStray (gives_up held line is none looks same) = Unit {0}
  GivesNoStray (gives_one none one (two_copies silent gives)) = Unit {0}
  GivesNoStray {new} {answer} (gives_one none one (one_answer gives)) =
      SkipsNoStray gives.skips × Comes answer gives.between.wire.way new.wire.way
  GivesNoStray (gives_all none all gives) = Unit {0}
  GivesNoStray (gives_nothing none nobody silent gives) = Unit {0}

  abbrev pub WaitsNoStray : {old new : Line (OnWay W)} → LineWaits wire old new → Type 0
  WaitsNoStray (waits_held held gone runs is quiet looks) = Unit {0}
  WaitsNoStray (waits_one runs none one waits) = SkipsNoStray waits.skips
  WaitsNoStray (waits_all runs none all waits) = Unit {0}
  WaitsNoStray (waits_nothing runs none nobody waits) = Unit {0}

  abbrev pub NoStray : {old new : Line (OnWay W)} {answer : List ℕ}
      → GivesOver wire old answer new → Type 0
  NoStray {old} {new} (gives_now gives) =
      (runs : new.lost ≡ false) → GivesNoStray (gives.given runs)
  NoStray (gives_then waits more) = WaitsNoStray waits × NoStray more

-- A REQUEST GOES OUT on the line, whose answer is this, and this is given as its answer.
pub record Asks {W : Type 0} (wire : WireGhosts W) (request : List ℕ) (reply : Option (List ℕ))
    (old : Line (OnWay W)) (answer : List ℕ) (new : Line (OnWay W)) : Type 0 where
  pub out : Line (OnWay W)
  pub sent : LineSends (on_way wire reply) false old request out
  pub given : GivesOver (on_way wire reply) out answer new
  pub no_stray : NoStray given

-- a line that was just connected; anything may be under way on it
pub record IsNew {W : Type 0} (line : Line (OnWay W)) : Type 0 where
  pub busy : line.state ≡ Busy
  pub last : line.last ≡ None

-- A REPEAT IS ANSWERED ALIKE: where this request repeats one that is overdue, its answer is that one's, if that had one
abbrev pub IsAlike : {W : Type 0} → Line (OnWay W) → List ℕ → (due reply : Option (List ℕ)) → Type 0
IsAlike line request due reply =
    line.state ≡ Overdue → line.hearing.request ≡ request → (due ≡ None) ⊎ (reply ≡ due)

-- A RUN of a line: one request after the other, of which the last had this answer
pub data Runs {W : Type 0} (wire : WireGhosts W) : Line (OnWay W) → Option (List ℕ) → Type 0 where
  connects : {new : Line (OnWay W)} → IsNew new → Runs wire new None
  asks : {old new : Line (OnWay W)} {request answer : List ℕ} {reply due : Option (List ℕ)}
      → Runs wire old due → IsAlike old request due reply → Asks wire request reply old answer new
      → Runs wire new reply

-- an answer to this very request, or no frame
abbrev pub IsToIt : Option (List ℕ) → List ℕ → Type 0
IsToIt reply answer = (frame_of answer ≡ None) ⊎ (reply ≡ Some answer)
