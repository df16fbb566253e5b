-- Whole runs: chains of steps, and the changes that they accepted (this product).
use Rattle.std.specs.Prelude.{ℕ, Option, None, Some, Ok, List, [], ◌∷◌, ◌++◌}
use Rattle.mbdc_change.specs.declared.change.Change.{Change}
use Rattle.dc_readout.specs.Summary.{Summary, verdict_by}
use Rattle.dc_core.specs.Core.{Core, session_of}
use Rattle.dc_core.specs.Event.{Event, Answer, hears, offices, heard, replied}
use Rattle.dc_core.specs.Event.{Reply, obeyed, uncommitted}
use Rattle.dc_core.specs.Step.{May, next, and_pending}

-- an event and its answer
abbrev pub Turn : Type 0
Turn = Event × Answer

-- ---- a chain of steps, the first turn first

-- the concentrator after these turns
abbrev pub leads : Core → List Turn → Core
leads core [] = core
leads core (turn ∷ turns) = leads (next core turn.0 turn.1) turns

-- each answer is one that its event may have in the state to which the turns before it lead
abbrev pub IsChain : ℕ → Core → List Turn → Type 0
IsChain budget core [] = Unit {0}
IsChain budget core (turn ∷ turns) =
    May budget core turn.0 turn.1 × IsChain budget (next core turn.0 turn.1) turns

-- ---- the changes that were accepted, in order

-- the telegram of an answer on a line with this session, as a change; none without a session
abbrev pub taken_from : ℕ → List ℕ → Option Summary → List Change
taken_from moment bytes None = []
taken_from moment bytes (Some s) = and_pending moment [] (verdict_by s bytes)

-- a command that was applied, whether or not its commit failed
abbrev pub taken_with : Reply → List Change
taken_with (obeyed number change) = change ∷ []
taken_with (uncommitted change fault) = change ∷ []
taken_with reply = []

-- the changes that one turn accepts: the telegram of an answer that was taken, or a new command
abbrev pub accepted_by : Core → Event → Answer → List Change
accepted_by core (hears line moment bytes) (heard (Ok answer)) =
    taken_from moment bytes (session_of core line)
accepted_by core (offices text) (replied reply) = taken_with reply
accepted_by core event answer = []

-- the changes that were accepted by these turns, the first turn first
abbrev pub accepted_in : Core → List Turn → List Change
accepted_in core [] = []
accepted_in core (turn ∷ turns) =
    accepted_by core turn.0 turn.1 ++ accepted_in (next core turn.0 turn.1) turns
