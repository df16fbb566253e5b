-- The state of a concentrator, apart from its disk: what is committed, the pending changes, the
-- session on each line, and whether a failure of the disk has stopped it (this product).
use Rattle.std.specs.Prelude.{ℕ, Bool, false, Option, List, []}
use Rattle.mbdc_change.specs.State.{State}
use Rattle.mbdc_change.specs.declared.change.Change.{Change}
use Rattle.mbdc_change.specs.History.{after}
use Rattle.dc_readout.specs.Summary.{Summary}
use Rattle.dc_core.specs.Lines.{on_line, put_on, no_sessions}

-- The committed register, the changes that are accepted and not committed, the session on each bus line, and
-- whether a failure of the disk has stopped the concentrator.
pub record Core : Type 0 where
  pub committed : State
  pub pending : List Change
  pub lines : List (Option Summary)
  pub stopped : Bool

-- the register with the pending changes, on which everything is judged
abbrev pub present : Core → State
present core = after core.committed core.pending

-- the readout session on a bus line, if any
abbrev pub session_of : Core → ℕ → Option Summary
session_of core line = on_line line core.lines

-- the concentrator with this session, or none, on a bus line
abbrev pub with_session : ℕ → Option Summary → Core → Core
with_session line session core = record core { lines = put_on line session core.lines }

-- a newly opened concentrator: nothing is pending, and no line has a session
abbrev pub opened : State → Core
opened state = record { committed = state; pending = []; lines = no_sessions; stopped = false }
