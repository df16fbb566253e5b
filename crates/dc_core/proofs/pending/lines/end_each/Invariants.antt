use Rattle.std.proofs.Common.{◌≡◌}
use Rattle.dc_core.specs.Lines.{unless_of}
use Rattle.dc_core.proofs.Changed.{changed_front}
use Rattle.dc_core.proofs.pending.lines.end_each.Given as goal

abbrev pub invariant-loop-session : goal.invariant-loop-session
invariant-loop-session l = l.sessions ≡ changed_front (unless_of l.fn.meter) l.session-index l.fn.sessions
