use Rattle.std.proofs.Common.{◌≡◌}
use Rattle.dc_core.specs.Lines.{settled_on, NoMoreRequests}
use Rattle.dc_core.proofs.Changed.{changed_front}
use Rattle.dc_core.proofs.pending.lines.settle_each.Given as goal

abbrev pub invariant-loop-session : goal.invariant-loop-session
invariant-loop-session l = record {
  settled : l.sessions ≡ changed_front settled_on l.session-index l.fn.sessions;
  no_more : NoMoreRequests l.fn.sessions l.sessions;
}
