use Rattle.std.proofs.Common.{◌≡◌, true, [], IfSome}
use Rattle.mbdc_bus.proofs.Halves.{HasHeard, and_open}
use Rattle.mbdc_bus.proofs.both.Both.await_answer.Given as goal

abbrev pub invariant-waits : goal.invariant-waits
invariant-waits g l = record {
  heard : HasHeard g.B.HalfBus.gives g.B.HalfBus.waits l.fn.self.bus l.heard l.self.bus;
  silence : g.B.HalfBus.lost l.self.bus ≡ true → IfSome l.heard (λ answer. answer ≡ []);
}

abbrev pub decreases-waits : goal.decreases-waits
decreases-waits g l = and_open l.heard (g.B.HalfBus.waits_left l.self.bus)
