use Rattle.std.proofs.Common.{◌≡◌, length}
use Rattle.mbdc_poll.specs.Planned.{AreQueues}
use Rattle.mbdc_poll.proofs.image.queues_of.Given as goal

abbrev pub invariant-lines : goal.invariant-lines
invariant-lines g l = record {
  count : length l.queues.items ≡ l.at;
  queues : AreQueues (λ v. v.items) g.B.HalfBus.lost l.house.state l.only l.buses l.queues.items;
}
