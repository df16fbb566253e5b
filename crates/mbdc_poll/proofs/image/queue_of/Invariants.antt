use Rattle.std.proofs.Common.{◌≡◌, ◌++◌}
use Rattle.std.specs.Prelude.{map, filter}
use Rattle.mbdc_poll.specs.Planned.{is_queued, wanted_on}
use Rattle.mbdc_poll.proofs.image.queue_of.Given as goal

-- those so far, and those that are left, make the whole
abbrev pub invariant-meters : goal.invariant-meters
invariant-meters g l = record {
  can : (goal.iterator-meters g).can_next l.meter-iterator;
  ends : (goal.iterator-meters g).is_finite l.meter-iterator;
  queue : l.queue.items ++ map (λ row. row.0) (filter (is_queued l.line l.only) l.meter-iterator) ≡ wanted_on l.house.state l.only l.line;
}
