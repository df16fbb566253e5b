use Rattle.std.proofs.Common.{◌≡◌, ◌++◌, drop, length, map}
use Rattle.std.specs.Vec.Iter.{into_iter_items}
use Rattle.mbdc_poll.specs.Planned.{AreStations}
use Rattle.mbdc_poll.specs.declared.station.Station.{Station}
use Rattle.mbdc_poll.proofs.image.stations_of.Given as goal

abbrev pub invariant-lines : goal.invariant-lines
invariant-lines g l = record {
  can : (goal.iterator-lines g).can_next l.bus-iterator;
  ends : (goal.iterator-lines g).is_finite l.bus-iterator;
  buses : map (λ (s : Station g.row.B.Denot). s.bus) l.stations.items ++ into_iter_items l.bus-iterator ≡ l.fn.buses.items;
  others : l.others ≡ drop (length l.stations.items) l.fn.queues;
  each : AreStations (λ v. v.items) g.B.HalfBus.lost l.fn.queues l.stations.items;
}
