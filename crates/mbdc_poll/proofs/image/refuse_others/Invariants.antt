use Rattle.std.proofs.Common.{◌≡◌, ◌+◌, ◌≤◌, drop, map}
use Rattle.std.specs.Prelude.{min}
use Rattle.mbdc_poll.specs.Planned.{has_bus, refused_count, refused_events}
use Rattle.mbdc_poll.specs.Telling.{TakesAll}
use Rattle.mbdc_poll.specs.declared.station.Station.{Station}
use Rattle.mbdc_poll.proofs.image.refuse_others.Given as goal

abbrev pub invariant-meters : goal.invariant-meters
invariant-meters g l = record {
  -- what is left to tell makes the rest
  events : (last : g.row.N.Denot) → TakesAll g.N.Teller.takes l.teller last (refused_events (has_bus g.B.HalfBus.lost (map (λ (s : Station g.row.B.Denot). s.bus) l.stations)) l.house.state (drop l.meter-index l.wanted))
      → TakesAll g.N.Teller.takes l.fn.teller last (refused_events (has_bus g.B.HalfBus.lost (map (λ (s : Station g.row.B.Denot). s.bus) l.stations)) l.house.state l.wanted);
  well : g.N.Teller.failures l.teller ≡ g.N.Teller.failures l.fn.teller;
  small : l.refused ≤ 4294967295;
  count : min 4294967295 (l.refused + refused_count (has_bus g.B.HalfBus.lost (map (λ (s : Station g.row.B.Denot). s.bus) l.stations)) l.house.state (drop l.meter-index l.wanted)) ≡ min 4294967295 (refused_count (has_bus g.B.HalfBus.lost (map (λ (s : Station g.row.B.Denot). s.bus) l.stations)) l.house.state l.wanted);
}
