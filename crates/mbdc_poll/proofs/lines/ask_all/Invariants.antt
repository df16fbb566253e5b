use Rattle.std.proofs.Common.{◌≡◌, ◌≤◌, ◌-◌, List, length}
use Rattle.std.specs.List.{All}
use Rattle.dc_core.specs.Core.{Core}
use Rattle.mbdc_poll.specs.Happening.{Happening}
use Rattle.mbdc_poll.specs.Keeping.{IsAsking}
use Rattle.mbdc_poll.specs.Round.{Runs, AllSteps}
use Rattle.mbdc_poll.specs.Station.{IsSound, rounds_of}
use Rattle.mbdc_poll.proofs.Rounds.{Becomes}
use Rattle.mbdc_poll.proofs.lines.ask_all.Given as goal

abbrev pub invariant-lines : goal.invariant-lines
invariant-lines g l = record {
  budget : l.concentrator.house.budget ≡ l.fn.concentrator.house.budget;
  count : length l.stations ≡ length l.fn.stations;
  sound : All (IsSound g.B.HalfBus l.tries) l.stations;
  becomes : Becomes (λ old new. rounds_of g.B.HalfBus 0 0 0 l.tries new ≤ rounds_of g.B.HalfBus 1 1 1 l.tries old - 1) l.at l.fn.stations l.stations;
  so_far : Runs g.D.Disk (λ (core : Core) (happened : List Happening). AllSteps g.B.HalfBus l.tries (All IsAsking) l.fn.stations l.stations happened) l.fn.concentrator l.concentrator;
}
