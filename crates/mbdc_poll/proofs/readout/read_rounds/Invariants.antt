use Rattle.std.proofs.Common.{◌≡◌, ◌≤◌, ◌+◌, ◌*◌, List, length}
use Rattle.std.specs.List.{All}
use Rattle.dc_core.specs.Core.{Core}
use Rattle.mbdc_poll.specs.Telling.{TakesAll}
use Rattle.mbdc_poll.specs.Happening.{Happening}
use Rattle.mbdc_poll.specs.Keeping.{all_kept}
use Rattle.mbdc_poll.specs.Polls.{PollsTo}
use Rattle.mbdc_poll.specs.Round.{EachFewer, Runs}
use Rattle.mbdc_poll.specs.Station.{IsSound, rounds_of}
use Rattle.mbdc_poll.specs.declared.station.Station.{Station}
use Rattle.mbdc_poll.proofs.readout.read_rounds.Given as goal

abbrev pub invariant-rounds : goal.invariant-rounds
invariant-rounds g l = record {
  budget : l.concentrator.house.budget ≡ l.fn.concentrator.house.budget;
  count : length l.stations ≡ length l.fn.stations;
  sound : All (IsSound g.B.HalfBus l.tries) l.stations;
  well : g.N.Teller.failures l.teller ≡ g.N.Teller.failures l.fn.teller;
  few : l.counts.read + l.counts.failed ≤ l.fn.before.read + l.fn.before.failed + 8 * l.counter;
  fewer : EachFewer (λ (s : Station g.row.B.Denot). rounds_of g.B.HalfBus 1 1 1 l.tries s + 1) (rounds_of g.B.HalfBus 1 1 1 l.tries) l.counter l.fn.stations l.stations;
  so_far : Runs g.D.Disk (λ (core : Core) (happened : List Happening). PollsTo g.B.HalfBus g.T.Timer.tells g.T.Timer.passes l.tries all_kept l.fn.stations l.stations l.fn.timer l.timer
      (TakesAll g.N.Teller.takes l.fn.teller l.teller) l.fn.before l.counts core happened) l.fn.concentrator l.concentrator;
}
