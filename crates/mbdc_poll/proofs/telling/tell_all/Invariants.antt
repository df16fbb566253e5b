use Rattle.std.proofs.Common.{◌≡◌, ◌≤◌, ◌+◌, ℕ, List, length}
use Rattle.dc_core.specs.Core.{Core}
use Rattle.mbdc_poll.specs.Telling.{TakesAll}
use Rattle.mbdc_poll.specs.Happening.{Happening}
use Rattle.mbdc_poll.specs.Round.{AllTells, Runs}
use Rattle.mbdc_poll.specs.Station.{IsSound, rounds_of}
use Rattle.mbdc_poll.proofs.Rounds.{Becomes}
use Rattle.mbdc_poll.proofs.telling.tell_all.Given as goal

abbrev pub invariant-lines : goal.invariant-lines
invariant-lines g l = record {
  well : g.N.Teller.failures l.teller ≡ g.N.Teller.failures l.fn.teller;
  count : length l.stations ≡ length l.fn.stations;
  few : l.outcome.read + l.outcome.failed ≤ l.fn.outcome.read + l.fn.outcome.failed + l.at;
  becomes : Becomes (λ old new. (tries : ℕ) → (IsSound g.B.HalfBus tries old → IsSound g.B.HalfBus tries new)
      × (rounds_of g.B.HalfBus 1 1 1 tries new ≤ rounds_of g.B.HalfBus 1 1 0 tries old)) l.at l.fn.stations l.stations;
  so_far : Runs g.D.Disk (λ (core : Core) (happened : List Happening). AllTells g.B.HalfBus l.fn.stations l.stations (TakesAll g.N.Teller.takes l.fn.teller l.teller) l.fn.outcome l.outcome core happened) l.fn.concentrator l.fn.concentrator;
}
