use Rattle.std.proofs.Common.{◌≡◌, length}
use Rattle.mbdc_poll.specs.Round.{IsStored}
use Rattle.mbdc_poll.proofs.Rounds.{Becomes}
use Rattle.mbdc_poll.proofs.lines.store_all.Given as goal

abbrev pub invariant-lines : goal.invariant-lines
invariant-lines g l = record {
  count : length l.stations ≡ length l.fn.stations;
  becomes : Becomes (IsStored l.stored) l.at l.fn.stations l.stations;
}
