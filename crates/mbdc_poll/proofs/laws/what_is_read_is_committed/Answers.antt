use Rattle.mbdc_poll.proofs.Finding.{answers_find_room}
use Rattle.mbdc_poll.proofs.Leaving.{settled_at, settled_told}
use Rattle.mbdc_poll.proofs.Meanings.{none_waits}
use Rattle.mbdc_poll.proofs.laws.what_is_read_is_committed.Goals as goal

pub returns : goal.returns
returns g c = record {
  asked = settled_at g.T.Timer.tells g.T.Timer.passes;
  told = settled_told;
  pending = none_waits;
  room = answers_find_room g.T.Timer.tells g.T.Timer.passes;
}
