use Rattle.mbdc_poll.proofs.Retried.{drops_nothing, is_asked_again}
use Rattle.mbdc_poll.proofs.laws.a_busy_meter_is_asked_again.Goals as goal

pub returns : goal.returns
returns g c = record {
  retries = drops_nothing g.B.HalfBus;
  asked_again = is_asked_again;
}
