use Rattle.mbdc_poll.proofs.Recounted.{drops_nothing, is_begun_anew}
use Rattle.mbdc_poll.proofs.laws.a_readout_that_differs_begins_anew.Goals as goal

pub returns : goal.returns
returns g c = record {
  recounts = drops_nothing g.B.HalfBus;
  anew = is_begun_anew;
}
