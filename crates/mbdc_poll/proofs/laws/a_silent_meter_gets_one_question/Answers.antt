use Rattle.mbdc_poll.proofs.Spared.{is_asked_once, spares_nothing}
use Rattle.mbdc_poll.proofs.laws.a_silent_meter_gets_one_question.Goals as goal

pub returns : goal.returns
returns g c = record {
  spares = spares_nothing g.B.HalfBus;
  once = is_asked_once;
}
