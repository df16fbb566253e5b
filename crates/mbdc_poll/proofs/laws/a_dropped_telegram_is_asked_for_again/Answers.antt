use Rattle.mbdc_poll.proofs.Remembered.{a_repeat_is_heard, another_is_heard, drops_nothing, is_taken_twice}
use Rattle.mbdc_poll.proofs.laws.a_dropped_telegram_is_asked_for_again.Goals as goal

pub returns : goal.returns
returns g c = record {
  remembers = drops_nothing g.B.HalfBus;
  third = another_is_heard;
  sent_again = a_repeat_is_heard;
  twice = is_taken_twice;
}
