use Rattle.mbdc_poll.proofs.Apart.{queue_apart}
use Rattle.mbdc_poll.proofs.Bounded.{few_starts}
use Rattle.mbdc_poll.proofs.Once.{none_again}
use Rattle.mbdc_poll.proofs.Reading.{all_read}
use Rattle.mbdc_poll.proofs.Tried.{all_tried}
use Rattle.mbdc_poll.proofs.laws.a_queue_goes_in_passes.Goals as goal

pub returns : goal.returns
returns c = record { started = all_tried; few = few_starts; once = none_again; read = all_read; apart = queue_apart }
