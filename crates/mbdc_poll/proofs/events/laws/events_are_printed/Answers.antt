use Rattle.mbdc_poll.proofs.Printing.{are_printed}
use Rattle.mbdc_poll.proofs.events.laws.events_are_printed.Goals as goal

pub returns : goal.returns
returns g c = are_printed g.W.Sink
