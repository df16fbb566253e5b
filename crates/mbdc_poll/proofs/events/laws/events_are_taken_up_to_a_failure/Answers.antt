use Rattle.mbdc_poll.proofs.Printing.{up_to_a_failure}
use Rattle.mbdc_poll.proofs.events.laws.events_are_taken_up_to_a_failure.Goals as goal

pub returns : goal.returns
returns g c = up_to_a_failure g.N.Teller
