use Rattle.mbdc_theorems.proofs.Polls.{polls_are_served}
use Rattle.mbdc_theorems.proofs.script.laws.a_poll_may_be_served.Goals as goal

pub returns : goal.returns
returns c = polls_are_served
