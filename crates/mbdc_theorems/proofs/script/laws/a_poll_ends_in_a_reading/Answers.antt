use Rattle.mbdc_theorems.proofs.Polls.{polls_end}
use Rattle.mbdc_theorems.proofs.script.laws.a_poll_ends_in_a_reading.Goals as goal

pub returns : goal.returns
returns c = polls_end
