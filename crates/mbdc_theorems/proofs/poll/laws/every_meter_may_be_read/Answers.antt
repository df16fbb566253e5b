use Rattle.mbdc_theorems.proofs.OnePoll.{is_met}
use Rattle.mbdc_theorems.proofs.poll.laws.every_meter_may_be_read.Goals as goal

pub returns : goal.returns
returns c = is_met
