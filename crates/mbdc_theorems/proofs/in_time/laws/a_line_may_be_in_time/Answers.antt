use Rattle.mbdc_theorems.proofs.LateRun.{is_met}
use Rattle.mbdc_theorems.proofs.in_time.laws.a_line_may_be_in_time.Goals as goal

pub returns : goal.returns
returns c = is_met
