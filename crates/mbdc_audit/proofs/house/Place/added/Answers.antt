use Rattle.std.proofs.Common.{arith}
use Rattle.std.proofs.lemmas.Grind.{common_steps}
use Rattle.mbdc_audit.proofs.house.Place.added.Goals as goal

pub returns-then-self-used : goal.returns-then-self-used
returns-then-self-used g c = grind (arith, common_steps)

pub returns-in_err-share : goal.returns-in_err-share
returns-in_err-share g c = grind (arith, common_steps)

pub returns-in_err-total : goal.returns-in_err-total
returns-in_err-total g c = grind (arith, common_steps)

pub windows-preserved : goal.windows-preserved
windows-preserved g c = grind (arith, common_steps)

pub returns : goal.returns
returns g c = grind (arith, common_steps)
