use Rattle.std.proofs.Common.{arith}
use Rattle.std.proofs.lemmas.Grind.{common_steps}
use Rattle.mbdc_audit.proofs.house.House.exact.Goals as goal

pub returns-in_err-scale : goal.returns-in_err-scale
returns-in_err-scale g c = grind (arith, common_steps)

pub returns-in_err-ok_or : goal.returns-in_err-ok_or
returns-in_err-ok_or g c = grind (arith, common_steps)
