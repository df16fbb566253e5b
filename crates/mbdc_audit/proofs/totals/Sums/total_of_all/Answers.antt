use Rattle.std.proofs.Common.{arith}
use Rattle.std.proofs.lemmas.Grind.{common_steps}
use Rattle.mbdc_audit.proofs.totals.Sums.total_of_all.Goals as goal

pub returns-in_err-total : goal.returns-in_err-total
returns-in_err-total g c = grind (arith, common_steps)

pub places-preserved : goal.places-preserved
places-preserved g c = grind (arith, common_steps)

pub returns : goal.returns
returns g c = grind (arith, common_steps)
