use Rattle.std.proofs.Common.{arith}
use Rattle.std.proofs.lemmas.Grind.{common_steps}
use Rattle.mbdc_reading.proofs.form.form_of.Goals as goal

pub returns-in-13-clause-fits : goal.returns-in-13-clause-fits
returns-in-13-clause-fits c = grind (arith, common_steps)
