use Rattle.std.proofs.Common.{arith}
use Rattle.std.proofs.lemmas.Grind.{common_steps}
use Rattle.dc_upload.proofs.reply.write_shown.Goals as goal

pub returns-in-Command-clause-text : goal.returns-in-Command-clause-text
returns-in-Command-clause-text g c = grind (arith, common_steps)

pub returns-in-Command-clause-well : goal.returns-in-Command-clause-well
returns-in-Command-clause-well g c = grind (arith, common_steps)
