use Rattle.std.proofs.Common.{arith}
use Rattle.std.proofs.lemmas.Grind.{common_steps}
use Rattle.dc_sectors.proofs.file.DiskOver.read_sector.Goals as goal

pub returns-in-Ok-eq512-clause-made : goal.returns-in-Ok-eq512-clause-made
returns-in-Ok-eq512-clause-made g c = grind (arith, common_steps)
