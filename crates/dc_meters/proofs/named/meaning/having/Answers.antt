use Rattle.std.proofs.Common.{arith}
use Rattle.std.proofs.lemmas.Grind.{common_steps}
use Rattle.dc_meters.proofs.named.meaning.having.Goals as goal

pub meters-init : goal.meters-init
meters-init g c = grind (arith, common_steps)

pub meters-preserved-in-Continue-1 : goal.meters-preserved-in-Continue-1
meters-preserved-in-Continue-1 g c = grind (arith, common_steps)
