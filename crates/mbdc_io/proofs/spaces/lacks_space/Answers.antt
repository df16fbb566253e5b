use Rattle.std.proofs.Common.{arith}
use Rattle.mbdc_io.proofs.Solid.{filter_solid}
use Rattle.mbdc_io.proofs.spaces.lacks_space.Goals as goal

pub returns-in-None : goal.returns-in-None
returns-in-None c h = filter_solid c.args.line.now (λ k below. c.in-None.ensures k (omega arith) below)
