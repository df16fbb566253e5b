use Rattle.mbdc.proofs.Commands.{done}
use Rattle.mbdc.proofs.fit.wished.Goals as goal

pub returns : goal.returns
returns g c = done g.D.Disk c.args.wish.now _ _ c.args.disk _ _ c.fit_over-disk.ensures
