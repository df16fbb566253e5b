use Rattle.std.proofs.Common.{length}
use Rattle.mbdc_installer.proofs.number.+fix.Given as goal

abbrev pub decreases-fix : goal.decreases-fix
decreases-fix l = length l.codes.now
