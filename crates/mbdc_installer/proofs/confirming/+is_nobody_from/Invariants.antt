use Rattle.std.proofs.Common.{◌-◌}
use Rattle.mbdc_installer.proofs.confirming.+is_nobody_from.Given as goal

abbrev pub decreases-is_nobody_from : goal.decreases-is_nobody_from
decreases-is_nobody_from g l = 8 - l.place
