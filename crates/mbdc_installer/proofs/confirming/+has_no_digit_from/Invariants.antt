use Rattle.std.proofs.Common.{◌-◌}
use Rattle.mbdc_installer.proofs.confirming.+has_no_digit_from.Given as goal

abbrev pub decreases-has_no_digit_from : goal.decreases-has_no_digit_from
decreases-has_no_digit_from g l = 10 - l.digit
