use Rattle.std.proofs.Common.{arith}
use Rattle.std.proofs.lemmas.Grind.{common_steps}
use Rattle.mbdc_reading.proofs.Powers.{room_for_digits}
use Rattle.mbdc_reading.proofs.value.value_of.Goals as goal

pub digits_after-requires-clause-fits : goal.digits_after-requires-clause-fits
digits_after-requires-clause-fits c = grind (arith, room_for_digits)

pub returns-in_default : goal.returns-in_default
returns-in_default c = grind (arith, common_steps)
