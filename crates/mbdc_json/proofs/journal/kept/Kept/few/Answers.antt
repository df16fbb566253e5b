use Rattle.std.proofs.Common.{arith}
use Rattle.mbdc_json.proofs.Bodies.{few_are, too_many}
use Rattle.mbdc_json.proofs.journal.kept.Kept.few.Goals as goal

pub returns-in-Some : goal.returns-in-Some
returns-in-Some g c = grind (arith, few_are, too_many)

pub returns-in_default : goal.returns-in_default
returns-in_default g c = grind (arith, few_are, too_many)
