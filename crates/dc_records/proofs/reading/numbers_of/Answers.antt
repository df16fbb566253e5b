use Rattle.std.proofs.Common.{arith}
use Rattle.std.proofs.lemmas.Grind.{common_steps}
use Rattle.dc_records.proofs.reading.numbers_of.Goals as goal

pub returns-in-empty-clause-storage : goal.returns-in-empty-clause-storage
returns-in-empty-clause-storage c = grind (arith, common_steps)

pub returns-in-empty-clause-tariff : goal.returns-in-empty-clause-tariff
returns-in-empty-clause-tariff c = grind (arith, common_steps)

pub returns-in-empty-clause-subunit : goal.returns-in-empty-clause-subunit
returns-in-empty-clause-subunit c = grind (arith, common_steps)
