use Rattle.std.proofs.Common.{refl, arith, rules}
use Rattle.std.proofs.lemmas.Grind.{common_steps}
use Rattle.mbdc_reading.specs.Codes.{table_code}
use Rattle.mbdc_reading.proofs.codes.table_code.Goals as goal

pub code_in-requires : goal.code_in-requires
code_in-requires c = refl

pub returns-clause-short : goal.returns-clause-short
unfolding table_code
returns-clause-short c = grind (arith, common_steps)

pub returns-clause-exact : goal.returns-clause-exact
unfolding table_code
returns-clause-exact c = search rules
