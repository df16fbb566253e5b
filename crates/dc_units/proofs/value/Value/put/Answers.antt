use Rattle.std.proofs.Common.{arith}
use Rattle.dc_units.proofs.Ascii.{value_texts}
use Rattle.dc_units.proofs.value.Value.put.Goals as goal

pub returns-in-Flags-clause-ascii : goal.returns-in-Flags-clause-ascii
returns-in-Flags-clause-ascii c = grind (arith, value_texts)

pub returns-in-Day-clause-ascii : goal.returns-in-Day-clause-ascii
returns-in-Day-clause-ascii c = grind (arith, value_texts)

pub returns-in-Minute-clause-ascii : goal.returns-in-Minute-clause-ascii
returns-in-Minute-clause-ascii c = grind (arith, value_texts)
