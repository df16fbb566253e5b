use Rattle.std.proofs.Common.{arith, rules}
use Rattle.std.proofs.lemmas.Fmt.{length-decimal-le}
use Rattle.std.proofs.lemmas.Grind.{common_steps}
use Rattle.dc_units.proofs.Ascii.{fraction_ascii}
use Rattle.dc_units.proofs.decimal.put_fraction.Goals as goal

pub write_digits-requires : goal.write_digits-requires
write_digits-requires c =
    let short = length-decimal-le 20 c.put_digits-whole.result (omega arith) (omega arith) (omega arith) in
    (omega (arith, short), search rules)

pub returns-clause-start : goal.returns-clause-start
returns-clause-start c =
    let short = length-decimal-le 20 c.put_digits-whole.result (omega arith) (omega arith) (omega arith) in
    (omega (arith, short), omega arith, omega (arith, short))

pub returns-clause-written : goal.returns-clause-written
returns-clause-written c = grind (arith, common_steps)

pub returns-clause-ascii : goal.returns-clause-ascii
returns-clause-ascii c = grind (arith, fraction_ascii)
