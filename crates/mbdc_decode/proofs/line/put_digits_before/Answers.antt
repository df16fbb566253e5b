use Rattle.std.proofs.Common.{rules, arith}
use Rattle.std.proofs.lemmas.Fmt.{length-decimal-le}
use Rattle.mbdc_decode.specs.declared.line.TheConstants.{DIGITS_ROOM}
use Rattle.mbdc_decode.proofs.line.put_digits_before.Goals as goal

pub write_digits-requires : goal.write_digits-requires
write_digits-requires c =
    let short = length-decimal-le DIGITS_ROOM c.args.number (omega arith) (omega arith) (omega arith) in
    (omega (arith, short), search rules)

pub returns-clause-start : goal.returns-clause-start
returns-clause-start c =
    let short = length-decimal-le DIGITS_ROOM c.args.number (omega arith) (omega arith) (omega arith) in
    (omega arith, omega (arith, short))
