use Rattle.std.proofs.Common.{arith}
use Rattle.mbdc_io.proofs.Values.{none_at}
use Rattle.mbdc_io.proofs.hex.value_of.Goals as goal

pub returns-else-value-lt16-clause-value : goal.returns-else-value-lt16-clause-value
returns-else-value-lt16-clause-value c = none_at c.args.digit (omega arith) c.if-value-lt16.false
