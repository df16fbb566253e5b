use Rattle.mbdc_change.proofs.Padding.{IsKept-padded}
use Rattle.std.proofs.Common.{arith}
use Rattle.mbdc_change.proofs.command_line.CommandLine.new.Goals as goal

pub invariant_of-result : goal.invariant_of-result
invariant_of-result c = rw c.padded.ensures (IsKept-padded 120 c.args.line.now (omega arith))
