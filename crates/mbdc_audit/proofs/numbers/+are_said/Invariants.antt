use Rattle.std.proofs.Common.{length}
use Rattle.mbdc_audit.proofs.numbers.+are_said.Given as goal

abbrev pub decreases-are_said : goal.decreases-are_said
decreases-are_said g l = length l.said.now
