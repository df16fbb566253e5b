use Rattle.std.proofs.Common.{arith}
use Rattle.std.proofs.lemmas.Grind.{common_steps}
use Rattle.dc_readout.proofs.answers.by_body.Goals as goal

pub returns-then-ne-clause-exact : goal.returns-then-ne-clause-exact
returns-then-ne-clause-exact c = grind (arith, common_steps)

pub returns-then-more_follows-clause-exact : goal.returns-then-more_follows-clause-exact
returns-then-more_follows-clause-exact c = grind (arith, common_steps)

pub returns-else-part-eq-MAX_PARTS-clause-exact : goal.returns-else-part-eq-MAX_PARTS-clause-exact
returns-else-part-eq-MAX_PARTS-clause-exact c = grind (arith, common_steps)
