use Rattle.std.proofs.Common.{arith}
use Rattle.std.proofs.lemmas.Grind.{common_steps}
use Rattle.mbdc_poll.proofs.image.queues_of.Goals as goal

pub lines-init : goal.lines-init
lines-init g c = grind (arith, common_steps)

pub line_at-requires : goal.line_at-requires
line_at-requires g c = omega (arith, c.lines-test.true, c.requires)

pub bounds-buses-at : goal.bounds-buses-at
bounds-buses-at g c = c.lines-test.true

pub lines-preserved : goal.lines-preserved
lines-preserved g c = grind (arith, common_steps)

pub returns-clause-count : goal.returns-clause-count
returns-clause-count g c = grind arith

pub returns-clause-queues : goal.returns-clause-queues
returns-clause-queues g c = c.lines.invariant.queues
