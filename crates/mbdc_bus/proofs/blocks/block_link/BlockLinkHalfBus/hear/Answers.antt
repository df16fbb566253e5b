use Rattle.std.proofs.Common.{rules}
use Rattle.mbdc_bus.proofs.blocks.block_link.BlockLinkHalfBus.hear.Goals as goal

pub returns-in-Some-clause-answer : goal.returns-in-Some-clause-answer
returns-in-Some-clause-answer g c = search rules
