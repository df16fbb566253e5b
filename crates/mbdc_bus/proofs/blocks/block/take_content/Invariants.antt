use Rattle.std.proofs.Common.{◌≡◌, ◌≤◌}
use Rattle.mbdc_bus.specs.Blocks.{most_block}
use Rattle.mbdc_bus.proofs.Taking.{SoFar}
use Rattle.mbdc_bus.proofs.blocks.block.take_content.Given as goal

abbrev pub invariant-takes : goal.invariant-takes
invariant-takes g l = record {
  room : l.left ≤ most_block;
  well : g.R.Source.take_failures l.reader ≡ g.R.Source.take_failures l.initial.reader;
  so : SoFar (g.R.Source.left l.initial.reader) (g.R.Source.left l.reader) l.count l.left l.initial.answer l.answer;
}

abbrev pub decreases-takes : goal.decreases-takes
decreases-takes g l = l.left
