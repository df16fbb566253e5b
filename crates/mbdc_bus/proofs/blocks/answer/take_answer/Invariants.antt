use Rattle.std.proofs.Common.{◌≡◌}
use Rattle.mbdc_bus.proofs.Reading.{Reading}
use Rattle.mbdc_bus.proofs.blocks.answer.take_answer.Given as goal

abbrev pub invariant-loop-number : goal.invariant-loop-number
invariant-loop-number g l = record {
  well : g.R.Source.take_failures l.reader ≡ g.R.Source.take_failures l.initial.reader;
  so : Reading (g.R.Source.left l.initial.reader) (g.R.Source.left l.reader) l.number l.answer;
}
