use Rattle.std.proofs.Common.{◌≡◌, ◌-◌, ◌<◌, vec_len, length}
use Rattle.mbdc_io.specs.Stream.{Takes}
use Rattle.mbdc_io.proofs.input.read_input.Given as goal

abbrev pub invariant-takes : goal.invariant-takes
invariant-takes g l = record {
  chunk : 0 < length l.chunk;
  bytes : Takes (g.R.Source.left l.initial.reader) (g.R.Source.left l.reader) l.input.items;
  ok : g.R.Source.take_failures l.reader ≡ g.R.Source.take_failures l.initial.reader;
}

abbrev pub decreases-takes : goal.decreases-takes
decreases-takes g l = 1048577 - vec_len l.input
