use Rattle.std.proofs.Common.{◌≡◌, ◌-◌, ◌<◌, vec_len, length}
use Rattle.mbdc_io.specs.Stream.{Takes}
use Rattle.mbdc_audit.proofs.engine.read_file.Given as goal

abbrev pub invariant-takes : goal.invariant-takes
invariant-takes g l = record {
  space : 0 < length l.space;
  bytes : Takes (g.R.Source.left l.initial.reader) (g.R.Source.left l.reader) l.file.items;
  ok : g.R.Source.take_failures l.reader ≡ g.R.Source.take_failures l.initial.reader;
}

abbrev pub decreases-takes : goal.decreases-takes
decreases-takes g l = 67108865 - vec_len l.file
