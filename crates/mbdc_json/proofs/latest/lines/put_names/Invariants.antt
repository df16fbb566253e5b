use Rattle.std.proofs.Common.{◌≡◌, drop, false}
use Rattle.std.specs.Io.KnownBytes.{append_known}
use Rattle.mbdc_json.specs.LatestValues.{names_words}
use Rattle.mbdc_json.proofs.latest.lines.put_names.Given as goal

-- the names so far, and those that are left, make the whole
abbrev pub invariant-vifes : goal.invariant-vifes
invariant-vifes g l = record {
  text : append_known (g.W.Sink.written l.out) (names_words l.after_fc (drop l.vife-index l.vifes)) ≡ append_known (g.W.Sink.written l.initial.out) (names_words false l.vifes);
  well : g.W.Sink.put_failures l.out ≡ g.W.Sink.put_failures l.initial.out;
}
