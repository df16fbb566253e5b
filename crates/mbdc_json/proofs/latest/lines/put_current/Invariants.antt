use Rattle.std.proofs.Common.{◌≡◌, codes}
use Rattle.std.specs.List.{flat_map}
use Rattle.std.specs.Io.KnownBytes.{append_known}
use Rattle.mbdc_json.specs.LatestValues.{sent_line}
use Rattle.mbdc_json.proofs.latest.lines.put_current.Given as goal

-- the lines so far, and those of the records that are left, make the whole
abbrev pub invariant-loop-sent : goal.invariant-loop-sent
invariant-loop-sent g l = record {
  can : (goal.iterator-loop-sent g).can_next l.sent-iterator;
  ends : (goal.iterator-loop-sent g).is_finite l.sent-iterator;
  text : append_known (g.W.Sink.written l.out) (flat_map (sent_line (codes "VALUE")) l.sent-iterator) ≡ append_known (g.W.Sink.written l.initial.out) (flat_map (sent_line (codes "VALUE")) l.initial.sent-iterator);
  well : g.W.Sink.put_failures l.out ≡ g.W.Sink.put_failures l.initial.out;
}
