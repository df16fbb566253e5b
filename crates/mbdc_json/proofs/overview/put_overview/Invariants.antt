use Rattle.std.proofs.Common.{◌≡◌}
use Rattle.std.specs.List.{flat_map}
use Rattle.std.specs.Io.KnownBytes.{append_known}
use Rattle.mbdc_json.specs.Overview.{overview_line}
use Rattle.mbdc_json.proofs.overview.put_overview.Given as goal

-- the text so far, and that of the meters that are left, make the whole
abbrev pub invariant-loop-place : goal.invariant-loop-place
invariant-loop-place g l = record {
  can : (goal.iterator-loop-place g).can_next l.place-iterator;
  ends : (goal.iterator-loop-place g).is_finite l.place-iterator;
  text : append_known (g.W.Sink.written l.out) (flat_map (overview_line l.clock.patience l.clock.now l.journal l.house.state) l.place-iterator) ≡ append_known (g.W.Sink.written l.initial.out) (flat_map (overview_line l.clock.patience l.clock.now l.journal l.house.state) l.initial.place-iterator);
  well : g.W.Sink.put_failures l.out ≡ g.W.Sink.put_failures l.initial.out;
}
