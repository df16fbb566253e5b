use Rattle.std.proofs.Common.{◌≡◌, ◌≤◌, ◌+◌, ◌*◌, length}
use Rattle.mbdc_change.specs.Fields.{last_moment}
use Rattle.mbdc_io.specs.Stream.{Puts}
use Rattle.mbdc_io.specs.Lines.{lines_of, longest_input_line}
use Rattle.dc_poller.specs.Link.{HasBus, link_of}
use Rattle.dc_poller.specs.Traffic.{AreCarried}
use Rattle.dc_poller.proofs.LineRuns.{SoFar}
use Rattle.dc_poller.proofs.script.run_lines.Given as goal

abbrev pub invariant-lines : goal.invariant-lines
invariant-lines g l = record {
  bytes : longest_input_line ≤ 2 * length l.bytes;
  counted : l.count + length l.rest ≤ length l.input;
  budget : l.concentrator.house.budget ≡ l.fn.concentrator.house.budget;
  well : g.W.Sink.put_failures l.out ≡ g.W.Sink.put_failures l.fn.out;
  moment : l.moment.0 ≤ last_moment;
  had : HasBus (link_of g.B.Bus.lost l.gateway) → HasBus (link_of g.B.Bus.lost l.fn.gateway);
  so_far : (origin : g.row.D.Denot) → SoFar g.D.Disk origin l.fn.concentrator.house.budget (link_of g.B.Bus.lost l.fn.gateway) (link_of g.B.Bus.lost l.gateway) (lines_of l.input) (lines_of l.rest) l.moment.0 l.count
      (Puts (g.W.Sink.written l.fn.out) (g.W.Sink.written l.out)) (AreCarried g.B.Bus.lost g.B.Bus.asks l.fn.gateway l.gateway) l.fn.concentrator l.concentrator;
}

abbrev pub decreases-lines : goal.decreases-lines
decreases-lines g l = length l.rest
