use Rattle.std.proofs.Common.{◌≡◌, List, map, take}
use Rattle.mbdc_io.specs.Stream.{Puts}
use Rattle.mbdc_change.specs.State.{State}
use Rattle.dc_core.specs.Core.{opened}
use Rattle.dc_core.specs.Transcript.{Turn, leads, IsChain}
use Rattle.dc_core.specs.Images.{IsAt}
use Rattle.dc_core.specs.Run.{event_of, Ran}
use Rattle.dc_core.proofs.concentrator.Concentrator.run.Given as goal

abbrev pub invariant-loop-event : goal.invariant-loop-event
invariant-loop-event g l = record {
  ran : (origin : g.row.D.Denot) (state : State) (before : List Turn) → IsChain l.fn.self.house.budget (opened state) before → IsAt g.D.Disk origin l.fn.self (leads (opened state) before)
      → Ran g.D.Disk origin l.fn.self.house.budget state before (map event_of (take l.event-index l.events)) (Puts (g.W.Sink.written l.fn.out) (g.W.Sink.written l.out)) l.fn.self l.self;
  budget : l.self.house.budget ≡ l.fn.self.house.budget;
  well : g.W.Sink.put_failures l.out ≡ g.W.Sink.put_failures l.fn.out;
}
