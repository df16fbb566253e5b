use Rattle.std.proofs.Common.{◌≡◌, true, List}
use Rattle.dc_address.specs.declared.identity.Identity.{Identity}
use Rattle.mbdc_change.specs.State.{State}
use Rattle.dc_core.specs.Core.{opened}
use Rattle.dc_core.specs.Images.{IsAt}
use Rattle.dc_core.specs.Transcript.{Turn, leads, IsChain}
use Rattle.mbdc_bus.specs.Bus.{AreExchanged}
use Rattle.mbdc_io.specs.Stream.{Puts}
use Rattle.dc_core.specs.Lines.{requests_on}
use Rattle.dc_poller.specs.Run.{run_of}
use Rattle.dc_poller.specs.Link.{link_by}
use Rattle.dc_poller.specs.Poll.{to_ask, happened_exchanges}
use Rattle.dc_poller.specs.Way.{Way}
use Rattle.dc_poller.proofs.poll.read_parts.Given as goal

abbrev pub invariant-rounds : goal.invariant-rounds
invariant-rounds g l = record {
  budget : l.concentrator.house.budget ≡ l.fn.concentrator.house.budget;
  well : g.W.Sink.put_failures l.out ≡ g.W.Sink.put_failures l.fn.out;
  untouched : g.B.Bus.lost l.fn.bus ≡ true → l.bus ≡ l.fn.bus;
  so_far : (meter : Identity) (origin : g.row.D.Denot) (state : State) (before : List Turn) → IsChain l.fn.concentrator.house.budget (opened state) before → IsAt g.D.Disk origin l.fn.concentrator (leads (opened state) before)
      → Way g.D.Disk (run_of origin l.fn.concentrator.house.budget state before l.fn.concentrator l.concentrator) l.line l.moment.seconds meter (record { due = to_ask; link = link_by (g.B.Bus.lost l.fn.bus) }) (λ happened last. (last ≡ record { due = to_ask; link = link_by (g.B.Bus.lost l.bus) })
      × AreExchanged g.B.Bus.asks l.fn.bus (happened_exchanges happened) l.bus) (Puts (g.W.Sink.written l.fn.out) (g.W.Sink.written l.out));
}

-- each round takes away one of the requests that the line's session may make
abbrev pub decreases-rounds : goal.decreases-rounds
decreases-rounds g l = requests_on l.line l.concentrator.lines
