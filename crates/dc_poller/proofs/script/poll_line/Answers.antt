use Rattle.std.proofs.Common.{ap, inr, refl}
use Rattle.mbdc_io.specs.Stream.{Puts}
use Rattle.dc_poller.specs.Link.{link_by, link_of}
use Rattle.dc_poller.specs.Poll.{happened_exchanges}
use Rattle.dc_poller.specs.Script.{no_gateway}
use Rattle.dc_poller.specs.ScriptLine.{poll as polls}
use Rattle.dc_poller.proofs.LineRuns.{polled_ran, polled_cut, said_ran, said_cut}
use Rattle.dc_poller.proofs.Traffics.{carries_none, carries_some, has_none, has_one}
use Rattle.dc_core.proofs.Wents.{went_none}
use Rattle.dc_poller.proofs.script.poll_line.Goals as goal

pub returns-then-line-ne-GATEWAY_LINE-clause-ran : goal.returns-then-line-ne-GATEWAY_LINE-clause-ran
returns-then-line-ne-GATEWAY_LINE-clause-ran g c origin state before chain at =
    let link = link_of g.B.Bus.lost c.args.gateway.now in
    said_ran g.D.Disk origin c.args.concentrator.now.house.budget state before c.args.moment.seconds (polls c.args.line c.args.meter.now) link link no_gateway (Puts (g.W.Sink.written c.args.out.now) (g.W.Sink.written c.put_no_gateway.new.out)) _ c.args.concentrator.now c.put_no_gateway.result
    (inr (record { no_bus = (λ linked. c.if-line-ne-GATEWAY_LINE.true linked.0); says = record { no_turns = refl; text_is = refl }; unasked = refl; left_is = refl }))
    (carries_none g.B.Bus.lost g.B.Bus.asks c.args.gateway.now)
    (went_none g.D.Disk origin c.args.concentrator.now.house.budget state before c.args.concentrator.now chain at (λ h image left. g.met.D.Disk.only_now c.args.concentrator.now.store.disk image left)) c.put_no_gateway.ensures.0

pub returns-then-line-ne-GATEWAY_LINE-clause-cut : goal.returns-then-line-ne-GATEWAY_LINE-clause-cut
returns-then-line-ne-GATEWAY_LINE-clause-cut g c origin state before chain at =
    said_cut g.D.Disk origin c.args.concentrator.now.house.budget state before c.args.moment.seconds (polls c.args.line c.args.meter.now) (link_of g.B.Bus.lost c.args.gateway.now) _ c.args.concentrator.now c.put_no_gateway.result
    (inr ((λ linked. c.if-line-ne-GATEWAY_LINE.true linked.0), refl, refl))
    (carries_none g.B.Bus.lost g.B.Bus.asks c.args.gateway.now)
    (went_none g.D.Disk origin c.args.concentrator.now.house.budget state before c.args.concentrator.now chain at (λ h image left. g.met.D.Disk.only_now c.args.concentrator.now.store.disk image left))

pub returns-in-Some-clause-ran : goal.returns-in-Some-clause-ran
returns-in-Some-clause-ran g c origin state before chain at =
    let lost = g.B.Bus.lost in
    let old = c.args.gateway.now in
    let bus = c.in-Some.bus in
    polled_ran g.D.Disk origin c.args.concentrator.now.house.budget state before c.args.moment.seconds c.args.line c.args.meter.now (link_of lost old) _ (link_by (lost c.poll.new.bus)) _
    (Puts (g.W.Sink.written c.args.out.now) (g.W.Sink.written c.poll.new.out)) _ c.args.concentrator.now c.poll.new.concentrator c.poll.result (ap (link_of lost) c.in-Some.is) (c.if-line-ne-GATEWAY_LINE.false, has_one lost old bus c.in-Some.is)
    (c.poll.ensures.went origin state before chain at) (λ happened last e. e.0) (λ happened last e. carries_some lost g.B.Bus.asks (happened_exchanges happened) old bus c.poll.new.bus c.in-Some.is e.2 c.poll.ensures.untouched)

pub returns-in-Some-clause-cut : goal.returns-in-Some-clause-cut
returns-in-Some-clause-cut g c origin state before chain at =
    let lost = g.B.Bus.lost in
    let old = c.args.gateway.now in
    let bus = c.in-Some.bus in
    polled_cut g.D.Disk origin c.args.concentrator.now.house.budget state before c.args.moment.seconds c.args.line c.args.meter.now (link_of lost old) _ _ _ _ c.args.concentrator.now c.poll.new.concentrator c.poll.result (ap (link_of lost) c.in-Some.is) (c.if-line-ne-GATEWAY_LINE.false, has_one lost old bus c.in-Some.is)
    (c.poll.ensures.went origin state before chain at) (λ happened last e. carries_some lost g.B.Bus.asks (happened_exchanges happened) old bus c.poll.new.bus c.in-Some.is e.2 c.poll.ensures.untouched)

pub returns-in-Some-clause-had : goal.returns-in-Some-clause-had
returns-in-Some-clause-had g c has_bus = has_one g.B.Bus.lost c.args.gateway.now c.in-Some.bus c.in-Some.is

pub returns-in-None-clause-ran : goal.returns-in-None-clause-ran
returns-in-None-clause-ran g c origin state before chain at =
    let link = link_of g.B.Bus.lost c.args.gateway.now in
    said_ran g.D.Disk origin c.args.concentrator.now.house.budget state before c.args.moment.seconds (polls c.args.line c.args.meter.now) link link no_gateway (Puts (g.W.Sink.written c.args.out.now) (g.W.Sink.written c.put_no_gateway-in-None.new.out)) _ c.args.concentrator.now c.put_no_gateway-in-None.result
    (inr (record { no_bus = (λ linked. has_none g.B.Bus.lost c.args.gateway.now c.in-None.is linked.1); says = record { no_turns = refl; text_is = refl }; unasked = refl; left_is = refl }))
    (carries_none g.B.Bus.lost g.B.Bus.asks c.args.gateway.now)
    (went_none g.D.Disk origin c.args.concentrator.now.house.budget state before c.args.concentrator.now chain at (λ h image left. g.met.D.Disk.only_now c.args.concentrator.now.store.disk image left)) c.put_no_gateway-in-None.ensures.0

pub returns-in-None-clause-cut : goal.returns-in-None-clause-cut
returns-in-None-clause-cut g c origin state before chain at =
    said_cut g.D.Disk origin c.args.concentrator.now.house.budget state before c.args.moment.seconds (polls c.args.line c.args.meter.now) (link_of g.B.Bus.lost c.args.gateway.now) _ c.args.concentrator.now c.put_no_gateway-in-None.result
    (inr ((λ linked. has_none g.B.Bus.lost c.args.gateway.now c.in-None.is linked.1), refl, refl))
    (carries_none g.B.Bus.lost g.B.Bus.asks c.args.gateway.now)
    (went_none g.D.Disk origin c.args.concentrator.now.house.budget state before c.args.concentrator.now chain at (λ h image left. g.met.D.Disk.only_now c.args.concentrator.now.store.disk image left))
