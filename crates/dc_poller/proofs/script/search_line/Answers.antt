use Rattle.std.proofs.Common.{ap, inr, refl}
use Rattle.mbdc_io.specs.Stream.{Puts}
use Rattle.dc_poller.specs.Link.{link_by, link_of}
use Rattle.dc_poller.specs.Script.{no_gateway}
use Rattle.dc_poller.specs.ScriptLine.{search as searches}
use Rattle.dc_poller.proofs.Halts.{halted_never, halted_ok, halted_write, no_memory_so}
use Rattle.dc_poller.proofs.LineRuns.{said_ran, said_cut}
use Rattle.dc_poller.proofs.Searches.{searched_ran, searched_cut, searched_starved}
use Rattle.dc_poller.proofs.Traffics.{carries_none, carries_some, has_none, has_one}
use Rattle.dc_core.proofs.Wents.{went_none}
use Rattle.dc_poller.proofs.script.search_line.Goals as goal

pub returns-in-Some-clause-ran : goal.returns-in-Some-clause-ran
returns-in-Some-clause-ran g c moment origin state before chain at =
    let lost = g.B.Bus.lost in
    let old = c.args.gateway.now in
    let bus = c.in-Some.bus in
    searched_ran g.D.Disk origin c.args.concentrator.now.house.budget state before moment c.args.budget (g.B.Bus.meters bus) (link_of lost old) _ (link_by (lost c.search.new.bus)) _ _
    (Puts (g.W.Sink.written c.args.out.now) (g.W.Sink.written c.search.new.out)) c.args.concentrator.now c.search.new.concentrator c.search.result (ap (link_of lost) c.in-Some.is) (has_one lost old bus c.in-Some.is)
    (λ exchanges so. carries_some lost g.B.Bus.asks exchanges old bus c.search.new.bus c.in-Some.is so c.search.ensures.untouched)
    (c.search.ensures.went origin state before chain at)

pub returns-in-Some-clause-cut : goal.returns-in-Some-clause-cut
returns-in-Some-clause-cut g c moment origin state before chain at =
    let lost = g.B.Bus.lost in
    let old = c.args.gateway.now in
    let bus = c.in-Some.bus in
    searched_cut g.D.Disk origin c.args.concentrator.now.house.budget state before moment c.args.budget (g.B.Bus.meters bus) (link_of lost old) _ (link_by (lost c.search.new.bus)) _ _
    (Puts (g.W.Sink.written c.args.out.now) (g.W.Sink.written c.search.new.out)) c.args.concentrator.now c.search.new.concentrator c.search.result (ap (link_of lost) c.in-Some.is) (has_one lost old bus c.in-Some.is)
    (λ exchanges so. carries_some lost g.B.Bus.asks exchanges old bus c.search.new.bus c.in-Some.is so c.search.ensures.untouched)
    (c.search.ensures.went origin state before chain at)

pub returns-in-Some-clause-starved : goal.returns-in-Some-clause-starved
returns-in-Some-clause-starved g c origin state before chain at =
    let lost = g.B.Bus.lost in
    let old = c.args.gateway.now in
    let bus = c.in-Some.bus in
    searched_starved g.D.Disk origin c.args.concentrator.now.house.budget state before c.args.budget (g.B.Bus.meters bus) (link_of lost old) _ (link_by (lost c.search.new.bus)) _ _
    (Puts (g.W.Sink.written c.args.out.now) (g.W.Sink.written c.search.new.out)) c.args.concentrator.now c.search.new.concentrator c.search.result (ap (link_of lost) c.in-Some.is) (has_one lost old bus c.in-Some.is)
    (λ exchanges so. carries_some lost g.B.Bus.asks exchanges old bus c.search.new.bus c.in-Some.is so c.search.ensures.untouched)
    (c.search.ensures.went origin state before chain at)

pub returns-in-Some-clause-through : goal.returns-in-Some-clause-through
returns-in-Some-clause-through g c = no_memory_so c.search.result _ (has_one g.B.Bus.lost c.args.gateway.now c.in-Some.bus c.in-Some.is)

pub returns-in-Some-clause-had : goal.returns-in-Some-clause-had
returns-in-Some-clause-had g c has_bus = has_one g.B.Bus.lost c.args.gateway.now c.in-Some.bus c.in-Some.is

pub returns-in-None-clause-ran : goal.returns-in-None-clause-ran
returns-in-None-clause-ran g c moment origin state before chain at =
    let link = link_of g.B.Bus.lost c.args.gateway.now in
    halted_ok c.put_no_gateway.result c.written.result _ c.written.ensures
    (said_ran g.D.Disk origin c.args.concentrator.now.house.budget state before moment (searches c.args.budget) link link no_gateway (Puts (g.W.Sink.written c.args.out.now) (g.W.Sink.written c.put_no_gateway.new.out)) _ c.args.concentrator.now c.put_no_gateway.result
    (inr (record { no_bus = λ linked. has_none g.B.Bus.lost c.args.gateway.now c.in-None.is linked.1; says = record { no_turns = refl; text_is = refl }; unasked = refl; left_is = refl }))
    (carries_none g.B.Bus.lost g.B.Bus.asks c.args.gateway.now)
    (went_none g.D.Disk origin c.args.concentrator.now.house.budget state before c.args.concentrator.now chain at (λ h image left. g.met.D.Disk.only_now c.args.concentrator.now.store.disk image left)) c.put_no_gateway.ensures.0)

pub returns-in-None-clause-cut : goal.returns-in-None-clause-cut
returns-in-None-clause-cut g c moment origin state before chain at =
    halted_write c.put_no_gateway.result c.written.result _ c.written.ensures
    (said_cut g.D.Disk origin c.args.concentrator.now.house.budget state before moment (searches c.args.budget) (link_of g.B.Bus.lost c.args.gateway.now) _ c.args.concentrator.now c.put_no_gateway.result
    (inr (has_none g.B.Bus.lost c.args.gateway.now c.in-None.is, refl, refl))
    (carries_none g.B.Bus.lost g.B.Bus.asks c.args.gateway.now)
    (went_none g.D.Disk origin c.args.concentrator.now.house.budget state before c.args.concentrator.now chain at (λ h image left. g.met.D.Disk.only_now c.args.concentrator.now.store.disk image left)))

pub returns-in-None-clause-starved : goal.returns-in-None-clause-starved
returns-in-None-clause-starved g c origin state before chain at = halted_never c.put_no_gateway.result c.written.result _ c.written.ensures

pub returns-in-None-clause-through : goal.returns-in-None-clause-through
returns-in-None-clause-through g c = halted_never c.put_no_gateway.result c.written.result _ c.written.ensures
