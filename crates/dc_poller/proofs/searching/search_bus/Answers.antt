use Rattle.std.proofs.Common.{◌++◌, ◌∙◌, ap, subst}
use Rattle.mbdc_io.specs.Stream.{Puts}
use Rattle.mbdc_io.proofs.Pieces.{puts-both}
use Rattle.mbdc_bus.specs.Bus.{AreExchanged}
use Rattle.dc_poller.specs.Link.{link_by, loss_text}
use Rattle.dc_search.specs.Found.{search_text}
use Rattle.dc_poller.proofs.LineRuns.{on_ok}
use Rattle.dc_poller.proofs.Searches.{asked_anyway, left_by, lost_by, told_talked}
use Rattle.dc_poller.proofs.searching.search_bus.Goals as goal

pub returns-in-Ok-searched-clause-talked : goal.returns-in-Ok-searched-clause-talked
returns-in-Ok-searched-clause-talked g c =
    let old = c.args.bus.now in
    let new = c.search_over-searched.new.bus in
    let was = g.B.Bus.lost old in
    let is = g.B.Bus.lost new in
    let found = c.in-Ok-searched.ensures in
    let w = g.W.Sink.written in
    let w0 = w c.args.out.now in
    let w1 = w c.put_loss.new.out in
    let w2 = w c.put_search.new.out in
    told_talked (g.B.Bus.meters old) c.args.budget (λ exchanges. AreExchanged g.B.Bus.asks old exchanges new) (Puts w0 w2)
    (link_by was) (link_by is) c.put_search.result c.written.result found.asked.exchanges c.in-Ok-searched.search c.written.ensures
    (record { ended = found.ended; within = found.within; asked = found.asked.asked; walk = found.walk; nobody = λ lost. found.nobody (lost_by was lost) })
    (left_by was is (λ lost. ap g.B.Bus.lost (c.search_over-searched.ensures.untouched lost) ∙ lost))
    found.asked.asked found.asked.happened
    (on_ok c.put_search.result _ _ (λ p. subst (Puts w0 w2)
    (cc (c.is_lost-was_lost.ensures, c.is_lost.ensures))
    (puts-both w0 w1 w2 (loss_text (link_by c.is_lost-was_lost.result) (link_by c.is_lost.result))
    (search_text c.in-Ok-searched.search) c.in-Ok.ensures.0 p)) c.put_search.ensures.0)

pub returns-in-Err-searched-clause-talked : goal.returns-in-Err-searched-clause-talked
returns-in-Err-searched-clause-talked g c =
    let was = g.B.Bus.lost c.args.bus.now in
    let is = g.B.Bus.lost c.search_over-searched.new.bus in
    let w = g.W.Sink.written in
    let stopped = c.in-Err-searched.ensures.stopped in (
      stopped.1.exchanges,
      (stopped.0, stopped.1.asked),
      left_by was is (λ lost. ap g.B.Bus.lost (c.search_over-searched.ensures.untouched lost) ∙ lost),
      stopped.1.happened,
      subst (Puts (w c.args.out.now) (w c.put_loss.new.out)) (cc (c.is_lost-was_lost.ensures, c.is_lost.ensures)) c.in-Ok.ensures.0,
    )

pub returns-in-Err-clause-talked : goal.returns-in-Err-clause-talked
returns-in-Err-clause-talked g c =
    asked_anyway g.B.Bus.asks c.args.budget c.args.bus.now c.search_over-searched.new.bus c.search_over-searched.result c.search_over-searched.ensures.asked c.search_over-searched.ensures.stopped
