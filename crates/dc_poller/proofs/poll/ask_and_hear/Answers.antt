use Rattle.std.proofs.Common.{ℕ, List, refl, ap, subst, ◌∙◌, Option, Some, None}
use Rattle.std.proofs.lemmas.Result.{err_from_is_err_and}
use Rattle.mbdc_io.specs.Stream.{Puts}
use Rattle.mbdc_io.proofs.Pieces.{puts-both}
use Rattle.dc_core.specs.Event.{asks, asked}
use Rattle.dc_poller.specs.Link.{link_by}
use Rattle.dc_poller.specs.Poll.{does, to_ask, told_text}
use Rattle.dc_poller.proofs.LineRuns.{on_ok}
use Rattle.dc_poller.proofs.Ways.{way_turn, turn_then, turn_last, fails_in_one, if_fails_later}
use Rattle.dc_poller.proofs.poll.ask_and_hear.Goals as goal

pub returns-in-Some-clause-went : goal.returns-in-Some-clause-went
returns-in-Some-clause-went g c meter origin state before chain at =
    let w = g.W.Sink.written in
    let w0 = w c.args.out.now in
    let w1 = w c.told_ask.new.out in
    let w2 = w c.exchange.new.out in
    let one = c.in_ok-asked.ensures.went origin state before chain at in
    let told = subst (λ (a : Option (List ℕ)). Puts w0 w1 (told_text (asked a))) c.in-Some.is one.is_such.1 in
    turn_then g.D.Disk origin c.args.concentrator.now.house.budget state before c.args.line c.args.moment.seconds meter to_ask (link_by (g.B.Bus.lost c.args.bus.now)) (asks c.args.line) _ (asked (Some c.in-Some.request)) _ _ _ _ c.args.concentrator.now c.args.concentrator.now c.exchange.new.concentrator
    refl one (λ answer s. s.0 ∙ ap asked c.in-Some.is) refl (λ behind ch a. c.exchange.ensures.went meter origin state behind ch a)
    (λ more last e. (
      e.0,
      if_fails_later g.W.Sink c.exchange.result c.args.out.now c.told_ask.new.out c.exchange.new.out (asks c.args.line, asked (Some c.in-Some.request)) more told c.in_ok-asked.ensures.counted.0 e.1,
      e.2,
    ))
    (λ more m. on_ok c.exchange.result _ _ (λ p. puts-both w0 w1 w2 (told_text (asked (Some c.in-Some.request))) more told p) m)

pub returns-in-None-clause-went : goal.returns-in-None-clause-went
returns-in-None-clause-went g c meter origin state before chain at =
    let w0 = g.W.Sink.written c.args.out.now in
    let w1 = g.W.Sink.written c.told_ask.new.out in
    let one = c.in_ok-asked.ensures.went origin state before chain at in
    turn_last g.D.Disk origin c.args.concentrator.now.house.budget state before c.args.line c.args.moment.seconds meter to_ask (link_by (g.B.Bus.lost c.args.bus.now)) (asks c.args.line) _ (asked None) _ _ c.args.concentrator.now c.args.concentrator.now
    refl one (λ answer s. s.0 ∙ ap asked c.in-None.is) (refl, tt, refl) (subst (λ (a : Option (List ℕ)). Puts w0 w1 (told_text (asked a))) c.in-None.is one.is_such.1)

pub returns-in_err-asked-clause-went : goal.returns-in_err-asked-clause-went
returns-in_err-asked-clause-went g c meter origin state before chain at =
    let p = err_from_is_err_and c.from_residual.result c.from_residual.ensures.1 in
    rw p.1 (way_turn g.D.Disk origin c.args.concentrator.now.house.budget state before c.args.line c.args.moment.seconds meter to_ask (link_by (g.B.Bus.lost c.args.bus.now)) (asks c.args.line) _ _ _ c.args.concentrator.now c.args.concentrator.now
    refl (c.told_ask.ensures.went origin state before chain at) (λ answer is. (tt, fails_in_one g.W.Sink c.args.out.now c.told_ask.new.out (does (asks c.args.line, answer)) c.in_err-asked.ensures.counted.1, refl)) (λ answer is. tt))
