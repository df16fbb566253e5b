use Rattle.std.proofs.Common.{refl}
use Rattle.std.proofs.lemmas.Result.{err_from_is_err_and}
use Rattle.mbdc_io.proofs.Pieces.{puts-both}
use Rattle.dc_core.specs.Event.{hears, heard}
use Rattle.dc_poller.specs.Poll.{does, to_hear_again, told_text}
use Rattle.dc_poller.proofs.LineRuns.{on_ok}
use Rattle.dc_poller.proofs.Ways.{way_turn, turn_then, fails_in_one, if_fails_later}
use Rattle.dc_poller.proofs.poll.hear_once_more.Goals as goal

pub returns-clause-went : goal.returns-clause-went
returns-clause-went g c meter link origin state before chain at =
    let w = g.W.Sink.written in
    let w0 = w c.args.out.now in
    let w1 = w c.told_hear.new.out in
    let w2 = w c.after_heard.new.out in
    let one = c.in_ok-answer.ensures.went origin state before chain at in
    turn_then g.D.Disk origin c.args.concentrator.now.house.budget state before c.args.line c.args.moment.seconds meter (to_hear_again c.args.bytes.now) link (hears c.args.line c.args.moment.seconds c.args.bytes.now) _ (heard c.in_ok-answer.answer) _ _ _ _ c.args.concentrator.now c.told_hear.new.concentrator c.after_heard.new.concentrator
    refl one (λ answer s. s.0) c.told_hear.ensures.budget (λ behind ch a. c.after_heard.ensures.went c.args.line c.args.moment.seconds meter link origin state behind ch a)
    (λ more last e. (
      e.0,
      if_fails_later g.W.Sink c.after_heard.result c.args.out.now c.told_hear.new.out c.after_heard.new.out (hears c.args.line c.args.moment.seconds c.args.bytes.now, heard c.in_ok-answer.answer) more one.is_such.1 c.in_ok-answer.ensures.counted.0 e.1,
      e.2,
    ))
    (λ more m. on_ok c.after_heard.result _ _ (λ p. puts-both w0 w1 w2 (told_text (heard c.in_ok-answer.answer)) more one.is_such.1 p) m)

pub returns-in_err-answer-clause-went : goal.returns-in_err-answer-clause-went
returns-in_err-answer-clause-went g c meter link origin state before chain at =
    let p = err_from_is_err_and c.from_residual.result c.from_residual.ensures.1 in
    rw p.1 (way_turn g.D.Disk origin c.args.concentrator.now.house.budget state before c.args.line c.args.moment.seconds meter (to_hear_again c.args.bytes.now) link (hears c.args.line c.args.moment.seconds c.args.bytes.now) _ _ _ c.args.concentrator.now c.told_hear.new.concentrator
    refl (c.told_hear.ensures.went origin state before chain at) (λ answer is. (tt, fails_in_one g.W.Sink c.args.out.now c.told_hear.new.out (does (hears c.args.line c.args.moment.seconds c.args.bytes.now, answer)) c.in_err-answer.ensures.counted.1, refl)) (λ answer is. tt))

pub returns-clause-fewer : goal.returns-clause-fewer
returns-clause-fewer g c = c.after_heard.ensures.fewer c.args.line c.args.concentrator.now.lines c.in_ok-answer.ensures.fewer
