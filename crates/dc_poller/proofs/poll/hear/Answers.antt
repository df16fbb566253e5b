use Rattle.std.proofs.Common.{◌<◌, refl, ap, subst, ◌∙◌, Result, Ok, Err}
use Rattle.std.specs.Prelude.{OnOk}
use Rattle.std.proofs.lemmas.Result.{err_from_is_err_and}
use Rattle.mbdc_io.specs.Stream.{Puts}
use Rattle.mbdc_io.proofs.Pieces.{puts-both}
use Rattle.dc_core.specs.Event.{hears, heard}
use Rattle.dc_core.specs.declared.fault.HearFault.{HearFault}
use Rattle.dc_core.specs.declared.fault.HearFault.TheVariants.{PendingFull}
use Rattle.dc_core.specs.declared.line_heard.LineHeard.{LineHeard}
use Rattle.dc_core.specs.Lines.{requests_on}
use Rattle.dc_poller.specs.Poll.{does, Due, to_hear, told_text}
use Rattle.dc_poller.proofs.LineRuns.{on_ok}
use Rattle.dc_poller.proofs.Ways.{then_spends, way_turn, turn_then, turn_last, is_full, behind_other, fails_in_one, if_fails_later}
use Rattle.dc_poller.proofs.poll.hear.Goals as goal

pub returns-in-Ok-clause-went : goal.returns-in-Ok-clause-went
returns-in-Ok-clause-went g c meter link origin state before chain at =
    let w = g.W.Sink.written in
    let w0 = w c.args.out.now in
    let w1 = w c.told_hear.new.out in
    let w2 = w c.after_heard.new.out in
    let one = c.in_ok-answer.ensures.went origin state before chain at in
    let told = subst (λ (a : Result LineHeard HearFault). Puts w0 w1 (told_text (heard a))) c.in-Ok.is one.is_such.1 in
    turn_then g.D.Disk origin c.args.concentrator.now.house.budget state before c.args.line c.args.moment.seconds meter (to_hear c.args.bytes.now) link (hears c.args.line c.args.moment.seconds c.args.bytes.now) _ (heard (Ok c.in-Ok.heard)) _ _ _ _ c.args.concentrator.now c.told_hear.new.concentrator c.after_heard.new.concentrator
    refl one (λ answer s. s.0 ∙ ap heard c.in-Ok.is) c.told_hear.ensures.budget (λ behind ch a. c.after_heard.ensures.went c.args.line c.args.moment.seconds meter link origin state behind ch a)
    (λ more last e. (
      e.0,
      if_fails_later g.W.Sink c.after_heard.result c.args.out.now c.told_hear.new.out c.after_heard.new.out (hears c.args.line c.args.moment.seconds c.args.bytes.now, heard (Ok c.in-Ok.heard)) more told c.in_ok-answer.ensures.counted.0 e.1,
      e.2,
    ))
    (λ more m. on_ok c.after_heard.result _ _ (λ p. puts-both w0 w1 w2 (told_text (heard (Ok c.in-Ok.heard))) more told p) m)

pub returns-in-PendingFull-clause-went : goal.returns-in-PendingFull-clause-went
returns-in-PendingFull-clause-went g c meter link origin state before chain at =
    let w = g.W.Sink.written in
    let w0 = w c.args.out.now in
    let w1 = w c.told_hear.new.out in
    let w2 = w c.hear_again.new.out in
    let full = is_full c.in_ok-answer.answer c.in-Err.fault c.in-Err.is c.in-PendingFull.is in
    let one = c.in_ok-answer.ensures.went origin state before chain at in
    let told = subst (λ (a : Result LineHeard HearFault). Puts w0 w1 (told_text (heard a))) full one.is_such.1 in
    turn_then g.D.Disk origin c.args.concentrator.now.house.budget state before c.args.line c.args.moment.seconds meter (to_hear c.args.bytes.now) link (hears c.args.line c.args.moment.seconds c.args.bytes.now) _ (heard (Err PendingFull)) _ _ _ _ c.args.concentrator.now c.told_hear.new.concentrator c.hear_again.new.concentrator
    refl one (λ answer s. s.0 ∙ ap heard full) c.told_hear.ensures.budget (λ behind ch a. c.hear_again.ensures.went meter link origin state behind ch a)
    (λ more last e. (
      e.0,
      if_fails_later g.W.Sink c.hear_again.result c.args.out.now c.told_hear.new.out c.hear_again.new.out (hears c.args.line c.args.moment.seconds c.args.bytes.now, heard (Err PendingFull)) more told c.in_ok-answer.ensures.counted.0 e.1,
      e.2,
    ))
    (λ more m. on_ok c.hear_again.result _ _ (λ p. puts-both w0 w1 w2 (told_text (heard (Err PendingFull))) more told p) m)

pub returns-in_default : goal.returns-in_default
returns-in_default g c =
    record {
      went = λ meter link origin state before chain at.
          let w0 = g.W.Sink.written c.args.out.now in
          let w1 = g.W.Sink.written c.told_hear.new.out in
          let one = c.in_ok-answer.ensures.went origin state before chain at in
          turn_last g.D.Disk origin c.args.concentrator.now.house.budget state before c.args.line c.args.moment.seconds meter (to_hear c.args.bytes.now) link (hears c.args.line c.args.moment.seconds c.args.bytes.now) _ (heard (Err c.in-Err.fault)) _ _ c.args.concentrator.now c.told_hear.new.concentrator
          refl one (λ answer s. s.0 ∙ ap heard c.in-Err.is) (ap (λ (d : Due). record { due = d; link = link }) (behind_other c.args.bytes.now c.in-Err.fault c.in_default.not-PendingFull), tt, refl) (subst (λ (a : Result LineHeard HearFault). Puts w0 w1 (told_text (heard a))) c.in-Err.is one.is_such.1);
      counted = (c.in_ok-answer.ensures.counted.0, tt);
      fewer = λ on. absurd cc;
      budget = c.told_hear.ensures.budget;
    }

pub returns-in_err-answer-clause-went : goal.returns-in_err-answer-clause-went
returns-in_err-answer-clause-went g c meter link origin state before chain at =
    let p = err_from_is_err_and c.from_residual.result c.from_residual.ensures.1 in
    rw p.1 (way_turn g.D.Disk origin c.args.concentrator.now.house.budget state before c.args.line c.args.moment.seconds meter (to_hear c.args.bytes.now) link (hears c.args.line c.args.moment.seconds c.args.bytes.now) _ _ _ c.args.concentrator.now c.told_hear.new.concentrator
    refl (c.told_hear.ensures.went origin state before chain at) (λ answer is. (tt, fails_in_one g.W.Sink c.args.out.now c.told_hear.new.out (does (hears c.args.line c.args.moment.seconds c.args.bytes.now, answer)) c.in_err-answer.ensures.counted.1, refl)) (λ answer is. tt))

pub returns-in-Ok-clause-fewer : goal.returns-in-Ok-clause-fewer
returns-in-Ok-clause-fewer g c =
    c.after_heard.ensures.fewer c.args.line c.args.concentrator.now.lines
    (subst (λ (a : Result LineHeard HearFault). OnOk a (requests_on c.args.line c.told_hear.new.concentrator.lines < requests_on c.args.line c.args.concentrator.now.lines)) c.in-Ok.is c.in_ok-answer.ensures.fewer)

pub returns-in-PendingFull-clause-fewer : goal.returns-in-PendingFull-clause-fewer
returns-in-PendingFull-clause-fewer g c =
    then_spends c.hear_again.result c.args.line c.args.concentrator.now.lines c.told_hear.new.concentrator.lines c.hear_again.new.concentrator.lines c.told_hear.ensures.no_more c.hear_again.ensures.fewer
