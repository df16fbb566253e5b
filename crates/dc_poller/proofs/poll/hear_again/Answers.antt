use Rattle.std.proofs.Common.{ℕ, refl, ap, subst, ◌∙◌, Result, Ok, Err}
use Rattle.std.proofs.lemmas.Result.{err_from_is_err_and}
use Rattle.mbdc_io.specs.Stream.{Puts}
use Rattle.mbdc_io.proofs.Pieces.{puts-both}
use Rattle.dc_core.specs.Event.{commits, committed}
use Rattle.dc_core.specs.declared.fault.CommitFault.{CommitFault}
use Rattle.dc_poller.specs.Poll.{does, to_make_room, told_text}
use Rattle.dc_poller.proofs.LineRuns.{on_ok}
use Rattle.dc_poller.proofs.Ways.{then_spends, way_turn, turn_then, turn_last, fails_in_one, if_fails_later}
use Rattle.dc_poller.proofs.poll.hear_again.Goals as goal

pub returns-in-Ok-clause-went : goal.returns-in-Ok-clause-went
returns-in-Ok-clause-went g c meter link origin state before chain at =
    let w = g.W.Sink.written in
    let w0 = w c.args.out.now in
    let w1 = w c.told_commit.new.out in
    let w2 = w c.hear_once_more.new.out in
    let one = c.in_ok-committed.ensures.went origin state before chain at in
    let told = subst (λ (a : Result ℕ CommitFault). Puts w0 w1 (told_text (committed a))) c.in-Ok.is one.is_such.1 in
    turn_then g.D.Disk origin c.args.concentrator.now.house.budget state before c.args.line c.args.moment.seconds meter (to_make_room c.args.bytes.now) link (commits) _ (committed (Ok c.in-Ok.field-0)) _ _ _ _ c.args.concentrator.now c.told_commit.new.concentrator c.hear_once_more.new.concentrator
    refl one (λ answer s. s.0 ∙ ap committed c.in-Ok.is) c.told_commit.ensures.budget (λ behind ch a. c.hear_once_more.ensures.went meter link origin state behind ch a)
    (λ more last e. (
      e.0,
      if_fails_later g.W.Sink c.hear_once_more.result c.args.out.now c.told_commit.new.out c.hear_once_more.new.out (commits, committed (Ok c.in-Ok.field-0)) more told c.in_ok-committed.ensures.counted.0 e.1,
      e.2,
    ))
    (λ more m. on_ok c.hear_once_more.result _ _ (λ p. puts-both w0 w1 w2 (told_text (committed (Ok c.in-Ok.field-0))) more told p) m)

pub returns-in-Err-clause-went : goal.returns-in-Err-clause-went
returns-in-Err-clause-went g c meter link origin state before chain at =
    let w0 = g.W.Sink.written c.args.out.now in
    let w1 = g.W.Sink.written c.told_commit.new.out in
    let one = c.in_ok-committed.ensures.went origin state before chain at in
    turn_last g.D.Disk origin c.args.concentrator.now.house.budget state before c.args.line c.args.moment.seconds meter (to_make_room c.args.bytes.now) link (commits) _ (committed (Err c.in-Err.field-0)) _ _ c.args.concentrator.now c.told_commit.new.concentrator
    refl one (λ answer s. s.0 ∙ ap committed c.in-Err.is) (refl, tt, refl) (subst (λ (a : Result ℕ CommitFault). Puts w0 w1 (told_text (committed a))) c.in-Err.is one.is_such.1)

pub returns-in_err-committed-clause-went : goal.returns-in_err-committed-clause-went
returns-in_err-committed-clause-went g c meter link origin state before chain at =
    let p = err_from_is_err_and c.from_residual.result c.from_residual.ensures.1 in
    rw p.1 (way_turn g.D.Disk origin c.args.concentrator.now.house.budget state before c.args.line c.args.moment.seconds meter (to_make_room c.args.bytes.now) link (commits) _ _ _ c.args.concentrator.now c.told_commit.new.concentrator
    refl (c.told_commit.ensures.went origin state before chain at) (λ answer is. (tt, fails_in_one g.W.Sink c.args.out.now c.told_commit.new.out (does (commits, answer)) c.in_err-committed.ensures.counted.1, refl)) (λ answer is. tt))

pub returns-in-Ok-clause-fewer : goal.returns-in-Ok-clause-fewer
returns-in-Ok-clause-fewer g c =
    then_spends c.hear_once_more.result c.args.line c.args.concentrator.now.lines c.told_commit.new.concentrator.lines c.hear_once_more.new.concentrator.lines c.told_commit.ensures.no_more c.hear_once_more.ensures.fewer
