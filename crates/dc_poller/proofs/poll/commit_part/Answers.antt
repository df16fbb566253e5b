use Rattle.std.proofs.Common.{◌≡◌, ◌∙◌, ℕ, refl, ap, sym, subst, Result, Ok, Err}
use Rattle.std.specs.Prelude.{is_ok}
use Rattle.std.proofs.lemmas.Result.{err_from_is_err_and}
use Rattle.mbdc_io.specs.Stream.{Puts}
use Rattle.dc_core.specs.Event.{Answer, commits, committed}
use Rattle.dc_core.specs.declared.fault.CommitFault.{CommitFault}
use Rattle.dc_poller.specs.Poll.{does, Due, to_commit, behind_turn, told_text}
use Rattle.dc_poller.specs.Way.{goes_on}
use Rattle.dc_poller.proofs.Ways.{way_turn, fails_in_one}
use Rattle.dc_poller.proofs.poll.commit_part.Goals as goal

due_of : (told : Result ℕ CommitFault) → behind_turn to_commit commits (committed told) ≡ goes_on (is_ok told)
due_of (Ok count) = refl
due_of (Err fault) = refl

pub returns-clause-went : goal.returns-clause-went
returns-clause-went g c line moment meter link origin state before chain at =
    way_turn g.D.Disk origin c.args.concentrator.now.house.budget state before line moment meter to_commit link commits _ _ _ c.args.concentrator.now c.told_commit.new.concentrator
    refl (c.in_ok-answer.ensures.went origin state before chain at)
    (λ answer is. (
      ap (λ (d : Due). record { due = d; link = link }) (ap (behind_turn to_commit commits) is.0 ∙ due_of c.in_ok-answer.answer ∙ ap goes_on (sym c.is_ok.ensures.value)),
      tt,
      refl,
    ))
    (λ answer is. subst (λ (a : Answer). Puts (g.W.Sink.written c.args.out.now) (g.W.Sink.written c.told_commit.new.out) (told_text a)) (sym is.0) is.1)

pub returns-in_err-answer-clause-went : goal.returns-in_err-answer-clause-went
returns-in_err-answer-clause-went g c line moment meter link origin state before chain at =
    let p = err_from_is_err_and c.from_residual.result c.from_residual.ensures.1 in
    rw p.1 (way_turn g.D.Disk origin c.args.concentrator.now.house.budget state before line moment meter to_commit link commits _ _ _ c.args.concentrator.now c.told_commit.new.concentrator
    refl (c.told_commit.ensures.went origin state before chain at) (λ answer is. (tt, fails_in_one g.W.Sink c.args.out.now c.told_commit.new.out (does (commits, answer)) c.in_err-answer.ensures.counted.1, refl)) (λ answer is. tt))
