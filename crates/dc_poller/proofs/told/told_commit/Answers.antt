use Rattle.std.proofs.Common.{refl}
use Rattle.std.proofs.lemmas.Result.{err_from_is_err_and}
use Rattle.dc_core.specs.Event.{committed}
use Rattle.dc_core.proofs.Answering.{commit_shown}
use Rattle.dc_core.proofs.SingleTurns.{committed_went}
use Rattle.dc_poller.proofs.told.told_commit.Goals as goal

pub returns-in_err-put_committed-clause-went : goal.returns-in_err-put_committed-clause-went
returns-in_err-put_committed-clause-went g c origin state before chain at =
    let p = err_from_is_err_and c.from_residual.result c.from_residual.ensures.1 in
    rw p.1 (committed_went g.D.Disk origin c.args.concentrator.now.house.budget state before (committed c.commit-answer.result) _ c.args.concentrator.now c.commit-answer.new.self chain at
    (λ h image left. g.met.D.Disk.only_now c.args.concentrator.now.store.disk image left) (c.commit-answer.ensures.may origin _ at) (c.commit-answer.ensures.at origin _ at)
    (commit_shown g.D.Disk c.args.concentrator.now c.commit-answer.new.self c.commit-answer.result c.commit-answer.ensures.counts.failed c.commit-answer.ensures.worn c.commit-answer.ensures.unchanged)
    c.commit-answer.ensures.counts.count (λ h. c.commit-answer.ensures.any_moment origin h _ at) tt)

pub returns-clause-went : goal.returns-clause-went
returns-clause-went g c origin state before chain at =
    committed_went g.D.Disk origin c.args.concentrator.now.house.budget state before (committed c.commit-answer.result) _ c.args.concentrator.now c.commit-answer.new.self chain at
    (λ h image left. g.met.D.Disk.only_now c.args.concentrator.now.store.disk image left) (c.commit-answer.ensures.may origin _ at) (c.commit-answer.ensures.at origin _ at)
    (commit_shown g.D.Disk c.args.concentrator.now c.commit-answer.new.self c.commit-answer.result c.commit-answer.ensures.counts.failed c.commit-answer.ensures.worn c.commit-answer.ensures.unchanged)
    c.commit-answer.ensures.counts.count (λ h. c.commit-answer.ensures.any_moment origin h _ at) (refl, c.in_ok-put_committed.ensures.0)
