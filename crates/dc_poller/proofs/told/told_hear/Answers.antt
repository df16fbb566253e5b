use Rattle.std.proofs.Common.{refl}
use Rattle.std.proofs.lemmas.Result.{err_from_is_err_and}
use Rattle.dc_core.specs.Event.{hears, heard}
use Rattle.dc_core.proofs.SingleTurns.{rested}
use Rattle.dc_poller.proofs.told.told_hear.Goals as goal

pub hear-answer-requires : goal.hear-answer-requires
hear-answer-requires g c = c.args.moment.fits

pub returns-in_err-put_heard-clause-went : goal.returns-in_err-put_heard-clause-went
returns-in_err-put_heard-clause-went g c origin state before chain at =
    let p = err_from_is_err_and c.from_residual.result c.from_residual.ensures.1 in
    rw p.1 (rested g.D.Disk origin c.args.concentrator.now.house.budget state before (hears c.args.line c.args.moment.seconds c.args.bytes.now) (heard c.hear-answer.result) _ c.args.concentrator.now c.hear-answer.new.self chain at
    (λ h image left. g.met.D.Disk.only_now c.args.concentrator.now.store.disk image left) (c.hear-answer.ensures.may origin _ at) (c.hear-answer.ensures.at origin _ at) tt c.hear-answer.ensures.store tt)

pub returns-clause-went : goal.returns-clause-went
returns-clause-went g c origin state before chain at =
    rested g.D.Disk origin c.args.concentrator.now.house.budget state before (hears c.args.line c.args.moment.seconds c.args.bytes.now) (heard c.hear-answer.result) _ c.args.concentrator.now c.hear-answer.new.self chain at
    (λ h image left. g.met.D.Disk.only_now c.args.concentrator.now.store.disk image left) (c.hear-answer.ensures.may origin _ at) (c.hear-answer.ensures.at origin _ at) tt c.hear-answer.ensures.store (refl, c.in_ok-put_heard.ensures.0)
