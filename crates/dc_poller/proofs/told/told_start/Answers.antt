use Rattle.std.proofs.Common.{refl}
use Rattle.std.proofs.lemmas.Result.{err_from_is_err_and}
use Rattle.dc_core.specs.Event.{starts, started}
use Rattle.dc_core.proofs.SingleTurns.{rested}
use Rattle.dc_poller.proofs.told.told_start.Goals as goal

pub returns-in_err-put_started-clause-went : goal.returns-in_err-put_started-clause-went
returns-in_err-put_started-clause-went g c origin state before chain at =
    let p = err_from_is_err_and c.from_residual.result c.from_residual.ensures.1 in
    rw p.1 (rested g.D.Disk origin c.args.concentrator.now.house.budget state before (starts c.args.line c.args.meter.now) (started c.start-answer.result) _ c.args.concentrator.now c.start-answer.new.self chain at
    (λ h image left. g.met.D.Disk.only_now c.args.concentrator.now.store.disk image left) (c.start-answer.ensures.may origin _ at) (c.start-answer.ensures.at origin _ at) tt c.start-answer.ensures.store tt)

pub returns-clause-went : goal.returns-clause-went
returns-clause-went g c origin state before chain at =
    rested g.D.Disk origin c.args.concentrator.now.house.budget state before (starts c.args.line c.args.meter.now) (started c.start-answer.result) _ c.args.concentrator.now c.start-answer.new.self chain at
    (λ h image left. g.met.D.Disk.only_now c.args.concentrator.now.store.disk image left) (c.start-answer.ensures.may origin _ at) (c.start-answer.ensures.at origin _ at) tt c.start-answer.ensures.store (refl, c.in_ok-put_started.ensures.0)
