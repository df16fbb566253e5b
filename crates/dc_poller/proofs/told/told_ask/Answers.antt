use Rattle.std.proofs.Common.{refl, ap}
use Rattle.std.proofs.lemmas.Result.{err_from_is_err_and}
use Rattle.mbdc_io.proofs.Pieces.{puts-none}
use Rattle.dc_core.specs.Event.{asks, asked}
use Rattle.dc_core.proofs.SingleTurns.{rested}
use Rattle.dc_poller.proofs.told.told_ask.Goals as goal

pub returns-in-None-clause-went : goal.returns-in-None-clause-went
returns-in-None-clause-went g c origin state before chain at =
    rested g.D.Disk origin c.args.concentrator.now.house.budget state before (asks c.args.line) (asked c.ask.result) _ c.args.concentrator.now c.args.concentrator.now chain at
    (λ h image left. g.met.D.Disk.only_now c.args.concentrator.now.store.disk image left) (c.ask.ensures.may origin _ at) at tt refl (ap asked c.in-None.is, puts-none (g.W.Sink.written c.args.out.now))

pub returns-in_ok-put_asked-in-Some-clause-went : goal.returns-in_ok-put_asked-in-Some-clause-went
returns-in_ok-put_asked-in-Some-clause-went g c origin state before chain at =
    rested g.D.Disk origin c.args.concentrator.now.house.budget state before (asks c.args.line) (asked c.ask.result) _ c.args.concentrator.now c.args.concentrator.now chain at
    (λ h image left. g.met.D.Disk.only_now c.args.concentrator.now.store.disk image left) (c.ask.ensures.may origin _ at) at tt refl (ap asked c.in-Some.is, c.in_ok-put_asked-in-Some.ensures.0)

pub returns-in_err-put_asked-in-Some-clause-went : goal.returns-in_err-put_asked-in-Some-clause-went
returns-in_err-put_asked-in-Some-clause-went g c origin state before chain at =
    let p = err_from_is_err_and c.from_residual.result c.from_residual.ensures.1 in
    rw p.1 (rested g.D.Disk origin c.args.concentrator.now.house.budget state before (asks c.args.line) (asked c.ask.result) _ c.args.concentrator.now c.args.concentrator.now chain at
    (λ h image left. g.met.D.Disk.only_now c.args.concentrator.now.store.disk image left) (c.ask.ensures.may origin _ at) at tt refl tt)
