use Rattle.std.proofs.Common.{refl}
use Rattle.dc_core.specs.Event.{asks, asked}
use Rattle.dc_core.proofs.SingleTurns.{rested}
use Rattle.dc_poller.proofs.quiet.quiet_ask.Goals as goal

pub returns : goal.returns
returns g c = record {
  went = λ origin state before chain at.
      rested g.D.Disk origin c.args.concentrator.now.house.budget state before (asks c.args.line) (asked c.ask.result) _ c.args.concentrator.now c.args.concentrator.now chain at
      (λ h image left. g.met.D.Disk.only_now c.args.concentrator.now.store.disk image left) (c.ask.ensures.may origin _ at) at tt refl refl;
}
