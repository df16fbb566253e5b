use Rattle.std.proofs.Common.{[], ◌∷◌, refl, sym, ◌∙◌}
use Rattle.mbdc_poll.specs.Happening.{tells}
use Rattle.mbdc_poll.specs.declared.event.Event.TheVariants.{Lost as is_lost}
use Rattle.mbdc_poll.proofs.Running.{runs_none, runs_still}
use Rattle.mbdc_poll.proofs.Taking.{on_ok, told_none, told_loss, moves_none, moves_loss}
use Rattle.mbdc_poll.proofs.telling.tell_loss.Goals as goal

pub returns-then-station-clause-went : goal.returns-then-station-clause-went
returns-then-station-clause-went g c outcome =
    runs_none g.D.Disk _ c.args.concentrator.now (λ image left. g.met.D.Disk.only_now c.args.concentrator.now.store.disk image left)
    (λ core. record { moves = λ tries. moves_none g.B.HalfBus tries c.args.line c.args.station.now; told = told_none g.N.Teller.takes c.args.teller.now outcome core })

pub returns-then-not-is_lost-clause-went : goal.returns-then-not-is_lost-clause-went
returns-then-not-is_lost-clause-went g c outcome =
    runs_none g.D.Disk _ c.args.concentrator.now (λ image left. g.met.D.Disk.only_now c.args.concentrator.now.store.disk image left)
    (λ core. record { moves = λ tries. moves_none g.B.HalfBus tries c.args.line c.args.station.now; told = told_none g.N.Teller.takes c.args.teller.now outcome core })

pub returns-clause-went : goal.returns-clause-went
returns-clause-went g c outcome =
    runs_still g.D.Disk _ c.args.concentrator.now (λ image left. g.met.D.Disk.only_now c.args.concentrator.now.store.disk image left)
    (tells c.args.line (is_lost c.args.line) ∷ []) refl
    (λ known core at. on_ok c.tell.result _ _ (λ took. record {
      moves = λ tries. moves_loss g.B.HalfBus tries c.args.line c.args.station.now _ c.if-station.false (sym c.is_lost.ensures.lost ∙ c.if-not-is_lost.false) refl;
      told = told_loss g.N.Teller.takes c.args.teller.now c.tell.new.self c.args.line outcome core took;
    }) c.tell.ensures.taken)
