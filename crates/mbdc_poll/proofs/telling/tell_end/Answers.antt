use Rattle.std.proofs.Common.{[], ◌∷◌, refl, ap, subst, ◌∙◌}
use Rattle.mbdc_poll.specs.Happening.{tells}
use Rattle.mbdc_poll.specs.Round.{told_of}
use Rattle.mbdc_poll.specs.declared.event.Event.{Event as Told}
use Rattle.mbdc_poll.proofs.Running.{runs_none, runs_still}
use Rattle.mbdc_poll.proofs.Taking.{on_ok, on_any, told_none, told_end, moves_none, moves_end, sound_told, fewer_told, fewer_silent}
use Rattle.mbdc_poll.proofs.telling.tell_end.Goals as goal

pub returns-in_default-clause-went : goal.returns-in_default-clause-went
returns-in_default-clause-went g c =
    runs_none g.D.Disk _ c.args.concentrator.now (λ image left. g.met.D.Disk.only_now c.args.concentrator.now.store.disk image left)
    (λ core. record { moves = λ tries. moves_none g.B.HalfBus tries c.args.line c.args.station.now; told = told_none g.N.Teller.takes c.args.teller.now c.args.outcome.now core })

pub returns-clause-went : goal.returns-clause-went
returns-clause-went g c =
    let state = c.house.result.now.state in
    runs_still g.D.Disk _ c.args.concentrator.now (λ image left. g.met.D.Disk.only_now c.args.concentrator.now.store.disk image left)
    (tells c.args.line (told_of state c.args.line c.args.station.now.brought c.in-Over.end) ∷ []) refl
    (λ known core at. on_ok c.tell.result _ _ (λ took. record {
      moves = λ tries. moves_end g.B.HalfBus tries c.args.line state c.in-Over.end c.args.station.now _ c.in-Over.is refl;
      told = told_end g.N.Teller.takes c.args.teller.now c.tell.new.self c.args.line c.args.station.now.brought c.in-Over.end c.args.outcome.now c.count.new.outcome core state (ap (λ h. h.state) c.house.ensures ∙ at.house_is)
          (subst (λ (e : Told). g.N.Teller.takes c.args.teller.now e c.tell.new.self) c.told_of-told.ensures took) c.count.ensures;
    }) c.tell.ensures.taken)

pub returns-in_default-clause-fewer : goal.returns-in_default-clause-fewer
returns-in_default-clause-fewer g c tries = fewer_silent g.B.HalfBus tries c.args.station.now c.in_default.not-Over

pub returns-clause-fewer : goal.returns-clause-fewer
returns-clause-fewer g c = on_any c.tell.result _ (λ tries. fewer_told g.B.HalfBus tries c.in-Over.end c.args.station.now _ c.in-Over.is refl)

pub returns-clause-sound : goal.returns-clause-sound
returns-clause-sound g c tries sound = sound_told g.B.HalfBus tries c.in-Over.end c.args.station.now _ c.in-Over.is refl sound
