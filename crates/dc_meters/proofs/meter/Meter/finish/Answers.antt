use Rattle.std.proofs.Common.{◌≡◌, Bool, false, [], ◌∷◌, ◌++◌, cond, subst, sym, arith}
use Rattle.std.specs.Prelude.{◌==◌}
use Rattle.std.proofs.lemmas.Bool.Decides.{nat_tests}
use Rattle.mbdc_change.specs.State.{MeterRow}
use Rattle.mbdc_change.specs.Valid.{IsReading}
use Rattle.dc_meters.proofs.meter.Meter.finish.Goals as goal

pub returns-in-Ok-clause-is_reading : goal.returns-in-Ok-clause-is_reading
returns-in-Ok-clause-is_reading g c =
    let old = c.args.self.now in
    let other : (c.args.number == 1) ≡ false = grind (arith, nat_tests) in
    let pushed : IsReading (record { serial = c.args.ended.serial; meter = c.args.ended.meter; flat = old.flat; parts = old.parts ++ c.args.part ∷ [] }) =
    subst (λ (row : MeterRow). IsReading (record { serial = c.args.ended.serial; meter = c.args.ended.meter; flat = row.flat; parts = row.parts })) c.in_ok-push-2.ensures.ok c.in-Ok.ensures.is_reading in
    subst (λ (b : Bool). IsReading (record { serial = c.args.ended.serial; meter = c.args.ended.meter; flat = old.flat; parts = cond b (c.args.part ∷ []) (old.parts ++ c.args.part ∷ []) })) (sym other) pushed
