use Rattle.std.proofs.Common.{arith, ap, length}
use Rattle.mbdc_change.specs.State.{MeterRow}
use Rattle.dc_meters.proofs.PartLists.{IsMeter-pushed}
use Rattle.dc_meters.proofs.meter.Meter.push.Goals as goal

pub invariant_of-self-2 : goal.invariant_of-self-2
invariant_of-self-2 g c =
    let h = c.self.inside in
    let row : MeterRow = record { line = h.line; address = h.address; flat = h.flat; parts = h.parts.items } in
    rw c.in_ok-push.ensures.items (IsMeter-pushed row c.args.part c.self.invariant c.requires.part_is (omega (arith, c.requires.room, ap (λ (m : MeterRow). length m.parts) c.self.view_is)))
