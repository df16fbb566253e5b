use Rattle.std.proofs.Common.{rules, ◌≡◌, [], ◌∷◌}
use Rattle.mbdc_change.specs.State.{MeterRow}
use Rattle.dc_meters.proofs.PartLists.{IsMeter-begun}
use Rattle.dc_meters.proofs.meter.Meter.begin.Goals as goal

pub invariant_of-self : goal.invariant_of-self
invariant_of-self g c =
    let h = c.self.inside in
    let row : MeterRow = record { line = h.line; address = h.address; flat = h.flat; parts = h.parts.items } in
    let items : c.push.new.self.items ≡ c.args.part ∷ [] = search rules in
    rw items (IsMeter-begun row c.args.part c.self.invariant c.requires)
