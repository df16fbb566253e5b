use Rattle.std.proofs.Common.{◌∙◌}
use Rattle.dc_address.specs.Identity.{identity_cmp}
use Rattle.dc_meters.specs.Orders.{found}
use Rattle.dc_address.proofs.Order.{identities_total}
use Rattle.dc_meters.proofs.FiledReadings.{one_out}
use Rattle.dc_meters.proofs.orders.Orders.unfile.Goals as goal

pub returns-clause-meters : goal.returns-clause-meters
returns-clause-meters g c = λ q.
    c.remove.ensures.updates.0 q ∙ one_out identities_total (record { key = c.args.ended.meter; serial = c.args.ended.serial }) q (found identity_cmp c.args.self.now.by_meter.keys q)
