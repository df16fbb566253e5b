use Rattle.std.proofs.Common.{◌∙◌}
use Rattle.dc_address.specs.Identity.{identity_cmp}
use Rattle.dc_meters.specs.Orders.{found}
use Rattle.dc_address.proofs.Order.{identities_total}
use Rattle.dc_meters.proofs.FiledReadings.{one_in, in_and_out}
use Rattle.dc_meters.proofs.orders.Orders.file.Goals as goal

pub returns-in-Ok-clause-meters : goal.returns-in-Ok-clause-meters
returns-in-Ok-clause-meters g c = λ q.
    c.in_ok-insert.ensures.updates.0 q ∙ one_in identities_total (record { key = c.args.ended.meter; serial = c.args.ended.serial }) q (found identity_cmp c.args.self.now.by_meter.keys q)

pub returns-in-Err-clause-same_meters : goal.returns-in-Err-clause-same_meters
returns-in-Err-clause-same_meters g c =
    in_and_out identities_total c.args.self.now.by_meter.keys c.insert.new.self.keys c.remove.new.self.keys (record { key = c.args.ended.meter; serial = c.args.ended.serial }) c.requires.no_meter c.in_ok-insert.ensures.updates.0 c.remove.ensures.updates.0
