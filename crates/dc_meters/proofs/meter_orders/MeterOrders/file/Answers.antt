use Rattle.std.proofs.Common.{sym, ◌∙◌, arith}
use Rattle.std.proofs.lemmas.Grind.{common_steps}
use Rattle.dc_meters.specs.Places.{place_cmp, is_in_flat, meter_by_flat, among}
use Rattle.dc_meters.proofs.PlaceOrder.{own_place, put_in, taken_out}
use Rattle.dc_meters.proofs.Placed.{placed_back}
use Rattle.dc_meters.proofs.meter_orders.MeterOrders.file.Goals as goal

pub returns-in-Ok-clause-flats : goal.returns-in-Ok-clause-flats
returns-in-Ok-clause-flats g c = λ q.
    c.in_ok-insert.ensures.updates.0 q ∙ put_in _ (among place_cmp c.args.self.now.by_flat.keys q) _ (own_place c.args.meter c.flat.result c.args.row.now q (sym c.flat.ensures.flat))

pub returns-in-Err-clause-same_flats : goal.returns-in-Err-clause-same_flats
returns-in-Err-clause-same_flats g c =
    placed_back place_cmp meter_by_flat is_in_flat c.args.self.now.by_flat.keys c.insert.new.self.keys c.remove.new.self.keys c.args.meter c.args.row.now c.requires.no_flat
    (λ q. c.in_ok-insert.ensures.updates.0 q ∙ put_in _ (among place_cmp c.args.self.now.by_flat.keys q) _ (own_place c.args.meter c.flat.result c.args.row.now q (sym c.flat.ensures.flat)))
    (λ q. c.remove.ensures.updates.0 q ∙ taken_out _ (among place_cmp c.insert.new.self.keys q) _ (own_place c.args.meter c.flat.result c.args.row.now q (sym c.flat.ensures.flat)))

pub returns-in_err-insert-clause-bus : goal.returns-in_err-insert-clause-bus
returns-in_err-insert-clause-bus g c = grind (arith, common_steps)
