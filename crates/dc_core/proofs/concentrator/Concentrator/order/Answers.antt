use Rattle.std.proofs.Common.{◌≡◌, ap, sym, subst, ◌∙◌, refl}
use Rattle.mbdc_change.specs.Accepts.{Accepts}
use Rattle.dc_core.specs.Images.{Machine, IsAt}
use Rattle.dc_core.proofs.At.{at_ordered}
use Rattle.dc_core.proofs.concentrator.Concentrator.order.Goals as goal

pub returns-clause-at : goal.returns-clause-at
returns-clause-at g c origin core at =
    let inside = c.self.inside in
    let change = c.args.change.now in
    let machine : Machine (g.row.D.Denot) = record { store = inside.store; house = inside.house; waiting = inside.waiting; lines = inside.lines } in
    let at' : IsAt g.D.Disk origin machine core = subst (λ (b : Machine (g.row.D.Denot)). IsAt g.D.Disk origin b core) (sym c.self.view_is) at in
    let empty : machine.waiting.count ≡ 0 = ap (λ (b : Machine (g.row.D.Denot)). b.waiting.count) c.self.view_is ∙ c.requires.empty in
    let accepted : Accepts machine.house.budget change machine.house.state = subst (λ (b : Machine (g.row.D.Denot)). Accepts b.house.budget change b.house.state) (sym c.self.view_is) c.requires.accepted in
    let new : Machine (g.row.D.Denot) = record { store = inside.store; house = c.apply.new.self; waiting = c.push.new.self; lines = c.end_removed.new.lines } in
    at_ordered g.D.Disk origin machine new core change at' empty c.requires.is_change accepted refl c.in_ok-apply.ensures.ok c.push.ensures c.end_removed.ensures
