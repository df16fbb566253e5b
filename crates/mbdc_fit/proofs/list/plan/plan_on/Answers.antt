use Rattle.std.proofs.Common.{List, subst}
use Rattle.mbdc_fit.specs.Plan.{AreSteps, Outcome}
use Rattle.mbdc_fit.specs.declared.list.listed.Listed.{Listed}
use Rattle.mbdc_fit.proofs.Steps.{one_group, planned}
use Rattle.mbdc_fit.proofs.list.plan.plan_on.Goals as goal

pub returns-in_ok-add_rows-in-Rows-clause-one_group : goal.returns-in_ok-add_rows-in-Rows-clause-one_group
returns-in_ok-add_rows-in-Rows-clause-one_group g c =
    let rows : List Listed = c.as_slice.result.now in
    let steps = subst (λ (begun : Outcome). AreSteps rows c.args.house.now c.add_rows.new.house begun c.add_rows.new.self) c.empty-plan.ensures c.in_ok-add_rows-in-Rows.ensures in
    one_group rows c.args.house.now c.add_rows.new.self (planned rows c.args.house.now c.add_rows.new.house c.add_rows.new.self steps)
