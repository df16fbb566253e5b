use Rattle.std.proofs.Common.{◌≡◌, ◌++◌, subst}
use Rattle.mbdc_fit.specs.Order.{encoded_by}
use Rattle.mbdc_fit.specs.Plan.{Outcome}
use Rattle.mbdc_fit.proofs.Orders.{group_for}
use Rattle.mbdc_fit.proofs.list.order.plan_for.Goals as goal

pub returns-clause-one_group : goal.returns-clause-one_group
returns-clause-one_group g c =
    let verdict = c.verdict_for-verdict.result in
    group_for c.args.order.now c.args.house.now verdict c.add_order.new.self c.verdict_for-verdict.ensures.accepted
    (subst (λ (before : Outcome). c.add_order.new.self.payload ≡ before.payload ++ encoded_by verdict c.args.order.now c.args.house.now.state) c.empty-plan.ensures c.in_ok-add_order.ensures.payload_is)
