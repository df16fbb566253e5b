use Rattle.std.proofs.Common.{List, sym, subst}
use Rattle.mbdc_fit.specs.Plan.{AreSteps}
use Rattle.mbdc_fit.specs.declared.list.listed.Listed.{Listed}
use Rattle.mbdc_fit.proofs.Steps.{step_and_steps}
use Rattle.mbdc_fit.proofs.list.plan.Plan.add_rows.Goals as goal

pub rows-preserved : goal.rows-preserved
rows-preserved g c = λ house plan steps.
    let all = step_and_steps c.in-Some.listed.now c.in-Some.after.now c.read_row.result _ _ house _ _ plan c.read_row.ensures c.in_ok-add_read.ensures steps in
    c.rows.invariant house plan (subst (λ (rows : List Listed). AreSteps rows c.rows.house house c.rows.self plan) (sym c.in-Some.ensures.cases.0) all)
