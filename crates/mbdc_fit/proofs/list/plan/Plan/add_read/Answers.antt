use Rattle.std.proofs.Common.{Result, sym, subst}
use Rattle.mbdc_fit.specs.Plan.{IsStep}
use Rattle.mbdc_fit.specs.declared.list.listed.Column.{Column}
use Rattle.mbdc_fit.specs.declared.list.row.Row.{Row}
use Rattle.mbdc_fit.proofs.Steps.{step_of_verdict}
use Rattle.mbdc_fit.proofs.list.plan.Plan.add_read.Goals as goal

pub returns-in_ok-add_verdict-in-Ok : goal.returns-in_ok-add_verdict-in-Ok
returns-in_ok-add_verdict-in-Ok g c =
    subst (λ (read : Result Row Column). IsStep c.args.listed.now read c.args.house.now c.add_verdict.new.house c.args.self.now c.add_verdict.new.self)
    (sym c.in-Ok.is) (step_of_verdict _ c.args.listed.now _ _ _ _ _ c.verdict_on-verdict.ensures.verdict c.in_ok-add_verdict-in-Ok.ensures)
