use Rattle.std.proofs.Common.{IsTrue, rules, sym, ◌∙◌}
use Rattle.mbdc_audit.specs.Walk.{fit}
use Rattle.mbdc_audit.proofs.Once.{once}
use Rattle.mbdc_audit.proofs.apart.is_once.Goals as goal

pub returns : goal.returns
returns c =
    let one : IsTrue c.is_one_meter.result = search rules in
    once (fit c.args.one.now) (fit c.args.other.now) c.are_two.result (sym c.is_over.ensures ∙ c.if-is_over.false)
    (sym c.is_over-else-is_over.ensures ∙ c.if-is_over-2.false) (c.is_one_meter.ensures.0 one) c.are_two.ensures
