use Rattle.std.proofs.Common.{sym, ◌∙◌}
use Rattle.mbdc_audit.specs.Walk.{holder_of}
use Rattle.mbdc_audit.proofs.SumOf.{known, unknown}
use Rattle.mbdc_audit.proofs.totals.Sums.sum.Goals as goal

pub returns-then-not-is_known-clause-sum : goal.returns-then-not-is_known-clause-sum
returns-then-not-is_known-clause-sum g c = λ sound graded. sym (unknown c.args.self.now.house.now (holder_of c.args.holder) c.args.span
    c.args.number.now.used c.args.number.now.unit c.in_ok-total.total graded (c.in_ok-total.ensures (λ n e. sound)) (sym c.is_known.ensures ∙ c.if-not-is_known.true))

pub returns-clause-sum : goal.returns-clause-sum
returns-clause-sum g c = λ sound graded. c.in_ok-exact.ensures ∙ known c.args.self.now.house.now (holder_of c.args.holder) c.args.span
    c.args.number.now.used c.args.number.now.unit c.in_ok-total.total graded (c.in_ok-total.ensures (λ n e. sound)) (sym c.is_known.ensures ∙ c.if-not-is_known.false)
