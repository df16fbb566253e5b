use Rattle.std.proofs.Common.{arith, sym}
use Rattle.mbdc_audit.specs.Consumption.Step.{step}
use Rattle.mbdc_audit.proofs.Consumed.Risen.{rises_along}
use Rattle.mbdc_audit.proofs.Consumed.Walks.{total_by-take_none}
use Rattle.mbdc_audit.proofs.consumption.between.consumption.Goals as goal

pub walk-first-requires-clause-before : goal.walk-first-requires-clause-before
walk-first-requires-clause-before c = record {
  within = omega arith;
  before = λ k d lt. absurd (omega (arith, lt));
  sum_is = sym (total_by-take_none step c.args.entries.now);
}

pub difference-requires : goal.difference-requires
difference-requires c =
    rises_along c.args.entries.now c.requires.order c.args.from c.args.to c.requires.period _ _ c.amount_at-before.ensures c.amount_at-after.ensures
