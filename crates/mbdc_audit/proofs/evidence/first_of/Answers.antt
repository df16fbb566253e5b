use Rattle.mbdc_audit.specs.Walk.{day_meant}
use Rattle.mbdc_audit.proofs.Firsts.{first, later, never_after, one}
use Rattle.mbdc_audit.proofs.evidence.first_of.Goals as goal

pub returns-then-is_some-clause-ok : goal.returns-then-is_some-clause-ok
returns-then-is_some-clause-ok c = let h = c.count_of-amount.ensures.ok in first c.args.named.now c.args.counted (day_meant c.args.meant) c.args.records.now
    c.records.record-index _ c.count_of-amount.result c.records-test.true c.records.invariant
    (record { ok = c.count_of-amount.ensures.ok; only = c.count_of-amount.ensures.only })

pub returns-then-is_some-clause-only : goal.returns-then-is_some-clause-only
returns-then-is_some-clause-only c = one c.args.named.now c.args.counted (day_meant c.args.meant) c.args.records.now
    c.records.record-index _ c.count_of-amount.result c.records-test.true c.records.invariant
    (record { ok = c.count_of-amount.ensures.ok; only = c.count_of-amount.ensures.only }) c.if-is_some.ensures

pub records-preserved : goal.records-preserved
records-preserved c = later c.args.named.now c.args.counted (day_meant c.args.meant) c.args.records.now
    c.records.record-index _ c.count_of-amount.result c.records-test.true c.records.invariant
    (record { ok = c.count_of-amount.ensures.ok; only = c.count_of-amount.ensures.only }) c.if-is_some.ensures

pub returns-clause-only : goal.returns-clause-only
returns-clause-only c = λ amount g. absurd (never_after c.args.named.now c.args.counted (day_meant c.args.meant) c.args.records.now
    c.records.record-index c.records-test.false c.records.invariant amount g)
