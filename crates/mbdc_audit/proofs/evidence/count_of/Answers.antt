use Rattle.dc_records.specs.Record.{view}
use Rattle.mbdc_audit.proofs.NamedVib.{by_code, by_name, long_one}
use Rattle.mbdc_audit.proofs.evidence.count_of.Goals as goal

pub returns-then-record-gt-MOST_VIB-clause-only : goal.returns-then-record-gt-MOST_VIB-clause-only
returns-then-record-gt-MOST_VIB-clause-only c = λ amount a. absurd (long_one c.args.named.now c.args.counted
    (view c.args.record.now) amount c.if-is_empty.ensures c.if-record-gt-MOST_VIB.true a.1)

pub returns-then-is_empty-clause-only : goal.returns-then-is_empty-clause-only
returns-then-is_empty-clause-only c = λ amount a. c.amount_of.ensures.only amount
    (by_code c.args.named.now c.args.counted (view c.args.record.now) amount _ c.if-is_empty.ensures
    (c.bare-vib.ensures c.if-record-gt-MOST_VIB.false) a.1)

pub returns-clause-only : goal.returns-clause-only
returns-clause-only c = λ amount a. c.amount_of-2.ensures.only amount
    (by_name c.args.named.now c.args.counted (view c.args.record.now) amount _ c.if-is_empty.ensures c.code_of-vib.ensures a.1)
