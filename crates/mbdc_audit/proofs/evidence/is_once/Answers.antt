use Rattle.std.proofs.Common.{◌∙◌, map}
use Rattle.dc_records.specs.Record.{view}
use Rattle.mbdc_audit.proofs.Days.{once_is}
use Rattle.mbdc_audit.proofs.evidence.is_once.Goals as goal

pub returns-else-record-eq0 : goal.returns-else-record-eq0
returns-else-record-eq0 c = c.eq.ensures
    ∙ once_is (map view c.args.records.now) (view c.args.record.now) c.day_of.result c.in-Some.dated c.in-Some.ensures
    c.if-record-eq0.false c.day_of.ensures
