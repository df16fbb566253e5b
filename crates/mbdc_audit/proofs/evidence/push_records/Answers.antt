use Rattle.std.proofs.Common.{arith}
use Rattle.std.proofs.lemmas.Grind.{common_steps}
use Rattle.mbdc_audit.proofs.evidence.push_records.Goals as goal

pub returns-in_default-clause-memory : goal.returns-in_default-clause-memory
returns-in_default-clause-memory g c = grind (arith, common_steps)

pub records-preserved : goal.records-preserved
records-preserved g c = grind (arith, common_steps)

pub records-preserved-then-record-eq0-3 : goal.records-preserved-then-record-eq0-3
records-preserved-then-record-eq0-3 g c = grind (arith, common_steps)
