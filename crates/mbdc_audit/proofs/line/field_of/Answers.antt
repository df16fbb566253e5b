use Rattle.mbdc_audit.proofs.Lines.{all_left}
use Rattle.mbdc_audit.proofs.line.field_of.Goals as goal

pub returns-in-Bodies-clause-field : goal.returns-in-Bodies-clause-field
returns-in-Bodies-clause-field c = rw c.in-Bodies.is (all_left c.args.text.now)
