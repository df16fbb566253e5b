use Rattle.std.proofs.Common.{map}
use Rattle.dc_report.proofs.PlainFields.{plain_line}
use Rattle.dc_report.proofs.line.put_line.Goals as goal

pub returns-clause-text : goal.returns-clause-text
returns-clause-text g c = rw (plain_line (map (λ f. f.now) c.args.fields.now) c.requires.several c.requires.plain) at c.csv_line.ensures.text
