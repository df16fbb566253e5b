use Rattle.std.proofs.Common.{IfOk, Option, subst, sym}
use Rattle.json.specs.Json.{Json}
use Rattle.mbdc_json.specs.Journal.{IsKept}
use Rattle.mbdc_json.proofs.journal.entry.read_line.Goals as goal

pub returns-in-Ok-clause-kept : goal.returns-in-Ok-clause-kept
returns-in-Ok-clause-kept g c =
    subst (λ (json : Option Json). IfOk c.line_of.result (IsKept json)) (sym c.in-Ok.ensures.ok.1) c.line_of.ensures.kept
