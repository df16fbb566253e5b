use Rattle.std.proofs.Common.{List, ap, ◌∙◌}
use Rattle.mbdc_audit.specs.Consumption.Period.{consumption}
use Rattle.mbdc_audit.specs.declared.consumption.entry.Entry.{Entry}
use Rattle.mbdc_audit.specs.Kept.{capped}
use Rattle.mbdc_audit.proofs.Marks.{capped_err, capped_ok}
use Rattle.mbdc_audit.proofs.curve.Curve.amount.Goals as goal

pub returns-in-Ok : goal.returns-in-Ok
returns-in-Ok g c = λ o p.
    capped_ok (consumption c.as_slice-entries.result.now c.args.from c.args.to) c.in-Ok.amount c.in-Ok.ensures
    ∙ ap (λ (l : List Entry). capped (consumption l c.args.from c.args.to)) c.as_slice-entries.ensures.value

pub returns-in-Err : goal.returns-in-Err
returns-in-Err g c = λ o p.
    capped_err (consumption c.as_slice-entries.result.now c.args.from c.args.to) c.in-Err.field-0 c.in-Err.ensures
    ∙ ap (λ (l : List Entry). capped (consumption l c.args.from c.args.to)) c.as_slice-entries.ensures.value
