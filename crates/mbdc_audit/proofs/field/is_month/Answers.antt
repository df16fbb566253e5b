use Rattle.std.proofs.Common.{rules, ◌++◌, List, ℕ, ap}
use Rattle.std.specs.Prelude.{IfSome, IsTrue, codes}
use Rattle.std.proofs.lemmas.Bool.{false≢true}
use Rattle.dc_units.specs.Date.{exists}
use Rattle.mbdc_audit.proofs.Months.{month_iff, month_length}
use Rattle.mbdc_audit.proofs.field.is_month.Goals as goal

pub returns-then-label-ne7 : goal.returns-then-label-ne7
returns-then-label-ne7 c = (
  λ no. absurd (false≢true no),
  λ m. absurd (c.if-label-ne7.true (month_length c.args.label.now m)),
)

pub returns : goal.returns
returns c =
    let there : IfSome c.parse_text.result (λ d. IsTrue (exists d.year d.month d.day)) = search rules in
    month_iff c.args.label.now (c.copy_from_slice.new.self ++ codes "-01") c.parse_text.result c.is_some.result c.if-label-ne7.false
    (ap (λ (t : List ℕ). t ++ codes "-01") c.copy_from_slice.ensures.after) c.is_some.ensures there
    c.parse_text.ensures.found c.parse_text.ensures.only
