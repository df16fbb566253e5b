use Rattle.std.proofs.Common.{arith, rules, tests, ◌≡◌, ◌<◌, ◌&&◌, ℕ, Bool, ◌∙◌}
use Rattle.std.specs.List.{list_any}
use Rattle.std.specs.Prelude.{◌==◌, nat_lt}
use Rattle.dc_records.specs.declared.record.Record.{Record}
use Rattle.mbdc_audit.specs.Dates.{days_in}
use Rattle.std.proofs.lemmas.Iterator.{YieldsList-from_slice}
use Rattle.std.proofs.lemmas.Iterator.Search.{any_from_yields_List}
use Rattle.std.proofs.lemmas.Bool.Decides.{nat_tests}
use Rattle.dc_records.specs.Record.{view}
use Rattle.mbdc_audit.proofs.Days.{any_in}
use Rattle.mbdc_audit.proofs.evidence.is_meant.Goals as goal

and_above : (s : ℕ) (b : Bool) → 0 < s → b ≡ (nat_lt 0 s && b)
and_above s b lt = grind (arith, nat_tests)

pub returns-then-record-gt0 : goal.returns-then-record-gt0
returns-then-record-gt0 c =
    let s = c.args.record.now.storage in
    let xs = c.args.records.now in
    let any = any_from_yields_List (λ (r : Record). list_any (λ d. d == c.in-Stored.day) (days_in s (view r))) _ _ c.any.result c.any.ensures.ran
    (YieldsList-from_slice xs cc) (λ x b q k. search (rules, tests)) in
    rw c.in-Stored.is (any ∙ (any_in view s c.in-Stored.day c.args.records.now ∙ and_above s _ c.if-record-gt0.true))
