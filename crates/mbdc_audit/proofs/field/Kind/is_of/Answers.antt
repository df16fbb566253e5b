use Rattle.std.proofs.Common.{arith, rules, tests, ◌≡◌, ◌<◌, ◌≤◌, ◌&&◌, ◌∙◌, ℕ, Bool, length}
use Rattle.std.specs.Prelude.{nat_le, nat_lt}
use Rattle.std.proofs.lemmas.Bool.Decides.{nat_tests}
use Rattle.std.proofs.lemmas.Iterator.{YieldsList-from_slice}
use Rattle.std.proofs.lemmas.Iterator.Search.{all_from_yields_List}
use Rattle.mbdc_audit.specs.Line.{may_have}
use Rattle.mbdc_audit.proofs.field.Kind.is_of.Goals as goal

within : (n most : ℕ) (b : Bool) → 0 < n → n ≤ most → b ≡ (nat_lt 0 n && (nat_le n most && b))
within n most b some few = grind (arith, nat_tests)

pub returns : goal.returns
returns c =
    let all = all_from_yields_List (may_have c.args.self) _ _ c.all.result c.all.ensures.ran (YieldsList-from_slice c.args.field.now cc)
    (λ x b q k. search (rules, tests)) in
    let some : 0 < length c.args.field.now = grind (arith, nat_tests) in
    let few : length c.args.field.now ≤ c.args.most = omega arith in
    all ∙ within _ _ _ some few
