use Rattle.std.proofs.Common.{rules, tests, ◌≡◌, ◌&&◌, ◌+◌, ◌∙◌, Bool, true, false}
use Rattle.std.specs.Prelude.{◌==◌}
use Rattle.std.proofs.lemmas.Iterator.{YieldsList-from_slice}
use Rattle.std.proofs.lemmas.Iterator.Search.{any_from_yields_List}
use Rattle.mbdc_audit.specs.Amount.{is_first, is_last, is_over_at}
use Rattle.mbdc_audit.specs.Kept.{known_source}
use Rattle.mbdc_audit.specs.declared.house.Value as value_type
use Rattle.mbdc_audit.proofs.Nears.{has_is}
use Rattle.mbdc_audit.proofs.curve.Curve.is_exchanged.Goals as goal

both : (over l f a b : Bool) → over ≡ true → a ≡ l → b ≡ f → a ≡ true → b ≡ (over && (l && f))
both true true f a b e al bf is = bf
both true false f a b e al bf is = absurd cc
both false l f a b e al bf is = absurd cc

none : (over l f a : Bool) → a ≡ l → a ≡ false → a ≡ (over && (l && f))
none true true f a al is = absurd cc
none true false f a al is = is
none false l f a al is = is

pub returns-then-has_last : goal.returns-then-has_last
returns-then-has_last g c =
    let xs = c.args.self.now.values.items in
    let next = c.args.n + 1 in
    let over : is_over_at c.args.new.now.begin c.args.old.now.end ≡ true = search (rules, tests) in
    let last = any_from_yields_List (λ (v : value_type.Value). (v.run == c.args.n) && is_last (known_source v)) _ _ c.any-has_last.result
    c.any-has_last.ensures.ran (YieldsList-from_slice xs cc) (λ x b q k. search (rules, tests)) in
    let first = any_from_yields_List (λ (v : value_type.Value). (v.run == next) && is_first (known_source v)) _ _ c.any-has_first.result
    c.any-has_first.ensures.ran (YieldsList-from_slice xs cc) (λ x b q k. search (rules, tests)) in
    both _ _ _ c.any-has_last.result _ over (last ∙ has_is is_last c.args.n xs c.args.self.now.found)
    (first ∙ has_is is_first next xs c.args.self.now.found) c.if-has_last.true

pub returns-else-has_last : goal.returns-else-has_last
returns-else-has_last g c =
    let xs = c.args.self.now.values.items in
    let last = any_from_yields_List (λ (v : value_type.Value). (v.run == c.args.n) && is_last (known_source v)) _ _ c.any-has_last.result
    c.any-has_last.ensures.ran (YieldsList-from_slice xs cc) (λ x b q k. search (rules, tests)) in
    none _ _ _ c.any-has_last.result (last ∙ has_is is_last c.args.n xs c.args.self.now.found) c.if-has_last.false
