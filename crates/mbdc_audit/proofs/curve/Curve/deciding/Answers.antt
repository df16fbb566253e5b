use Rattle.std.proofs.Common.{◌≡◌, ◌≤◌, ℕ, List, length, rules, tests, ◌∙◌, Bool, [], ap, filter, sym, take, arith}
use Rattle.std.specs.Prelude.{◌==◌, if◌then◌else◌, nat_le, nat_lt}
use Rattle.std.proofs.lemmas.Iterator.{YieldsList-from_slice}
use Rattle.std.proofs.lemmas.Iterator.Search.{any_from_yields_List}
use Rattle.std.proofs.lemmas.Grind.{common_steps}
use Rattle.std.proofs.lemmas.List.{take_all}
use Rattle.mbdc_audit.specs.Amount.{last_of}
use Rattle.mbdc_audit.specs.declared.house.Value as value_type
use Rattle.mbdc_audit.proofs.Decided.{came, passed, skipped}
use Rattle.mbdc_audit.proofs.curve.Curve.deciding.Goals as goal

take_full : (ys xs : List value_type.Value) (i : ℕ) → ys ≡ xs → length ys ≤ i → take i xs ≡ xs
take_full ys xs i same over = take_all i xs (omega (arith, ap (λ (l : List value_type.Value). length l) same, over))

pub values-preserved-then-value-moment : goal.values-preserved-then-value-moment
values-preserved-then-value-moment g c = passed c.args.moment c.deref-value-items.result.now c.args.self.now.values.items c.values.value-index _ c.values.last c.values.next
    c.deref-value-items.ensures.value c.values-test.true c.if-value-moment.true c.values.invariant

pub values-preserved-then-is_some : goal.values-preserved-then-is_some
values-preserved-then-is_some g c = skipped c.args.moment c.deref-value-items.result.now c.args.self.now.values.items c.values.value-index _ c.values.last c.values.next
    c.deref-value-items.ensures.value c.values-test.true c.if-value-moment.false (sym c.is_some.ensures ∙ c.if-is_some.true) c.values.invariant

pub values-preserved : goal.values-preserved
values-preserved g c = came c.args.moment c.deref-value-items.result.now c.args.self.now.values.items c.values.value-index _ c.values.last c.values.next
    c.deref-value-items.ensures.value c.values-test.true c.if-value-moment.false (sym c.is_some.ensures ∙ c.if-is_some.false) c.values.invariant

pub returns-clause-next : goal.returns-clause-next
returns-clause-next g c =
    let xs = c.args.self.now.values.items in
    let any = any_from_yields_List (λ (v : value_type.Value). v.moment == c.args.moment) _ _ c.any.result c.any.ensures.ran
    (YieldsList-from_slice xs cc) (λ x b q k. search (rules, tests)) in
    let all = take_full c.deref-value-items.result.now xs c.values.value-index c.deref-value-items.ensures.value c.values-test.false in
    c.values.invariant.1 ∙ ap (λ (l : List value_type.Value). take 1 (filter (λ v. nat_lt c.args.moment v.moment) l)) all
    ∙ ap (λ (b : Bool). if b then [] else take 1 (filter (λ v. nat_lt c.args.moment v.moment) xs)) (sym c.if-any.false ∙ any)

pub returns-then-any-clause-last : goal.returns-then-any-clause-last
returns-then-any-clause-last g c =
    let all = take_full c.deref-value-items.result.now c.args.self.now.values.items c.values.value-index c.deref-value-items.ensures.value c.values-test.false in
    c.values.invariant.0 ∙ ap (λ (l : List value_type.Value). last_of (filter (λ v. nat_le v.moment c.args.moment) l)) all

pub returns-then-any-clause-next : goal.returns-then-any-clause-next
returns-then-any-clause-next g c = grind (arith, common_steps)

pub returns-clause-last : goal.returns-clause-last
returns-clause-last g c =
    let all = take_full c.deref-value-items.result.now c.args.self.now.values.items c.values.value-index c.deref-value-items.ensures.value c.values-test.false in
    c.values.invariant.0 ∙ ap (λ (l : List value_type.Value). last_of (filter (λ v. nat_le v.moment c.args.moment) l)) all
