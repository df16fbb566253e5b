use Rattle.std.proofs.Common.{arith, ◌≡◌, ◌∙◌, ◌+◌, ◌<◌, ℕ, List, [], ◌∷◌, ap, flat_map, map, refl, sym}
use Rattle.std.proofs.lemmas.Bool.{lt-ltb}
use Rattle.std.proofs.lemmas.Bool.Decides.{nat_tests}
use Rattle.mbdc_audit.specs.Amount.{last_of}
use Rattle.mbdc_audit.specs.Evidence.{list_of}
use Rattle.mbdc_audit.specs.Sound.{told_of}
use Rattle.mbdc_audit.specs.View.{found_of}
use Rattle.std.specs.Prelude.{nat_lt, true}
use Rattle.mbdc_audit.specs.House.{Value}
use Rattle.mbdc_audit.proofs.Shows.{high_all, high_none, high_some, low_all, low_came, low_early, low_kept, low_other}
use Rattle.mbdc_audit.proofs.readings.began_anew.Goals as goal

record Single (n : ℕ) (xs : List Value) : Type 0 where
  it : Value
  is : xs ≡ it ∷ []
  amount : n ≡ it.amount

single : (n : ℕ) (xs : List Value) → n ∷ [] ≡ map (λ v. v.amount) xs → Single n xs
single n [] e = absurd cc
single n (v ∷ []) e = record { it = v; is = refl; amount = cc }
single n (v ∷ w ∷ xs) e = absurd cc

less : (a b x y : ℕ) → nat_lt a b ≡ true → a ≡ x → b ≡ y → x < y
less a b x y lt e e' = grind (arith, nat_tests)

pub values-preserved-then-is_some : goal.values-preserved-then-is_some
values-preserved-then-is_some c =
    let xs = c.args.values.now in
    let i = c.values.value-index in
    let zero = c.args.zero.now in
    let some = sym c.is_some.ensures ∙ c.if-is_some.true in (
      high_some c.in-Some.before xs i _ c.values.high c.shown-old.result c.values-test.true c.shown-old.ensures some c.values.invariant.0,
      low_other zero.run zero.moment c.in-Some.before xs i _ c.values.low c.shown-old.result c.values-test.true c.shown-old.ensures some
          (λ e. absurd (omega (arith, c.in-Some.ensures, e))) c.values.invariant.1,
    )

pub values-preserved-then-is_some-2 : goal.values-preserved-then-is_some-2
values-preserved-then-is_some-2 c =
    let xs = c.args.values.now in
    let i = c.values.value-index in
    let zero = c.args.zero.now in (
      high_none c.in-Some.before xs i _ c.values.high c.shown-old.result c.values-test.true c.shown-old.ensures (sym c.is_some.ensures ∙ c.if-is_some.false) c.values.invariant.0,
      low_kept zero.run zero.moment xs i zero c.values.low c.values-test.true (sym c.is_some-in-values.ensures ∙ c.if-is_some-2.true) c.values.invariant.1,
    )

pub values-preserved-then-value-zero : goal.values-preserved-then-value-zero
values-preserved-then-value-zero c =
    let xs = c.args.values.now in
    let i = c.values.value-index in
    let zero = c.args.zero.now in (
      high_none c.in-Some.before xs i _ c.values.high c.shown-old.result c.values-test.true c.shown-old.ensures (sym c.is_some.ensures ∙ c.if-is_some.false) c.values.invariant.0,
      low_early zero.run zero.moment xs i _ c.values.low c.values-test.true c.if-value-zero.true c.values.invariant.1,
    )

pub values-preserved : goal.values-preserved
values-preserved c =
    let xs = c.args.values.now in
    let i = c.values.value-index in
    let zero = c.args.zero.now in (
      high_none c.in-Some.before xs i _ c.values.high c.shown-old.result c.values-test.true c.shown-old.ensures (sym c.is_some.ensures ∙ c.if-is_some.false) c.values.invariant.0,
      low_came zero.run zero.moment xs i _ c.values.low c.shown-low.result c.values-test.true
          (omega (arith, c.if-value-zero.false)) (sym c.is_some-in-values.ensures ∙ c.if-is_some-2.false) c.shown-low.ensures c.values.invariant.1,
    )

pub returns-clause-ok : goal.returns-clause-ok
returns-clause-ok c = λ lt.
    let zero = c.args.zero.now in
    let high = single c.in-Some-high.high _ (ap list_of (sym c.in-Some-high.is)
    ∙ high_all c.in-Some.before c.args.values.now c.values.value-index c.values.high c.values-test.false c.values.invariant.0) in
    let low = single c.in-Some-low.low _ (ap list_of (sym c.in-Some-low.is)
    ∙ low_all zero.run zero.moment c.args.values.now c.values.value-index c.values.low c.values-test.false c.values.invariant.1) in record {
      before = c.in-Some.before;
      is_next = omega (arith, c.in-Some.ensures);
      high = high.it;
      low = low.it;
      high_is = high.is;
      low_is = low.is;
      falls = less _ _ low.it.amount high.it.amount lt low.amount high.amount;
    }

is_one : (n : ℕ) (xs : List Value) (v : Value) → n ∷ [] ≡ map (λ x. x.amount) xs → xs ≡ v ∷ [] → n ≡ v.amount
is_one n xs v e f = let g : n ∷ [] ≡ v.amount ∷ [] = e ∙ ap (λ (l : List Value). map (λ (x : Value). x.amount) l) f in cc

before_is : (run a b : ℕ) → run ≡ a + 1 → run ≡ b + 1 → a ≡ b
before_is run a b e f = omega (arith, e, f)

pub returns-clause-only : goal.returns-clause-only
returns-clause-only c = λ f.
    let zero = c.args.zero.now in
    let next : zero.run ≡ c.in-Some.before + 1 = omega (arith, c.in-Some.ensures) in
    let same : f.before ≡ c.in-Some.before = before_is zero.run f.before c.in-Some.before f.is_next next in
    let high = is_one c.in-Some-high.high _ f.high (ap list_of (sym c.in-Some-high.is)
    ∙ high_all c.in-Some.before c.args.values.now c.values.value-index c.values.high c.values-test.false c.values.invariant.0)
    (ap (λ (n : ℕ). last_of (told_of n (flat_map found_of c.args.values.now))) (sym same) ∙ f.high_is) in
    let low = is_one c.in-Some-low.low _ f.low (ap list_of (sym c.in-Some-low.is)
    ∙ low_all zero.run zero.moment c.args.values.now c.values.value-index c.values.low c.values-test.false c.values.invariant.1) f.low_is in
    lt-ltb c.in-Some-low.low c.in-Some-high.high (omega (arith, low, high, f.falls))
