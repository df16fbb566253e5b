-- The meters that match a mask of first digits are those whose numbers lie in a range.
use Rattle.std.proofs.Common.{◌≡◌, ℕ, ◌+◌, ◌*◌, ◌/◌, ◌^◌, ◌<◌, ◌≤◌, inl, inr, Bool, true, false, cond, List, [], ◌∷◌, filter, ◌==◌, arith, ap, sym, ◌∙◌, refl, subst}
use Rattle.std.proofs.Math.Nat.{div-mul-le_self, lt-div-mul-add, div-eq_of_lt-le, one-le-pow}
use Rattle.std.proofs.lemmas.Bool.{eq-eqb, eqb-true}
use Rattle.dc_address.specs.Mask.{matches}
use Rattle.dc_address.specs.declared.identity.Identity.{Identity}
use Rattle.dc_search.specs.Prefix.{mask_of_digits}
use Rattle.dc_search.specs.Walk.{with_number}
use Rattle.dc_search.proofs.Prefixes.{Node}
use Rattle.dc_search.proofs.Ranges.{Has}

pub power_positive : (free : ℕ) → 0 < 10 ^ free
power_positive free = one-le-pow free 10 (omega arith)

-- a meter that matches has a number of the range
pub node_in : (digits : List ℕ) (free number : ℕ) (meter : Identity) → Node digits free number → matches (mask_of_digits digits) meter ≡ true
    → (number * 10 ^ free ≤ meter.number) × (meter.number < number * 10 ^ free + 10 ^ free)
node_in digits free number meter node is =
    let power : ℕ = 10 ^ free in
    let quotient : meter.number / power ≡ number = eqb-true _ number (sym (node.agrees meter) ∙ is) in
    let below : meter.number / power * power ≤ meter.number = div-mul-le_self meter.number power in
    let above : meter.number < meter.number / power * power + power = lt-div-mul-add (power_positive free) in
    (subst (λ q. q * power ≤ meter.number) quotient below, subst (λ q. meter.number < q * power + power) quotient above)

pub node_from : (digits : List ℕ) (free number : ℕ) (meter : Identity) → Node digits free number
    → number * 10 ^ free ≤ meter.number → meter.number < number * 10 ^ free + 10 ^ free → matches (mask_of_digits digits) meter ≡ true
node_from digits free number meter node low high =
    let quotient : meter.number / 10 ^ free ≡ number = div-eq_of_lt-le (10 ^ free) low (omega arith) in
    node.agrees meter ∙ eq-eqb _ number quotient

filter_cond : (p : Identity → Bool) (c : Bool) (x : Identity) (zs : List Identity)
    → filter p (cond c (x ∷ zs) zs) ≡ cond c (cond (p x) (x ∷ filter p zs) (filter p zs)) (filter p zs)
filter_cond p true x zs = refl
filter_cond p false x zs = refl

both_tests : (b c : Bool) (x : Identity) (ys zs : List Identity) → (b ≡ true → c ≡ true) → ys ≡ zs
    → cond b (x ∷ ys) ys ≡ cond c (cond b (x ∷ zs) zs) zs
both_tests true true x ys zs implies same = ap (λ rest. x ∷ rest) same
both_tests true false x ys zs implies same = let e = implies refl in cc
both_tests false true x ys zs implies same = same
both_tests false false x ys zs implies same = same

-- a filter after a weaker one
pub filter_within : (p q : Identity → Bool) (xs : List Identity) → ((x : Identity) → p x ≡ true → q x ≡ true) → filter p xs ≡ filter p (filter q xs)
filter_within p q [] implies = refl
filter_within p q (x ∷ xs) implies =
    both_tests (p x) (q x) x (filter p xs) (filter p (filter q xs)) (implies x) (filter_within p q xs implies)
    ∙ sym (filter_cond p (q x) x (filter q xs))

has_passed : (p : Identity → Bool) (b : Bool) (x : Identity) (zs : List Identity) (m : Identity) → p x ≡ b → (Has zs m → p m ≡ true) → Has (cond b (x ∷ zs) zs) m → p m ≡ true
has_passed p true x zs m test later has = elim has [ inl e ↦ ap p (sym e) ∙ test | inr h ↦ later h ]
has_passed p false x zs m test later has = later has

pub Has-filter : (p : Identity → Bool) (xs : List Identity) (m : Identity) → Has (filter p xs) m → p m ≡ true
Has-filter p [] m has = absurd has
Has-filter p (x ∷ xs) m has = has_passed p (p x) x (filter p xs) m refl (Has-filter p xs m) has

-- the matching meters of a range of numbers
pub record Within (low high : ℕ) (bus matching : List Identity) : Type 0 where
  pub inside : (meter : Identity) → Has matching meter → (low ≤ meter.number) × (meter.number < high)
  pub same : (number : ℕ) → low ≤ number → number < high → with_number number bus ≡ with_number number matching

pub within_node : (digits : List ℕ) (free number : ℕ) (bus : List Identity) → Node digits free number
    → Within (number * 10 ^ free) (number * 10 ^ free + 10 ^ free) bus (filter (matches (mask_of_digits digits)) bus)
within_node digits free number bus node = record {
  inside = λ meter has. node_in digits free number meter node (Has-filter (matches (mask_of_digits digits)) bus meter has);
  same = λ n low high. filter_within (λ meter. meter.number == n) (matches (mask_of_digits digits)) bus
      (λ meter is. let e : meter.number ≡ n = eqb-true meter.number n is in
      node_from digits free number meter node (omega arith) (omega arith));
}
