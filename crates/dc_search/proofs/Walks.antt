-- A walk finds what its range has.
use Rattle.std.proofs.Common.{◌≡◌, ℕ, zero, suc, ◌+◌, ◌*◌, ◌^◌, ◌<◌, ◌≤◌, inl, inr, Bool, true, false, ◌&&◌, cond, List, [], ◌∷◌, ◌++◌, Some, None, length, filter, ◌==◌, nat_lt, arith, ap, sym, ◌∙◌, refl, subst}
use Rattle.std.specs.Prelude.{if◌then◌else◌}
use Rattle.std.specs.List.{cons_option, flat_map}
use Rattle.std.specs.Int.Digits.{number_from_digits}
use Rattle.std.proofs.Math.Nat.{pow-suc}
use Rattle.std.proofs.lemmas.Bool.{eq-eqb, eqb-true, lt-ltb, ne_eqb}
use Rattle.dc_address.specs.Mask.{matches}
use Rattle.dc_address.specs.declared.identity.Identity.{Identity}
use Rattle.dc_search.specs.Prefix.{mask_of_digits}
use Rattle.dc_search.specs.Walk.{FindsAll, Visit, found_of, has_collision, only_one, shared_in, shared_of, ten_digits, visit, walk, walk_of, with_number}
use Rattle.dc_search.proofs.Covers.{Covers, numbers_of, Covers-append, Covers-cons, Covers-nothing}
use Rattle.dc_search.proofs.Matching.{Has-filter, Within, within_node}
use Rattle.dc_search.proofs.Prefixes.{Node, node_child, node_root}
use Rattle.dc_search.proofs.Ranges.{Ascending, Contains-from_has, Has, IsStrictlyIncreasing-from, has_from_Contains}

abbrev visit_of : List ℕ → List Identity → Visit
visit_of digits matching = record { digits = digits; matching = matching }

alone_of : (b : Bool) (x meter : Identity) → cond b (x ∷ []) [] ≡ meter ∷ [] → x ≡ meter
alone_of true x meter is = cc
alone_of false x meter is = cc

too_few : (b : Bool) (x : Identity) → 1 < length (cond b (x ∷ []) []) → ⊥
too_few true x more = omega arith
too_few false x more = omega arith

-- at most one meter matches
few : (low high : ℕ) (bus : List Identity) (digits : List ℕ) (matching : List Identity) → nat_lt 1 (length matching) ≡ false → low ≤ high
    → Within low high bus matching → Covers low high bus (visit_of digits matching ∷ [])
few low high bus digits [] one ordered within = record {
  found_up = ordered;
  found_in = λ meter has. absurd has;
  found_all = λ meter from below alone. let e : [] ≡ meter ∷ [] = sym (within.same meter.number from below) ∙ alone in cc;
  shared_up = ordered;
  shared_in = λ number has. absurd has;
  shared_all = λ number from below more. let e : length (with_number number bus) ≡ 0 = ap length (within.same number from below) in absurd (omega arith);
}
few low high bus digits (x ∷ []) one ordered within =
    let own = within.inside x (inl refl) in
    let itself : (x.number == x.number) ≡ true = eq-eqb x.number x.number refl in
    record {
      found_up = (own.0, omega (arith, own.1));
      found_in = λ meter has. elim has [
        | inl e ↦ subst (λ m. (low ≤ m.number) × (m.number < high) × (with_number m.number bus ≡ m ∷ [])) e
            (own.0, own.1, within.same x.number own.0 own.1 ∙ ap (λ b. cond b (x ∷ []) []) itself)
        | inr h ↦ absurd h
      ];
      found_all = λ meter from below alone. inl (alone_of (x.number == meter.number) x meter (sym (within.same meter.number from below) ∙ alone));
      shared_up = ordered;
      shared_in = λ number has. absurd has;
      shared_all = λ number from below more.
          let e : length (with_number number bus) ≡ length (cond (x.number == number) (x ∷ []) []) = ap length (within.same number from below) in
          absurd (too_few (x.number == number) x (subst (λ n. 1 < n) e more));
    }
few low high bus digits (x ∷ y ∷ more) one ordered within =
    let two : nat_lt 1 (length (x ∷ y ∷ more)) ≡ true = lt-ltb 1 (length (x ∷ y ∷ more)) (omega arith) in cc

filter_all : (number : ℕ) (meters : List Identity) → ((meter : Identity) → Has meters meter → meter.number ≡ number) → with_number number meters ≡ meters
filter_all number [] all = refl
filter_all number (x ∷ xs) all =
    ap (λ b. cond b (x ∷ with_number number xs) (with_number number xs)) (eq-eqb x.number number (all x (inl refl)))
    ∙ ap (λ rest. x ∷ rest) (filter_all number xs (λ meter has. all meter (inr has)))

-- more than one meter has the number
many : (number : ℕ) (bus : List Identity) (digits : List ℕ) (matching : List Identity) → nat_lt 1 (length matching) ≡ true
    → length digits ≡ 8 → number_from_digits 10 digits ≡ number
    → Within number (number + 1) bus matching → Covers number (number + 1) bus (visit_of digits matching ∷ [])
many number bus digits [] more eight value within = cc
many number bus digits (x ∷ []) more eight value within = cc
many number bus digits (x ∷ y ∷ rest) more eight value within =
    let matching : List Identity = x ∷ y ∷ rest in
    let shared : shared_in (visit_of digits matching) ≡ Some number =
    ap (λ b. if b && length digits == 8 then Some (number_from_digits 10 digits) else None) more
    ∙ ap (λ b. if true && b then Some (number_from_digits 10 digits) else None) (eq-eqb (length digits) 8 eight)
    ∙ ap Some value in
    let numbers : shared_of (visit_of digits matching ∷ []) ≡ number ∷ [] = ap (λ o. cons_option o []) shared in
    let all : with_number number bus ≡ matching =
    within.same number (omega arith) (omega arith) ∙ filter_all number matching (λ meter has. let in_range = within.inside meter has in omega (arith, in_range.0, in_range.1)) in
    let count : 1 < length (with_number number bus) = subst (λ meters. 1 < length meters) (sym all) (omega arith) in
    record {
      found_up = omega arith;
      found_in = λ meter has. absurd has;
      found_all = λ meter from below alone.
          let own : meter.number ≡ number = omega arith in
          let two : matching ≡ meter ∷ [] = sym all ∙ ap (λ n. with_number n bus) (sym own) ∙ alone in
          let lengths : length matching ≡ 1 = ap length two in
          absurd (omega arith);
      shared_up = subst (Ascending number (number + 1)) (sym numbers) (omega arith, omega arith);
      shared_in = λ n has. elim (subst (λ zs. Has zs n) numbers has) [
        | inl e ↦ (omega (arith, e), omega (arith, e), subst (λ k. 1 < length (with_number k bus)) e count)
        | inr h ↦ absurd h
      ];
      shared_all = λ n from below more_n. subst (λ zs. Has zs n) (sym numbers) (inl (omega arith));
    }

unfoldable pub counting : ℕ → ℕ → List ℕ
counting from zero = []
counting from (suc count) = from ∷ counting (suc from) count

pub counted : counting 0 10 ≡ ten_digits
unfolding counting
counted = refl

-- the walks of the masks with the next digit, one after the other
module _ (free : ℕ) (digits : List ℕ) (number : ℕ) (bus : List Identity) where
  children_cover : ((digit : ℕ) → digit < 10 → Covers ((number * 10 + digit) * 10 ^ free) ((number * 10 + digit) * 10 ^ free + 10 ^ free) bus (walk free (digits ++ digit ∷ []) bus))
      → (from count : ℕ) → from + count ≡ 10
      → Covers ((number * 10 + from) * 10 ^ free) ((number * 10 + 10) * 10 ^ free) bus (flat_map (λ digit. walk free (digits ++ digit ∷ []) bus) (counting from count))
  unfolding counting
  children_cover each from zero total =
      let ten : from ≡ 10 = omega arith in
      subst (λ n. Covers ((number * 10 + n) * 10 ^ free) ((number * 10 + 10) * 10 ^ free) bus []) (sym ten) (Covers-nothing ((number * 10 + 10) * 10 ^ free) bus)
  children_cover each from (suc count) total =
      let power : ℕ = 10 ^ free in
      let seam : (number * 10 + from) * power + power ≡ (number * 10 + suc from) * power = omega arith in
      Covers-append ((number * 10 + from) * power) ((number * 10 + suc from) * power) ((number * 10 + 10) * power) bus
      (walk free (digits ++ from ∷ []) bus) (flat_map (λ digit. walk free (digits ++ digit ∷ []) bus) (counting (suc from) count))
      (subst (λ n. Covers ((number * 10 + from) * power) n bus (walk free (digits ++ from ∷ []) bus)) seam (each from (omega arith)))
      (children_cover each (suc from) count (omega arith))

none_alone : (matching : List Identity) → nat_lt 1 (length matching) ≡ true → only_one matching ≡ None
none_alone [] more = refl
none_alone (x ∷ []) more = cc
none_alone (x ∷ y ∷ rest) more = refl

-- a leaf of the walk
leaf : (digits : List ℕ) (number : ℕ) (bus : List Identity) (collides : Bool) → has_collision (visit digits bus) ≡ collides → Node digits 0 number
    → Covers (number * 10 ^ 0) (number * 10 ^ 0 + 10 ^ 0) bus (visit digits bus ∷ [])
leaf digits number bus false is node =
    few (number * 1) (number * 1 + 1) bus digits (filter (matches (mask_of_digits digits)) bus) is (omega arith) (within_node digits 0 number bus node)
leaf digits number bus true is node =
    let own : number ≡ number * 1 = omega arith in
    subst (λ n. Covers n (n + 1) bus (visit digits bus ∷ [])) own
    (many number bus digits (filter (matches (mask_of_digits digits)) bus) is (omega (arith, node.count)) node.value
    (subst (λ n. Within n (n + 1) bus (filter (matches (mask_of_digits digits)) bus)) (sym own) (within_node digits 0 number bus node)))

inner : (digits : List ℕ) (free number : ℕ) (bus : List Identity) (collides : Bool) → has_collision (visit digits bus) ≡ collides → Node digits (suc free) number
    → ((digit : ℕ) → digit < 10 → Covers ((number * 10 + digit) * 10 ^ free) ((number * 10 + digit) * 10 ^ free + 10 ^ free) bus (walk free (digits ++ digit ∷ []) bus))
    → Covers (number * 10 ^ suc free) (number * 10 ^ suc free + 10 ^ suc free) bus
    (visit digits bus ∷ (if collides then flat_map (λ digit. walk free (digits ++ digit ∷ []) bus) ten_digits else []))
inner digits free number bus false is node each =
    few (number * 10 ^ suc free) (number * 10 ^ suc free + 10 ^ suc free) bus digits (filter (matches (mask_of_digits digits)) bus) is (omega arith)
    (within_node digits (suc free) number bus node)
inner digits free number bus true is node each =
    let power : ℕ = 10 ^ free in
    let wide : 10 ^ suc free ≡ power * 10 = pow-suc 10 free in
    let low : (number * 10 + 0) * power ≡ number * 10 ^ suc free = omega (arith, ap (λ n. number * n) wide) in
    let high : (number * 10 + 10) * power ≡ number * 10 ^ suc free + 10 ^ suc free = omega (arith, ap (λ n. number * n) wide) in
    let fewer : (length digits == 8) ≡ false = ne_eqb (length digits) 8 (λ e. omega (arith, node.count)) in
    let unshared : shared_in (visit digits bus) ≡ None =
    ap (λ b. if b && length digits == 8 then Some (number_from_digits 10 digits) else None) is
    ∙ ap (λ b. if true && b then Some (number_from_digits 10 digits) else None) fewer in
    Covers-cons (number * 10 ^ suc free) (number * 10 ^ suc free + 10 ^ suc free) bus (visit digits bus) (flat_map (λ digit. walk free (digits ++ digit ∷ []) bus) ten_digits)
    (none_alone (filter (matches (mask_of_digits digits)) bus) is) unshared
    (subst (λ n. Covers n (number * 10 ^ suc free + 10 ^ suc free) bus (flat_map (λ digit. walk free (digits ++ digit ∷ []) bus) ten_digits)) low
    (subst (λ n. Covers ((number * 10 + 0) * power) n bus (flat_map (λ digit. walk free (digits ++ digit ∷ []) bus) ten_digits)) high
    (subst (λ ds. Covers ((number * 10 + 0) * power) ((number * 10 + 10) * power) bus (flat_map (λ digit. walk free (digits ++ digit ∷ []) bus) ds)) counted
    (children_cover free digits number bus each 0 10 refl))))

pub walk_covers : (free : ℕ) (digits : List ℕ) (number : ℕ) (bus : List Identity) → Node digits free number
    → Covers (number * 10 ^ free) (number * 10 ^ free + 10 ^ free) bus (walk free digits bus)
unfolding walk
walk_covers zero digits number bus node = leaf digits number bus (has_collision (visit digits bus)) refl node
walk_covers (suc free) digits number bus node =
    inner digits free number bus (has_collision (visit digits bus)) refl node
    (λ digit small. walk_covers free (digits ++ digit ∷ []) (number * 10 + digit) bus (node_child digits free number digit small node))

number_of_some : (number : ℕ) (meters : List Identity) → ((meter : Identity) → Has meters meter → (meter.number == number) ≡ true) → 1 < length meters → number < 100000000
number_of_some number [] all more = absurd (omega arith)
number_of_some number (x ∷ xs) all more = subst (λ n. n < 100000000) (eqb-true x.number number (all x (inl refl))) x.has_eight_digits

-- a whole walk finds every meter that is alone with its number, and every number of more than one meter
pub walk_finds_all : (bus : List Identity) → FindsAll bus (found_of (walk_of bus)) (shared_of (walk_of bus))
walk_finds_all bus =
    let covers : Covers 0 100000000 bus (walk 8 [] bus) = walk_covers 8 [] 0 bus node_root in
    record {
      alone = λ meter. (
        λ has. (covers.found_in meter (has_from_Contains (found_of (walk_of bus)) meter has)).2,
        λ alone. Contains-from_has (found_of (walk_of bus)) meter (covers.found_all meter (omega arith) meter.has_eight_digits alone),
      );
      by_number = IsStrictlyIncreasing-from 0 100000000 (numbers_of (found_of (walk_of bus))) covers.found_up;
      common = λ number. (
        λ has. (covers.shared_in number (has_from_Contains (shared_of (walk_of bus)) number has)).2,
        λ more. Contains-from_has (shared_of (walk_of bus)) number (covers.shared_all number (omega arith)
            (number_of_some number (with_number number bus) (Has-filter (λ meter. meter.number == number) bus) more) more),
      );
      ascending = IsStrictlyIncreasing-from 0 100000000 (shared_of (walk_of bus)) covers.shared_up;
    }
