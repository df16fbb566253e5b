-- A mask of the walk with one more digit.
use Rattle.std.proofs.Common.{◌≡◌, ℕ, ◌+◌, ◌*◌, ◌-◌, ◌^◌, ◌<◌, ◌≤◌, true, List, [], ◌∷◌, ◌++◌, length, arith, ap, sym, ◌∙◌, refl, length-append, add-one}
use Rattle.std.specs.List.{list_all}
use Rattle.std.specs.Int.Digits.{number_from_digits}
use Rattle.std.proofs.Math.Nat.{pow-le-pow_right, pow-suc}
use Rattle.std.proofs.lemmas.Bool.{and_from, lt-ltb}
use Rattle.std.proofs.lemmas.List.Folds.{list_all-append}
use Rattle.std.proofs.lemmas.Int.Digits.{number_push}
use Rattle.dc_address.specs.Digits.{decimal_digits, is_digit}
use Rattle.dc_address.proofs.Decimals.{decimal_digits-are_digits, decimal_digits-number_from_digits, length-decimal_digits, number_from_digits-decimal_digits}
use Rattle.dc_address.specs.Mask.{MaskParts, with_digit}
use Rattle.dc_search.specs.Branch.{IsBranch}
use Rattle.dc_search.specs.Prefix.{mask_of_digits}
use Rattle.dc_search.proofs.Prefixes.{with_digit-mask_of_digits}

pub decimal_digits-push : (fixed number digit : ℕ) → number < 10 ^ fixed → digit < 10
    → decimal_digits (fixed + 1) (number * 10 + digit) ≡ decimal_digits fixed number ++ digit ∷ []
decimal_digits-push fixed number digit fits small =
    let digits : List ℕ = decimal_digits fixed number ++ digit ∷ [] in
    let are : list_all is_digit digits ≡ true =
    list_all-append is_digit (decimal_digits fixed number) (digit ∷ [])
    ∙ and_from _ _ (decimal_digits-are_digits fixed number) (and_from _ _ (lt-ltb digit 10 small) refl) in
    let count : length digits ≡ fixed + 1 = length-append (decimal_digits fixed number) (digit ∷ []) ∙ ap (λ n. n + 1) (length-decimal_digits fixed number) in
    let value : number_from_digits 10 digits ≡ number * 10 + digit =
    number_push 10 (decimal_digits fixed number) digit ∙ ap (λ n. n * 10 + digit) (number_from_digits-decimal_digits fixed number fits) in
    ap (λ n. decimal_digits (fixed + 1) n) (sym value)
    ∙ ap (λ w. decimal_digits w (number_from_digits 10 digits)) (sym count)
    ∙ decimal_digits-number_from_digits digits are

pub few_digits : (fixed number : ℕ) → fixed < 8 → number < 10 ^ fixed → number < 10000000
few_digits fixed number few fits =
    let top : 10 ^ fixed ≤ 10 ^ 7 = pow-le-pow_right {n = 10} (omega arith) {i = fixed} {j = 7} (omega arith) in omega arith

pub IsBranch-child : (mask next : MaskParts) (number fixed place digit : ℕ) → IsBranch mask number fixed → fixed < 8 → digit < 10 → place ≡ fixed
    → next ≡ with_digit mask place digit → IsBranch next (number * 10 + digit) (fixed + 1)
IsBranch-child mask next number fixed place digit is few small same by =
    let wide : 10 ^ (fixed + 1) ≡ 10 ^ fixed * 10 = ap (λ n. 10 ^ n) (add-one fixed) ∙ pow-suc 10 fixed in
    let count : length (decimal_digits fixed number) ≡ fixed = length-decimal_digits fixed number in
    record {
      fits = omega (arith, is.fits);
      few = omega arith;
      mask_back = sym (by ∙ ap (λ p. with_digit mask p digit) same ∙ ap (λ m. with_digit m fixed digit) (sym is.mask_back)
          ∙ ap (λ p. with_digit (mask_of_digits (decimal_digits fixed number)) p digit) (sym count)
          ∙ with_digit-mask_of_digits (decimal_digits fixed number) (7 - fixed) digit (omega arith)
          ∙ ap mask_of_digits (sym (decimal_digits-push fixed number digit is.fits small)));
      number_back = number_from_digits-decimal_digits (fixed + 1) (number * 10 + digit) (omega (arith, is.fits));
      fixed_back = length-decimal_digits (fixed + 1) (number * 10 + digit);
    }
