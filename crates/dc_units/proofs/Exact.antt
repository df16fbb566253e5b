-- The digits of a printed number are the number again.
use Rattle.std.proofs.Common.{◌≡◌, ℕ, zero, suc, ◌+◌, ◌/◌, ◌%◌, ◌^◌, ◌<◌, true, List, [], ◌∷◌, ◌++◌, length, refl, ap, sym, ◌∙◌, append_assoc, append-nil, length-append, arith}
use Rattle.std.specs.Prelude.{decimal}
use Rattle.std.specs.Fmt.{digit_glyph}
use Rattle.std.specs.Char.{digit_value}
use Rattle.std.specs.Str.Parse.{digits_value}
use Rattle.std.proofs.Math.Nat.{div-div-eq-div-mul, pow-succ', div-le_self, div-one}
use Rattle.std.proofs.lemmas.Bool.{lt-ltb}
use Rattle.std.proofs.lemmas.Bool.Decides.{nat_tests}
use Rattle.std.proofs.lemmas.Fmt.{decimal_is_IsNumeral}
use Rattle.std.proofs.lemmas.Int.Digits.{digits_value_push}
use Rattle.dc_units.specs.Text.{last_digits}

pub length-last_digits : (base count n : ℕ) → length (last_digits base count n) ≡ count
unfolding last_digits
length-last_digits base zero n = refl
length-last_digits base (suc count) n =
    length-append (last_digits base count (n / base)) (digit_glyph true (n % base) ∷ [])
    ∙ (let shorter = length-last_digits base count (n / base) in omega (arith, shorter))

value_below : (d : ℕ) → d < 10 → digit_value (48 + d) ≡ d
value_below d low = grind (arith, nat_tests)

digit_back : (d : ℕ) → d < 10 → digit_value (digit_glyph true d) ≡ d
digit_back d low = let small = lt-ltb d 10 low in rw small (value_below d low)

pub digits_back : (places n : ℕ) → n < 2 ^ 64 → digits_value 10 (decimal (n / 10 ^ places) ++ last_digits 10 places n) ≡ n
unfolding last_digits
digits_back zero n fits =
    ap (λ (ds : List ℕ). digits_value 10 ds) (append-nil (decimal (n / 1)) ∙ ap decimal (div-one n)) ∙ (decimal_is_IsNumeral n fits).1
digits_back (suc places) n fits =
    let smaller : n / 10 < 2 ^ 64 = omega (arith, div-le_self n 10) in
    let back = digits_back places (n / 10) smaller in
    let power : n / 10 ^ suc places ≡ n / 10 / 10 ^ places =
    ap (λ (m : ℕ). n / m) (pow-succ' 10 places) ∙ sym (div-div-eq-div-mul n 10 (10 ^ places)) in
    let last = digit_back (n % 10) (omega arith) in
    ap (λ (m : ℕ). digits_value 10 (decimal m ++ (last_digits 10 places (n / 10) ++ (digit_glyph true (n % 10) ∷ [])))) power
    ∙ ap (λ (ds : List ℕ). digits_value 10 ds)
    (sym (append_assoc (decimal (n / 10 / 10 ^ places)) (last_digits 10 places (n / 10)) (digit_glyph true (n % 10) ∷ [])))
    ∙ digits_value_push 10 (decimal (n / 10 / 10 ^ places) ++ last_digits 10 places (n / 10)) (digit_glyph true (n % 10))
    ∙ omega (arith, back, last)
