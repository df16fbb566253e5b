-- Printed identities: digits and their ASCII codes, and that a text spells one identity at most.
use Rattle.std.proofs.Common.{◌≡◌, ◌<◌, ◌≤◌, ℕ, suc, List, [], ◌∷◌, true, IsTrue, map, length, get_or, arith, ap, ◌∙◌, refl, nat_le, sym, length-append, drop}
use Rattle.std.proofs.lemmas.Bool.{and_parts, leb-true}
use Rattle.std.proofs.lemmas.Bool.Decides.{nat_tests}
use Rattle.std.specs.Char.{is_ascii_digit}
use Rattle.std.specs.List.{list_all}
use Rattle.dc_address.specs.Digits.{decimal_digits, is_digit}
use Rattle.dc_address.proofs.Decimals.{decimal_digits-are_digits, length-decimal_digits, same_from_decimal_digits}
use Rattle.dc_address.specs.Text.{code_value, decimal_code, hex_code, text_of, IsText}
use Rattle.std.specs.Prelude.{◌+◌, ◌-◌, ◌/◌, ◌%◌, take, slice_index}
use Rattle.std.proofs.Math.Seq.{take-append_seam, drop-append_seam}
use Rattle.std.proofs.lemmas.List.{length-map}
use Rattle.dc_address.specs.Maker.{first_letter, second_letter, third_letter, maker_code}
use Rattle.dc_address.proofs.Letters.{maker_code-letters}
use Rattle.dc_address.proofs.Identities.{same_identity}
use Rattle.dc_address.specs.declared.identity.Identity.{Identity}

abbrev pub text_rest : Identity → List ℕ
text_rest identity =
    46 ∷ first_letter identity.maker ∷ second_letter identity.maker ∷ third_letter identity.maker
    ∷ 46 ∷ hex_code (identity.version / 16) ∷ hex_code (identity.version % 16)
    ∷ 46 ∷ hex_code (identity.kind / 16) ∷ hex_code (identity.kind % 16) ∷ []

length-text_digits : (number : ℕ) → length (map decimal_code (decimal_digits 8 number)) ≡ 8
length-text_digits number = length-map (decimal_digits 8 number) decimal_code ∙ length-decimal_digits 8 number

pub take-text_of : (identity : Identity) → take 8 (text_of identity) ≡ map decimal_code (decimal_digits 8 identity.number)
unfolding text_of
take-text_of identity =
    let digits : List ℕ = map decimal_code (decimal_digits 8 identity.number) in
    ap (λ n. take n (text_of identity)) (sym (length-text_digits identity.number)) ∙ take-append_seam digits (text_rest identity)

pub drop-text_of : (identity : Identity) → drop 8 (text_of identity) ≡ text_rest identity
unfolding text_of
drop-text_of identity =
    let digits : List ℕ = map decimal_code (decimal_digits 8 identity.number) in
    ap (λ n. drop n (text_of identity)) (sym (length-text_digits identity.number)) ∙ drop-append_seam digits (text_rest identity)

pub length-text_of : (identity : Identity) → length (text_of identity) ≡ 18
unfolding text_of
length-text_of identity =
    length-append (map decimal_code (decimal_digits 8 identity.number)) (text_rest identity)
    ∙ omega (arith, length-text_digits identity.number)

digits_back : (digits : List ℕ) → map (λ code. code - 48) (map decimal_code digits) ≡ digits
digits_back [] = refl
digits_back (digit ∷ rest) =
    let back : (48 + digit) - 48 ≡ digit = omega arith in
    ap (λ d. d ∷ map (λ code. code - 48) (map decimal_code rest)) back ∙ ap (λ ds. digit ∷ ds) (digits_back rest)

same_from_hex_code : (a b : ℕ) → a < 16 → b < 16 → hex_code a ≡ hex_code b → a ≡ b
same_from_hex_code a b a_fits b_fits same = grind (arith, nat_tests)

same_byte : (a b : ℕ) → a < 256 → b < 256 → hex_code (a / 16) ≡ hex_code (b / 16) → hex_code (a % 16) ≡ hex_code (b % 16) → a ≡ b
same_byte a b a_fits b_fits high low =
    let highs : a / 16 ≡ b / 16 = same_from_hex_code (a / 16) (b / 16) (omega arith) (omega arith) high in
    let lows : a % 16 ≡ b % 16 = same_from_hex_code (a % 16) (b % 16) (omega arith) (omega arith) low in
    omega arith

-- a text spells one identity at most
pub same_from_text : (text : List ℕ) (a b : Identity) → a.version < 256 → a.kind < 256 → b.version < 256 → b.kind < 256
    → IsText text a → IsText text b → a ≡ b
same_from_text text a b a_version a_kind b_version b_kind is_a is_b =
    let same : text_of a ≡ text_of b = sym is_a ∙ is_b in
    let codes : map decimal_code (decimal_digits 8 a.number) ≡ map decimal_code (decimal_digits 8 b.number) =
    sym (take-text_of a) ∙ ap (take 8) same ∙ take-text_of b in
    let digits : decimal_digits 8 a.number ≡ decimal_digits 8 b.number =
    sym (digits_back (decimal_digits 8 a.number)) ∙ ap (map (λ code. code - 48)) codes ∙ digits_back (decimal_digits 8 b.number) in
    let rests : text_rest a ≡ text_rest b = sym (drop-text_of a) ∙ ap (drop 8) same ∙ drop-text_of b in
    let first : first_letter a.maker ≡ first_letter b.maker = ap (λ r. slice_index r 1) rests in
    let second : second_letter a.maker ≡ second_letter b.maker = ap (λ r. slice_index r 2) rests in
    let third : third_letter a.maker ≡ third_letter b.maker = ap (λ r. slice_index r 3) rests in
    same_identity a b
    (same_from_decimal_digits 8 a.number b.number a.has_eight_digits b.has_eight_digits digits)
    (sym (maker_code-letters a.maker)
    ∙ ap (λ l. maker_code l (second_letter a.maker) (third_letter a.maker)) first
    ∙ ap (λ l. maker_code (first_letter b.maker) l (third_letter a.maker)) second
    ∙ ap (λ l. maker_code (first_letter b.maker) (second_letter b.maker) l) third
    ∙ maker_code-letters b.maker)
    (same_byte a.version b.version a_version b_version (ap (λ r. slice_index r 5) rests) (ap (λ r. slice_index r 6) rests))
    (same_byte a.kind b.kind a_kind b_kind (ap (λ r. slice_index r 8) rests) (ap (λ r. slice_index r 9) rests))

pub codes : (digits : List ℕ) (number : ℕ) → digits ≡ decimal_digits 8 number → IsTrue (list_all is_digit digits)
codes digits number are = ap (list_all is_digit) are ∙ decimal_digits-are_digits 8 number

digit_test : (code : ℕ) → code < 256 → is_digit (code_value code) ≡ is_ascii_digit code
digit_test code byte = grind (arith, nat_tests)

digit_back : (code : ℕ) → is_ascii_digit code ≡ true → decimal_code (code_value code) ≡ code
digit_back code is =
    let parts = and_parts (nat_le 48 code) (nat_le code 57) is in
    let low : 48 ≤ code = leb-true _ _ parts.0 in
    let high : code ≤ 57 = leb-true _ _ parts.1 in
    omega arith

pub digits_from_codes : (codes : List ℕ) → ((i : ℕ) → get_or codes i 0 < 256) → list_all is_digit (map code_value codes) ≡ list_all is_ascii_digit codes
digits_from_codes [] bytes = refl
digits_from_codes (code ∷ rest) bytes = rw (digit_test code (bytes 0), digits_from_codes rest (λ i. bytes (suc i)))

pub codes_from_digits : (codes : List ℕ) → list_all is_ascii_digit codes ≡ true → map decimal_code (map code_value codes) ≡ codes
codes_from_digits [] are = refl
codes_from_digits (code ∷ rest) are =
    let parts = and_parts (is_ascii_digit code) (list_all is_ascii_digit rest) are in
    rw (digit_back code parts.0, codes_from_digits rest parts.1)
