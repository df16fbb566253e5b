-- Decimal digits of fixed width: a number is that of its digits, and packed ones are read back.
use Rattle.std.specs.Prelude.{◌≡◌, ℕ, zero, suc, ◌+◌, ◌*◌, ◌/◌, ◌%◌, ◌^◌, ◌<◌, true, ◌&&◌, List, [], ◌∷◌, ◌++◌, length, refl}
use Rattle.std.specs.List.{list_all}
use Rattle.std.specs.Int.Digits.{number_from_digits, number_from_digits_after, AllBelowBase}
use Rattle.std.proofs.Common.{ap, sym, ◌∙◌, arith, append_assoc, append-nil, length-append}
use Rattle.std.proofs.Math.Nat.{pow-suc, div-div-eq-div-mul, div-add-mod', div-one, mod-one, mod-eq_of_lt}
use Rattle.std.proofs.lemmas.Bool.{and_parts, and_from, ltb-true, lt-ltb}
use Rattle.std.proofs.lemmas.Nat.{div-mul-add, mod-mul-add}
use Rattle.std.proofs.lemmas.Int.Digits.{number_lt}
use Rattle.dc_address.specs.Digits.{decimal_digits, is_digit, is_nibble, packed_digits, unpacked_digits}

pub length-decimal_digits : (width number : ℕ) → length (decimal_digits width number) ≡ width
unfolding decimal_digits
length-decimal_digits zero number = refl
length-decimal_digits (suc width) number = ap suc (length-decimal_digits width number)

pub decimal_digits-are_digits : (width number : ℕ) → list_all is_digit (decimal_digits width number) ≡ true
unfolding decimal_digits
decimal_digits-are_digits zero number = refl
decimal_digits-are_digits (suc width) number =
    and_from _ _ (lt-ltb (number / 10 ^ width % 10) 10 (omega arith)) (decimal_digits-are_digits width number)

-- the number that digits write after those of another number, without them, is that number
pub number_from_digits_after-div : (before : ℕ) (digits : List ℕ) → list_all is_digit digits ≡ true
    → number_from_digits_after 10 before digits / 10 ^ length digits ≡ before
number_from_digits_after-div before [] are = div-one before
number_from_digits_after-div before (digit ∷ rest) are =
    let parts = and_parts _ _ are in
    let small : digit < 10 = ltb-true _ _ parts.0 in
    let whole : ℕ = number_from_digits_after 10 (before * 10 + digit) rest in
    ap (λ power. whole / power) (pow-suc 10 (length rest))
    ∙ sym (div-div-eq-div-mul whole (10 ^ length rest) 10)
    ∙ ap (λ n. n / 10) (number_from_digits_after-div (before * 10 + digit) rest parts.1)
    ∙ div-mul-add before 10 digit small

pub decimal_digits-number_from_digits_after : (before : ℕ) (digits : List ℕ) → list_all is_digit digits ≡ true
    → decimal_digits (length digits) (number_from_digits_after 10 before digits) ≡ digits
unfolding decimal_digits
decimal_digits-number_from_digits_after before [] are = refl
decimal_digits-number_from_digits_after before (digit ∷ rest) are =
    let parts = and_parts _ _ are in
    let small : digit < 10 = ltb-true _ _ parts.0 in
    let front = ap (λ n. n % 10) (number_from_digits_after-div (before * 10 + digit) rest parts.1) ∙ mod-mul-add before 10 digit small in
    rw (front, decimal_digits-number_from_digits_after (before * 10 + digit) rest parts.1)

-- digits are those of the number that they write
pub decimal_digits-number_from_digits : (digits : List ℕ) → list_all is_digit digits ≡ true
    → decimal_digits (length digits) (number_from_digits 10 digits) ≡ digits
decimal_digits-number_from_digits digits are = decimal_digits-number_from_digits_after 0 digits are

-- n is x * p + r, and x is q * 10 + d
low_part : (n p x q d r s m : ℕ) → x * p + r ≡ n → q * 10 + d ≡ x → q * (p * 10) + s ≡ n → (m * 10 + d) * p + r ≡ m * (p * 10) + s
low_part n p x q d r s m whole split low =
    let split_whole : (q * 10 + d) * p + r ≡ n = ap (λ y. y * p + r) split ∙ whole in omega arith

pub number_from_digits_after-decimal_digits : (before width number : ℕ)
    → number_from_digits_after 10 before (decimal_digits width number) ≡ before * 10 ^ width + number % 10 ^ width
unfolding decimal_digits
number_from_digits_after-decimal_digits before zero number = let e = mod-one number in omega arith
number_from_digits_after-decimal_digits before (suc width) number =
    let power : ℕ = 10 ^ width in
    let above : ℕ = number / power in
    let parts = low_part number power above (number / (power * 10)) (above % 10) (number % power) (number % (power * 10)) before
    (div-add-mod' number power)
    (ap (λ q. q * 10 + above % 10) (sym (div-div-eq-div-mul number power 10)) ∙ div-add-mod' above 10)
    (div-add-mod' number (power * 10)) in
    number_from_digits_after-decimal_digits (before * 10 + above % 10) width number ∙ parts
    ∙ ap (λ p. before * p + number % p) (sym (pow-suc 10 width))

-- the number that a number's digits write
pub number_from_digits-decimal_digits : (width number : ℕ) → number < 10 ^ width
    → number_from_digits 10 (decimal_digits width number) ≡ number
number_from_digits-decimal_digits width number fits =
    number_from_digits_after-decimal_digits 0 width number ∙ omega (arith, mod-eq_of_lt fits)

-- equal digits are of one number
pub same_from_decimal_digits : (width a b : ℕ) → a < 10 ^ width → b < 10 ^ width
    → decimal_digits width a ≡ decimal_digits width b → a ≡ b
same_from_decimal_digits width a b a_fits b_fits same =
    sym (number_from_digits-decimal_digits width a a_fits)
    ∙ ap (number_from_digits 10) same
    ∙ number_from_digits-decimal_digits width b b_fits

pub AllBelowBase-digits : (digits : List ℕ) → list_all is_digit digits ≡ true → AllBelowBase 10 digits
AllBelowBase-digits [] are = tt
AllBelowBase-digits (digit ∷ rest) are =
    let parts = and_parts _ _ are in (ltb-true digit 10 parts.0, AllBelowBase-digits rest parts.1)

pub number_from_digits-lt : (digits : List ℕ) → list_all is_digit digits ≡ true
    → number_from_digits 10 digits < 10 ^ length digits
number_from_digits-lt digits are = number_lt 10 digits (AllBelowBase-digits digits are)

-- ---- laws of digits in bytes

pub length-unpacked_digits : (bytes : List ℕ) → length (unpacked_digits bytes) ≡ 2 * length bytes
length-unpacked_digits [] = refl
length-unpacked_digits (byte ∷ rest) =
    length-append (unpacked_digits rest) (byte / 16 ∷ byte % 16 ∷ []) ∙ omega (arith, length-unpacked_digits rest)

pub length-packed_digits : (pairs : ℕ) (digits : List ℕ) → length digits ≡ 2 * pairs → length (packed_digits digits) ≡ pairs
length-packed_digits zero [] even = refl
length-packed_digits zero (x ∷ xs) even = absurd (omega arith)
length-packed_digits (suc pairs) [] even = absurd (omega arith)
length-packed_digits (suc pairs) (x ∷ []) even = absurd (omega arith)
length-packed_digits (suc pairs) (high ∷ low ∷ rest) even =
    length-append (packed_digits rest) ((16 * high + low) ∷ []) ∙ omega (arith, length-packed_digits pairs rest (omega arith))

pub unpacked_digits-append : (xs ys : List ℕ) → unpacked_digits (xs ++ ys) ≡ unpacked_digits ys ++ unpacked_digits xs
unpacked_digits-append [] ys = grind (arith, append-nil)
unpacked_digits-append (byte ∷ rest) ys =
    ap (λ digits. digits ++ byte / 16 ∷ byte % 16 ∷ []) (unpacked_digits-append rest ys)
    ∙ append_assoc (unpacked_digits ys) (unpacked_digits rest) (byte / 16 ∷ byte % 16 ∷ [])

pub packed_digits-append : (pairs : ℕ) (xs ys : List ℕ) → length xs ≡ 2 * pairs
    → packed_digits (xs ++ ys) ≡ packed_digits ys ++ packed_digits xs
packed_digits-append zero [] ys even = grind (arith, append-nil)
packed_digits-append zero (x ∷ xs) ys even = absurd (omega arith)
packed_digits-append (suc pairs) [] ys even = absurd (omega arith)
packed_digits-append (suc pairs) (x ∷ []) ys even = absurd (omega arith)
packed_digits-append (suc pairs) (high ∷ low ∷ rest) ys even =
    ap (λ bytes. bytes ++ (16 * high + low) ∷ []) (packed_digits-append pairs rest ys (omega arith))
    ∙ append_assoc (packed_digits ys) (packed_digits rest) ((16 * high + low) ∷ [])

-- the halves of bytes, packed, are the bytes
pub packed_digits-unpacked_digits : (bytes : List ℕ) → packed_digits (unpacked_digits bytes) ≡ bytes
packed_digits-unpacked_digits [] = refl
packed_digits-unpacked_digits (byte ∷ rest) =
    let whole : 16 * (byte / 16) + byte % 16 ≡ byte = omega arith in
    packed_digits-append (length rest) (unpacked_digits rest) (byte / 16 ∷ byte % 16 ∷ []) (length-unpacked_digits rest)
    ∙ ap (λ b. b ∷ packed_digits (unpacked_digits rest)) whole
    ∙ ap (λ bytes. byte ∷ bytes) (packed_digits-unpacked_digits rest)

-- packed digits, halved again, are the digits
pub unpacked_digits-packed_digits : (pairs : ℕ) (digits : List ℕ) → length digits ≡ 2 * pairs → list_all is_nibble digits ≡ true
    → unpacked_digits (packed_digits digits) ≡ digits
unpacked_digits-packed_digits zero [] even are = refl
unpacked_digits-packed_digits zero (x ∷ xs) even are = absurd (omega arith)
unpacked_digits-packed_digits (suc pairs) [] even are = absurd (omega arith)
unpacked_digits-packed_digits (suc pairs) (x ∷ []) even are = absurd (omega arith)
unpacked_digits-packed_digits (suc pairs) (high ∷ low ∷ rest) even are =
    let first = and_parts (is_nibble high) (is_nibble low && list_all is_nibble rest) are in
    let second = and_parts (is_nibble low) (list_all is_nibble rest) first.1 in
    let small : low < 16 = ltb-true _ _ second.0 in
    let upper : (16 * high + low) / 16 ≡ high = omega arith in
    let lower : (16 * high + low) % 16 ≡ low = omega arith in
    unpacked_digits-append (packed_digits rest) ((16 * high + low) ∷ [])
    ∙ ap (λ h. h ∷ (16 * high + low) % 16 ∷ unpacked_digits (packed_digits rest)) upper
    ∙ ap (λ l. high ∷ l ∷ unpacked_digits (packed_digits rest)) lower
    ∙ ap (λ ds. high ∷ low ∷ ds) (unpacked_digits-packed_digits pairs rest (omega arith) second.1)

pub nibbles_from_digits : (digits : List ℕ) → list_all is_digit digits ≡ true → list_all is_nibble digits ≡ true
nibbles_from_digits [] are = refl
nibbles_from_digits (digit ∷ rest) are =
    let parts = and_parts _ _ are in
    let small : digit < 10 = ltb-true _ _ parts.0 in
    and_from _ _ (lt-ltb digit 16 (omega arith)) (nibbles_from_digits rest parts.1)
