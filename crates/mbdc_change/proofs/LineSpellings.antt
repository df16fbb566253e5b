-- The first space of a text, and numbers as their digits.
use Rattle.std.proofs.Common.{◌≡◌, ◌≢◌, ℕ, ◌+◌, ◌/◌, ◌%◌, ◌<◌, ◌≤◌, ◌^◌, Bool, true, not, cond, List, [], ◌∷◌, ◌++◌, length, length-append, length-take, map, drop-cons, take-append-drop, take, drop, get_or, eqb-true, Option, None, Some, refl, sym, ap, subst, ◌∙◌, arith, suc, zero, codes}
use Rattle.std.proofs.lemmas.Bool.{and_parts, and_from, lt-ltb, ne_eqb}
use Rattle.std.proofs.lemmas.Bool.Decides.{nat_tests}
use Rattle.std.proofs.lemmas.Grind.{common_steps}
use Rattle.std.specs.Prelude.{Result, Ok, nat_lt}
use Rattle.std.specs.List.{position, position_or_len, AllPass, prefix_len, list_all}
use Rattle.std.specs.Fmt.{decimal}
use Rattle.std.specs.Str.{IsUtf8}
use Rattle.std.specs.Str.Parse.{AllDigits, digits_value, ParsesUnsigned}
use Rattle.std.proofs.lemmas.Fmt.{decimal_injective, decimal_is_IsNumeral, length-decimal-le, decimal_digit, decimal-digits_value, first_decimal, IsAscii-decimal, parse-decimal}
use Rattle.std.proofs.lemmas.Str.{IsUtf8-from_ascii}
use Rattle.std.proofs.lemmas.Str.Parse.{IsNumeralModel, numerals_by_value, tells_digits, digit_at, parse_plain}
use Rattle.std.proofs.lemmas.List.Sums.{fails_before_first, passes_at_first, list_all-from_AllPass}
use Rattle.std.proofs.lemmas.List.Folds.{list_all-append}
use Rattle.std.proofs.Math.Seq.{take-append_seam, drop-append_seam}
use Rattle.mbdc_change.specs.Words.{IsWord, BeginsNumber, is_space, is_inside}
use Rattle.mbdc_change.proofs.Decimals.{decimal_is_word}
use Rattle.dc_address.specs.Digits.{decimal_digits}
use Rattle.dc_address.specs.Maker.{first_letter, second_letter, third_letter}
use Rattle.dc_address.specs.Text.{text_of, decimal_code, hex_code}
use Rattle.dc_address.proofs.Texts.{same_from_text, text_rest}
use Rattle.dc_address.specs.declared.identity.Identity.{Identity}
use Rattle.mbdc_change.specs.Fields.{IsOfBytes, address_word}
use Rattle.mbdc_change.specs.Fields.{IsAddress, IsBusLine, IsNumber}

-- ---- numbers

digits_are : IsNumeralModel (AllDigits 10) (digits_value 10)
digits_are = numerals_by_value (AllDigits 10) tells_digits

lone_zero : (number : ℕ) → number < 2 ^ 64 → get_or (decimal number) 0 0 ≡ 48 → length (decimal number) ≡ 1
lone_zero zero fits is_zero = ap length (decimal_digit 0 (omega arith))
lone_zero (suc n) fits is_zero = absurd (omega (arith, first_decimal (suc n) (omega arith) fits))

decimal_begins : (number : ℕ) → number < 2 ^ 64 → BeginsNumber (decimal number)
decimal_begins number fits =
    let digits = decimal_is_IsNumeral number fits in
    record {
      some = digits.0.0;
      unsigned = λ plus. omega (arith, digit_at (decimal number) 0 digits.0.1 digits.0.0);
      alone = lone_zero number fits;
    }

pub number_begins : (word : List ℕ) (number : ℕ) → number < 10 ^ 18 → word ≡ decimal number → BeginsNumber word
number_begins word number fits is = subst BeginsNumber (sym is) (decimal_begins number (omega arith))

pub number_is_text : (word : List ℕ) (number : ℕ) → number < 10 ^ 18 → word ≡ decimal number → IsUtf8 word
number_is_text word number fits is = subst IsUtf8 (sym is) (IsUtf8-from_ascii (decimal number) (IsAscii-decimal number (omega arith)))

-- what std's `parse` says of a word that spells a number, and of one that begins as a number does
pub number_parsed : {E : Type 0} (word text : List ℕ) (number : ℕ) (parsed : Result ℕ E) → number < 10 ^ 18 → word ≡ decimal number
    → text ≡ word → ParsesUnsigned 64 10 text parsed → parsed ≡ Ok number
number_parsed word text number parsed fits is same parses =
    parse-decimal 64 number text parsed (omega arith) (omega arith) (same ∙ is) parses

pub number_read : {E : Type 0} (word text : List ℕ) (number : ℕ) (parsed : Result ℕ E) → BeginsNumber word
    → text ≡ word → ParsesUnsigned 64 10 text parsed → parsed ≡ Ok number → word ≡ decimal number
number_read {E} word text number parsed begins same parses is =
    let plain : ParsesUnsigned {E = E} 64 10 word (Ok number) = subst (λ r. ParsesUnsigned 64 10 word r) is (subst (λ t. ParsesUnsigned 64 10 t parsed) same parses) in
    let read = parse_plain digits_are {E = E} 64 word (Ok number) plain begins.unsigned in
    sym (ap decimal read.1 ∙ decimal-digits_value digits_are word read.0.0 read.0.1 begins.alone read.0.2)

-- ---- words

word_ends_at_space : (word rest : List ℕ) → IsWord word → prefix_len is_inside (word ++ 32 ∷ rest) ≡ length word
word_ends_at_space [] rest is = refl
word_ends_at_space (byte ∷ word) rest is =
    let parts = and_parts (is_inside byte) (list_all is_inside word) is in
    ap (λ (test : Bool). cond test (1 + prefix_len is_inside (word ++ 32 ∷ rest)) 0) parts.0
    ∙ omega (arith, word_ends_at_space word rest parts.1)

-- a word with a space after it ends at the text's first space
pub first_space_ends : (text word rest : List ℕ) → IsWord word → text ≡ word ++ 32 ∷ rest → position is_space text ≡ Some (length word)
first_space_ends text word rest is whole =
    let ends : prefix_len is_inside (word ++ 32 ∷ rest) ≡ length word = word_ends_at_space word rest is in
    let below : prefix_len is_inside (word ++ 32 ∷ rest) < length (word ++ 32 ∷ rest) = omega (arith, length-append word (32 ∷ rest)) in
    subst (λ t. position is_space t ≡ Some (length word)) (sym whole)
    (ap (λ (test : Bool). cond test (Some (prefix_len is_inside (word ++ 32 ∷ rest))) None) (lt-ltb _ _ below) ∙ ap Some ends)

-- the text before the first space, and the text after it
pub record PartsAt (space : ℕ) (text : List ℕ) : Type 0 where
  pub is_word : IsWord (take space text)
  pub whole : text ≡ take space text ++ 32 ∷ drop 1 (drop space text)

placed : (n len space : ℕ) → cond (nat_lt n len) (Some n) None ≡ Some space → (n < len) × (n ≡ space)
placed n len space is = grind (arith, nat_tests)

starts : (text : List ℕ) (space : ℕ) → space < length text → get_or text space 0 ≡ 32 → drop space text ≡ 32 ∷ drop 1 (drop space text)
starts text space below byte =
    let front : drop space text ≡ 32 ∷ drop (suc space) text = drop-cons text space 0 below ∙ rw byte refl in
    front ∙ ap (λ (back : List ℕ). 32 ∷ back) (sym (ap (drop 1) front))

pub parts_at : (text : List ℕ) (space : ℕ) → position is_space text ≡ Some space → PartsAt space text
parts_at text space is =
    let place = placed (position_or_len is_space text) (length text) space is in
    let byte : get_or text space 0 ≡ 32 = eqb-true _ _ (subst (λ n. is_space (get_or text n 0) ≡ true) place.1 (passes_at_first is_space text 0 place.0)) in
    let below : space < length text = omega arith in
    let inside : AllPass is_inside (take space text) = λ k d low.
    let fails = fails_before_first is_space text k d (omega (arith, length-take space text)) in
    let same : get_or (take space text) k d ≡ get_or text k d = grind (arith, common_steps) in
    rw same (ap not fails) in
    record {
      is_word = list_all-from_AllPass is_inside (take space text) inside;
      whole = sym (take-append-drop space text) ∙ ap (λ (back : List ℕ). take space text ++ back) (starts text space below byte);
    }

-- there is one such pair of parts
pub same_parts : (text word rest : List ℕ) (space : ℕ) → position is_space text ≡ Some space → IsWord word → text ≡ word ++ 32 ∷ rest
    → (take space text ≡ word) × (drop 1 (drop space text) ≡ rest)
same_parts text word rest space is is_word whole =
    let ends : Some (length word) ≡ Some space = sym (first_space_ends text word rest is_word whole) ∙ is in
    let place : space ≡ length word = cc in
    rw (whole, place) (take-append_seam word (32 ∷ rest), ap (drop 1) (drop-append_seam word (32 ∷ rest)))

-- a text has one first word
pub one_word : (word other rest more : List ℕ) → IsWord word → IsWord other → word ++ 32 ∷ rest ≡ other ++ 32 ∷ more → (word ≡ other) × (rest ≡ more)
one_word word other rest more is is_other same =
    let ends = first_space_ends (word ++ 32 ∷ rest) word rest is refl in
    let parts = same_parts (word ++ 32 ∷ rest) word rest (length word) ends is refl in
    let others = same_parts (word ++ 32 ∷ rest) other more (length word) ends is_other same in
    (sym parts.0 ∙ others.0, sym parts.1 ∙ others.1)

above_space : (code : ℕ) → 32 < code → is_inside code ≡ true
above_space code above = let other : code ≢ 32 = omega arith in ap not (ne_eqb code 32 other)

digits_inside : (digits : List ℕ) → list_all is_inside (map decimal_code digits) ≡ true
digits_inside [] = refl
digits_inside (digit ∷ digits) = and_from _ _ (above_space (48 + digit) (omega arith)) (digits_inside digits)

hex_inside : (digit : ℕ) → is_inside (hex_code digit) ≡ true
hex_inside digit = above_space (hex_code digit) (grind (arith, nat_tests))

rest_inside : (meter : Identity) → list_all is_inside (text_rest meter) ≡ true
rest_inside meter =
    and_from _ _ (above_space (first_letter meter.maker) (omega arith))
    (and_from _ _ (above_space (second_letter meter.maker) (omega arith))
    (and_from _ _ (above_space (third_letter meter.maker) (omega arith))
    (and_from _ _ (hex_inside (meter.version / 16))
    (and_from _ _ (hex_inside (meter.version % 16))
    (and_from _ _ (hex_inside (meter.kind / 16))
    (and_from _ _ (hex_inside (meter.kind % 16)) refl))))))

pub meter_is_word : (meter : Identity) → IsWord (text_of meter)
unfolding text_of
meter_is_word meter =
    list_all-append is_inside (map decimal_code (decimal_digits 8 meter.number)) (text_rest meter)
    ∙ and_from _ _ (digits_inside (decimal_digits 8 meter.number)) (rest_inside meter)

pub number_is_word : (number : ℕ) → IsNumber number → IsWord (decimal number)
number_is_word number is = decimal_is_word number is.high

pub line_is_word : (line : ℕ) → IsBusLine line → IsWord (decimal line)
line_is_word line is = decimal_is_word line (omega arith)

pub address_is_word : (address : Option ℕ) → IsAddress address → IsWord (address_word address)
address_is_word None is = refl
address_is_word (Some address) is = decimal_is_word address (omega arith)

-- what begins with S is the address of no number
pub s_is_secondary : (address : Option ℕ) (word : List ℕ) → get_or word 0 0 ≡ 83 → IsAddress address → word ≡ address_word address → address ≡ None
s_is_secondary None word s is spelled = refl
s_is_secondary (Some address) word s is spelled =
    let digits = decimal_is_IsNumeral address (omega arith) in
    let digit = digit_at (decimal address) 0 digits.0.1 digits.0.0 in
    let first : get_or (decimal address) 0 0 ≡ 83 = ap (λ (w : List ℕ). get_or w 0 0) (sym spelled) ∙ s in
    absurd (omega (arith, digit))

-- ---- lengths

pub number_len : (number : ℕ) → number < 10 ^ 18 → length (decimal number) ≤ 18
number_len number fits = length-decimal-le 18 number (omega arith) fits (omega arith)

pub address_len : (address : Option ℕ) → IsAddress address → length (address_word address) ≤ 3
address_len None is = omega arith
address_len (Some address) is = length-decimal-le 3 address (omega arith) (omega arith) (omega arith)

-- ---- words spell one value

pub one_meter : (meter other : Identity) → IsOfBytes meter → IsOfBytes other → text_of meter ≡ text_of other → meter ≡ other
one_meter meter other is is_other same =
    same_from_text (text_of other) meter other is.version is.kind is_other.version is_other.kind (sym same) refl

pub one_address : (address other : Option ℕ) → IsAddress address → IsAddress other → address_word address ≡ address_word other → address ≡ other
one_address None None is is_other same = refl
one_address None (Some other) is is_other same = sym (s_is_secondary (Some other) (codes "S") refl is_other same)
one_address (Some address) None is is_other same = s_is_secondary (Some address) (codes "S") refl is (sym same)
one_address (Some address) (Some other) is is_other same = ap Some (decimal_injective address other (omega arith) (omega arith) same)
