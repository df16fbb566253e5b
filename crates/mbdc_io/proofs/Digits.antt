-- Bytes in hex digits, one byte more.
use Rattle.std.proofs.Common.{◌≡◌, ℕ, ◌+◌, ◌*◌, ◌/◌, ◌%◌, ◌<◌, ◌∙◌, Option, Some, List, [], ◌∷◌, ◌++◌, length, take, drop, set, get_or, refl, sym, ap, arith, append-nil}
use Rattle.std.proofs.lemmas.Grind.{common_steps}
use Rattle.std.proofs.lemmas.List.Concat.{flat_map-append}
use Rattle.std.proofs.lemmas.Bool.Decides.{nat_tests}
use Rattle.std.specs.Io.KnownBytes.{prepend_known}
use Rattle.std.specs.List.{AllByRecursion}
use Rattle.std.specs.Prelude.{codes}
use Rattle.mbdc_io.specs.Hex.{digit_value, pair_value, onto_bytes, bytes_of, upper_digit, upper_pair, upper_hex}
use Rattle.mbdc_io.specs.Words.{byte_word, hex_word}

pub hex_of_none : upper_hex [] ≡ []
unfolding upper_hex
hex_of_none = refl

pub hex_of_one_more : (bytes : List ℕ) (i : ℕ) → i < length bytes → upper_hex (take (i + 1) bytes) ≡ upper_hex (take i bytes) ++ upper_pair (get_or bytes i 0)
unfolding upper_hex
hex_of_one_more bytes i below =
    let more : take (i + 1) bytes ≡ take i bytes ++ (get_or bytes i 0 ∷ []) = grind (arith, common_steps) in
    rw (more, flat_map-append upper_pair (take i bytes) (get_or bytes i 0 ∷ [])) (ap (λ (t : List ℕ). upper_hex (take i bytes) ++ t) (append-nil (upper_pair (get_or bytes i 0))))

pub hex_of_rest : (bytes : List ℕ) (i : ℕ) → i < length bytes → upper_hex (take i bytes) ++ (upper_pair (get_or bytes i 0) ++ upper_hex (drop (i + 1) bytes)) ≡ upper_hex bytes
unfolding upper_hex
hex_of_rest bytes i below =
    let parts : bytes ≡ take i bytes ++ (get_or bytes i 0 ∷ drop (i + 1) bytes) = grind (arith, common_steps) in
    sym (ap upper_hex parts ∙ flat_map-append upper_pair (take i bytes) (get_or bytes i 0 ∷ drop (i + 1) bytes))

pub word_of_none : (bytes : List ℕ) → length bytes ≡ 0 → hex_word bytes ≡ codes " -"
unfolding hex_word
word_of_none [] none = refl
word_of_none (b ∷ bytes) none = absurd (omega arith)

pub word_of_some : (bytes : List ℕ) → 0 < length bytes → hex_word bytes ≡ codes " " ++ upper_hex bytes
unfolding hex_word
word_of_some [] some = absurd (omega arith)
word_of_some (b ∷ bytes) some = refl

pub word_of_one : (bytes : List ℕ) → length bytes ≡ 1 → hex_word bytes ≡ byte_word (get_or bytes 0 0)
unfolding hex_word upper_hex
word_of_one [] one = absurd (omega arith)
word_of_one (b ∷ []) one = refl
word_of_one (b ∷ c ∷ bytes) one = absurd (omega arith)

pub ruleset words = (word_of_none, word_of_some)

pub ruleset digits = (hex_of_none, hex_of_one_more)

digit_back : (n : ℕ) → n < 16 → digit_value (upper_digit n) ≡ Some n
digit_back n below = grind (arith, nat_tests)

pair_back : (b : ℕ) → b < 256 → pair_value (digit_value (upper_digit (b / 16))) (digit_value (upper_digit (b % 16))) ≡ Some b
pair_back b below =
    let high : b / 16 < 16 = omega arith in
    let low : b % 16 < 16 = omega arith in
    let whole : b / 16 * 16 + b % 16 ≡ b = omega arith in
    ap (λ (v : Option ℕ). pair_value v (digit_value (upper_digit (b % 16)))) (digit_back (b / 16) high)
    ∙ ap (pair_value (Some (b / 16))) (digit_back (b % 16) low) ∙ ap Some whole

pub read_back : (bytes : List ℕ) → AllByRecursion (λ b. b < 256) bytes → bytes_of (upper_hex bytes) ≡ Some bytes
unfolding bytes_of upper_hex
read_back [] small = refl
read_back (b ∷ bytes) small =
    ap (λ (v : Option ℕ). onto_bytes v (bytes_of (upper_hex bytes))) (pair_back b small.0)
    ∙ ap (prepend_known (b ∷ [])) (read_back bytes small.1)

-- one pair of digits more, after the first character
pub two_more : (text bytes : List ℕ) (i : ℕ) → i < length bytes → 2 * i + 2 < length text → take (2 * i + 1) text ≡ 32 ∷ upper_hex (take i bytes)
    → take (2 * (i + 1) + 1) (set (set text (2 * i + 1) (upper_digit (get_or bytes i 0 / 16))) (2 * i + 2) (upper_digit (get_or bytes i 0 % 16))) ≡ 32 ∷ upper_hex (take (i + 1) bytes)
two_more text bytes i below room before =
    let b : ℕ = get_or bytes i 0 in
    let wrote : take (2 * (i + 1) + 1) (set (set text (2 * i + 1) (upper_digit (b / 16))) (2 * i + 2) (upper_digit (b % 16))) ≡ take (2 * i + 1) text ++ upper_pair b = grind (arith, common_steps) in
    wrote ∙ ap (λ (t : List ℕ). t ++ upper_pair b) before ∙ ap (λ (t : List ℕ). 32 ∷ t) (sym (hex_of_one_more bytes i below))
