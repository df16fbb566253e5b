-- Hex digits need no escape, and what one byte more of a text adds.
use Rattle.std.proofs.Common.{◌≡◌, ℕ, suc, ◌+◌, ◌/◌, ◌%◌, ◌<◌, List, [], ◌∷◌, ◌++◌, length, take, get_or, refl, ap, ◌∙◌, arith, append-nil}
use Rattle.std.proofs.lemmas.Bool.Decides.{nat_tests}
use Rattle.std.proofs.lemmas.Grind.{common_steps}
use Rattle.std.proofs.lemmas.List.Concat.{flat_map-append}
use Rattle.json.specs.Print.{escape, escape_byte}
use Rattle.json.proofs.Printed.Strings.{escape_byte_plain}
use Rattle.mbdc_io.specs.Hex.{upper_digit, upper_pair, upper_hex}

pub escape_of_one_more : (text : List ℕ) (i : ℕ) → i < length text → escape (take (i + 1) text) ≡ escape (take i text) ++ escape_byte (get_or text i 0)
escape_of_one_more text i below =
    let more : take (i + 1) text ≡ take i text ++ (get_or text i 0 ∷ []) = grind (arith, common_steps) in
    rw (more, flat_map-append escape_byte (take i text) (get_or text i 0 ∷ [])) (ap (λ (t : List ℕ). escape (take i text) ++ t) (append-nil (escape_byte (get_or text i 0))))

digit_escaped : (n : ℕ) → n < 16 → escape_byte (upper_digit n) ≡ upper_digit n ∷ []
digit_escaped n below = escape_byte_plain (upper_digit n) (grind (arith, nat_tests)) (grind (arith, nat_tests)) (grind (arith, nat_tests))

pub hex_escaped : (bytes : List ℕ) → ((i : ℕ) → get_or bytes i 0 < 256) → escape (upper_hex bytes) ≡ upper_hex bytes
unfolding upper_hex
hex_escaped [] small = refl
hex_escaped (b ∷ bytes) small =
    let high : b / 16 < 16 = omega (arith, small 0) in
    let low : b % 16 < 16 = omega arith in
    ap (λ (s : List ℕ). s ++ (escape_byte (upper_digit (b % 16)) ++ escape (upper_hex bytes))) (digit_escaped (b / 16) high)
    ∙ ap (λ (s : List ℕ). upper_digit (b / 16) ∷ (s ++ escape (upper_hex bytes))) (digit_escaped (b % 16) low)
    ∙ ap (λ (s : List ℕ). upper_pair b ++ s) (hex_escaped bytes (λ i. small (suc i)))
