-- A number contains no space.
use Rattle.std.specs.Prelude.{◌≡◌, ◌≢◌, ℕ, ◌<◌, not, length}
use Rattle.std.specs.Fmt.{decimal}
use Rattle.std.proofs.Common.{◌^◌, true, get_or, ap, arith}
use Rattle.std.proofs.lemmas.Bool.{ne_eqb}
use Rattle.std.proofs.lemmas.Fmt.{decimal_is_IsNumeral}
use Rattle.std.proofs.lemmas.Grind.{common_steps}
use Rattle.std.proofs.lemmas.List.Sums.{list_all-from_AllPass}
use Rattle.std.proofs.lemmas.Str.Parse.{digit_at}
use Rattle.mbdc_change.specs.Words.{IsWord, is_inside}

decimal_byte : (number k : ℕ) (d : ℕ) → number < 2 ^ 64 → k < length (decimal number) → is_inside (get_or (decimal number) k d) ≡ true
decimal_byte number k d fits below =
    let digit = digit_at (decimal number) k (decimal_is_IsNumeral number fits).0.1 below in
    let same : get_or (decimal number) k d ≡ get_or (decimal number) k 0 = grind (arith, common_steps) in
    let other : get_or (decimal number) k d ≢ 32 = λ space. omega (arith, digit) in
    ap not (ne_eqb _ 32 other)

pub decimal_is_word : (number : ℕ) → number < 10 ^ 18 → IsWord (decimal number)
decimal_is_word number fits = list_all-from_AllPass is_inside (decimal number) (λ k d below. decimal_byte number k d (omega arith) below)
