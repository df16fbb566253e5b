-- Eight digits fit: before the last one the number is below 10^7.
use Rattle.std.proofs.Common.{◌≡◌, ◌<◌, ◌≤◌, ◌^◌, ◌+◌, ◌*◌, ℕ, List, length, get_or, arith, ap, sym, ◌∙◌, add-one}
use Rattle.std.proofs.Math.Nat.{pow-le-pow_right, pow-suc}
use Rattle.std.proofs.lemmas.Bool.{and_from, lt-ltb}
use Rattle.std.proofs.lemmas.List.Folds.{list_all_more}
use Rattle.std.proofs.lemmas.Int.Digits.{number_more}
use Rattle.dc_address.specs.Digits.{is_digit}
use Rattle.dc_address.proofs.digits.number_of.Invariants.{SoFar}
use Rattle.dc_address.proofs.digits.number_of.Goals as goal

below : (count number : ℕ) → count < 8 → number < 10 ^ count → number < 10000000
below count number few fits = let top : 10 ^ count ≤ 10 ^ 7 = pow-le-pow_right {n = 10} (omega arith) {i = count} {j = 7} (omega arith) in omega arith

more : (digits : List ℕ) (count number : ℕ) → count < length digits → get_or digits count 0 < 10
    → SoFar digits count number → SoFar digits (count + 1) (number * 10 + get_or digits count 0)
more digits count number within digit so = record {
  are = list_all_more is_digit digits count 0 within ∙ and_from _ _ so.are (lt-ltb (get_or digits count 0) 10 digit);
  value = ap (λ n. n * 10 + get_or digits count 0) so.value ∙ sym (number_more 10 digits count within);
  fits = let wide : 10 ^ (count + 1) ≡ 10 ^ count * 10 = ap (λ n. 10 ^ n) (add-one count) ∙ pow-suc 10 count in let here : number < 10 ^ count = so.fits in omega arith;
}

pub overflow_mul-number : goal.overflow_mul-number
overflow_mul-number c =
    let small : c.loop-digit.number < 10000000 = below c.loop-digit.digit-index c.loop-digit.number c.loop-digit-test.true c.loop-digit.invariant.fits in omega arith

pub overflow_add-number : goal.overflow_add-number
overflow_add-number c =
    let small : c.loop-digit.number < 10000000 = below c.loop-digit.digit-index c.loop-digit.number c.loop-digit-test.true c.loop-digit.invariant.fits in omega arith

pub loop-digit-preserved : goal.loop-digit-preserved
loop-digit-preserved c =
    rw c.from.ensures (more c.args.digits.now c.loop-digit.digit-index c.loop-digit.number (omega (arith, c.told-digits, c.loop-digit-test.true)) (omega (arith, c.if-digit-gt9.false)) c.loop-digit.invariant)
