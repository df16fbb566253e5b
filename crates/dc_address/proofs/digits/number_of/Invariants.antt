use Rattle.std.proofs.Common.{◌≡◌, ◌<◌, ◌^◌, ℕ, List, true, take}
use Rattle.std.specs.List.{list_all}
use Rattle.std.specs.Int.Digits.{number_from_digits}
use Rattle.dc_address.specs.Digits.{is_digit}
use Rattle.dc_address.proofs.digits.number_of.Given as goal

-- the digits so far are digits, and the number is theirs
pub record SoFar (digits : List ℕ) (count number : ℕ) : Type 0 where
  pub are : list_all is_digit (take count digits) ≡ true
  pub value : number ≡ number_from_digits 10 (take count digits)
  pub fits : number < 10 ^ count

abbrev pub invariant-loop-digit : goal.invariant-loop-digit
invariant-loop-digit l = SoFar l.digits l.digit-index l.number
