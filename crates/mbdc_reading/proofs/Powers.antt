-- There is room for digits behind nothing.
use Rattle.std.proofs.Common.{ℕ, ◌^◌, ◌<◌, ◌≤◌, arith, lit<}
use Rattle.std.proofs.Math.Nat.{pow-le-pow_right}

pub room_for_digits : (k : ℕ) → 0 < 100 ^ k
room_for_digits k =
    let some : 0 < 100 = lit< tt in
    let none : 0 ≤ k = omega arith in
    let least : 100 ^ 0 ≤ 100 ^ k = pow-le-pow_right some none in
    omega (arith, least)
