-- Powers of ten aren't 0, and the first 38 of them fit 128 bits.
use Rattle.std.proofs.Common.{ℕ, ◌^◌, ◌<◌, ◌≤◌, arith, lit<}
use Rattle.std.proofs.Math.Nat.{pow-le-pow_right}

pub power_some : (k : ℕ) → 0 < 10 ^ k
power_some k =
    let some : 0 < 10 = lit< tt in
    let none : 0 ≤ k = omega arith in
    let least : 10 ^ 0 ≤ 10 ^ k = pow-le-pow_right some none in
    omega (arith, least)

pub power_fits : (k : ℕ) → k ≤ 38 → 10 ^ k < 2 ^ 128
power_fits k few =
    let some : 0 < 10 = lit< tt in
    let most : 10 ^ k ≤ 10 ^ 38 = pow-le-pow_right some few in
    omega (arith, most)
