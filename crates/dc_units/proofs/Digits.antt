-- Packed BCD: room for two more digits.
use Rattle.std.proofs.Common.{◌≡◌, ℕ, suc, ◌+◌, ◌*◌, ◌^◌, ◌<◌, ◌≤◌, ap, ◌∙◌, arith, lit<}
use Rattle.std.proofs.Math.Nat.{pow-suc, pow-le-pow_right}

-- two more digits fit
pub fits_more : (n pair k : ℕ) → n < 100 ^ k → pair < 100 → 100 * n + pair < 100 ^ (k + 1)
fits_more n pair k low small =
    let one : k + 1 ≡ suc k = omega arith in
    let e : 100 ^ (k + 1) ≡ 100 ^ k * 100 = ap (λ (j : ℕ). 100 ^ j) one ∙ pow-suc 100 k in
    omega (arith, e)

pub power_le : (k m : ℕ) → k ≤ m → 100 ^ k ≤ 100 ^ m
power_le k m le = let some : 0 < 100 = lit< tt in pow-le-pow_right some le
