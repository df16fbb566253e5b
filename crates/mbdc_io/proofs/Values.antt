-- What the table of digits' values and the table of digits' pairs have at each place.
use Rattle.std.proofs.Common.{◌≡◌, ℕ, zero, suc, ◌+◌, ◌*◌, ◌/◌, ◌%◌, ◌<◌, ◌≤◌, Bool, true, false, ◌&&◌, List, [], ◌∷◌, length, get_or, Option, Some, None, refl, ap, sym, ◌∙◌, arith, add-zero, eqb-true}
use Rattle.std.specs.Prelude.{◌==◌, nat_lt, if◌then◌else◌}
use Rattle.std.proofs.lemmas.Bool.{and_parts}
use Rattle.mbdc_io.specs.declared.hex.TheConstants.{PAIRS, VALUES}
use Rattle.mbdc_io.specs.Hex.{digit_value, upper_digit}

-- the value that a place of the table stands for
abbrev pub value_from : ℕ → Option ℕ
value_from v = if nat_lt v 16 then Some v else None

abbrev same : Option ℕ → Option ℕ → Bool
same None None = true
same None (Some b) = false
same (Some a) None = false
same (Some a) (Some b) = a == b

is_same : (a b : Option ℕ) → same a b ≡ true → a ≡ b
is_same None None h = refl
is_same None (Some b) h = cc
is_same (Some a) None h = cc
is_same (Some a) (Some b) h = ap Some (eqb-true a b h)

-- the table agrees from a place on
abbrev agrees : ℕ → List ℕ → Bool
agrees k [] = true
agrees k (v ∷ vs) = same (value_from v) (digit_value k) && agrees (k + 1) vs

agrees_at : (vs : List ℕ) (k i : ℕ) → agrees k vs ≡ true → i < length vs → value_from (get_or vs i 0) ≡ digit_value (k + i)
agrees_at [] k i h below = absurd (omega arith)
agrees_at (v ∷ vs) k zero h below = rw add-zero (is_same (value_from v) (digit_value k) (and_parts _ (agrees (k + 1) vs) h).0)
agrees_at (v ∷ vs) k (suc i) h below =
    let e : k + 1 + i ≡ k + suc i = omega arith in
    rw (← e) (agrees_at vs (k + 1) i (and_parts (same (value_from v) (digit_value k)) (agrees (k + 1) vs) h).1 (omega arith))

pub VALUES_at : (d : ℕ) → d < 256 → value_from (get_or VALUES d 0) ≡ digit_value d
VALUES_at d below = let e : 0 + d ≡ d = omega arith in rw e at (agrees_at VALUES 0 d refl below)

from_high : (v : ℕ) → 16 ≤ v → value_from v ≡ None
from_high v high = grind arith

pub none_at : (d : ℕ) → d < 256 → 16 ≤ get_or VALUES d 0 → None ≡ digit_value d
none_at d below high = sym (from_high (get_or VALUES d 0) high) ∙ VALUES_at d below

-- the table's pairs are those of the bytes from a byte on
abbrev are_pairs : ℕ → List ℕ → Bool
are_pairs b [] = true
are_pairs b (alone ∷ []) = false
are_pairs b (high ∷ low ∷ rest) = (high == upper_digit (b / 16)) && ((low == upper_digit (b % 16)) && are_pairs (b + 1) rest)

pair_at : (vs : List ℕ) (b i : ℕ) → are_pairs b vs ≡ true → 2 * i + 1 < length vs
    → (get_or vs (2 * i) 0 ≡ upper_digit ((b + i) / 16)) × (get_or vs (2 * i + 1) 0 ≡ upper_digit ((b + i) % 16))
pair_at [] b i h below = absurd (omega arith)
pair_at (alone ∷ []) b i h below = cc
pair_at (high ∷ low ∷ rest) b zero h below =
    let first = and_parts (high == upper_digit (b / 16)) ((low == upper_digit (b % 16)) && are_pairs (b + 1) rest) h in
    let second = and_parts (low == upper_digit (b % 16)) (are_pairs (b + 1) rest) first.1 in
    rw add-zero (eqb-true high (upper_digit (b / 16)) first.0, eqb-true low (upper_digit (b % 16)) second.0)
pair_at (high ∷ low ∷ rest) b (suc i) h below =
    let first = and_parts (high == upper_digit (b / 16)) ((low == upper_digit (b % 16)) && are_pairs (b + 1) rest) h in
    let second = and_parts (low == upper_digit (b % 16)) (are_pairs (b + 1) rest) first.1 in
    let others = pair_at rest (b + 1) i second.1 (omega arith) in
    let e : b + 1 + i ≡ b + suc i = omega arith in
    let f : 2 * suc i ≡ suc (suc (2 * i)) = omega arith in
    let g : 2 * suc i + 1 ≡ suc (suc (2 * i + 1)) = omega arith in
    rw (← e, g, f) others

pub PAIRS_at : (b : ℕ) → b < 256 → (get_or PAIRS (2 * b) 0 ≡ upper_digit (b / 16)) × (get_or PAIRS (2 * b + 1) 0 ≡ upper_digit (b % 16))
PAIRS_at b below = let e : 0 + b ≡ b = omega arith in rw e at (pair_at PAIRS 0 b refl (omega arith))
