-- The pending sectors, one sector more.
use Rattle.std.proofs.Common.{◌≡◌, ◌<◌, ◌≤◌, ◌==◌, ℕ, zero, suc, true, false, ◌+◌, ◌-◌, ◌++◌, ◌∷◌, [], length, if◌then◌else◌, refl, ◌∙◌, ap, subst, arith, add-one, zero-add, suc-add, length-append}
use Rattle.std.proofs.lemmas.Bool.Decides.{nat_tests}
use Rattle.std.proofs.lemmas.List.{append-nil}
use Rattle.dc_sectors.specs.Memory.{pending_below}

pending_next : (writes : ℕ → ℕ) (n : ℕ) → pending_below writes (n + 1) ≡ pending_below writes n ++ (if writes n == 0 then [] else (n, writes n) ∷ [])
pending_next writes n = rw add-one refl

pub pending_more : (writes : ℕ → ℕ) (n : ℕ) → 0 < writes n → pending_below writes (n + 1) ≡ pending_below writes n ++ (n, writes n) ∷ []
pending_more writes n some =
    let no : (writes n == 0) ≡ false = grind (arith, nat_tests) in
    pending_next writes n ∙ ap (λ b. pending_below writes n ++ (if b then [] else (n, writes n) ∷ [])) no

pub pending_idle : (writes : ℕ → ℕ) (n : ℕ) → writes n ≡ 0 → pending_below writes (n + 1) ≡ pending_below writes n
pending_idle writes n none =
    let yes : (writes n == 0) ≡ true = grind (arith, nat_tests) in
    pending_next writes n ∙ ap (λ b. pending_below writes n ++ (if b then [] else (n, writes n) ∷ [])) yes ∙ append-nil (pending_below writes n)

pub length-pending_more : (writes : ℕ → ℕ) (n : ℕ) → 0 < writes n → length (pending_below writes (n + 1)) ≡ length (pending_below writes n) + 1
length-pending_more writes n some = ap length (pending_more writes n some) ∙ length-append (pending_below writes n) ((n, writes n) ∷ [])

pending_grows : (writes : ℕ → ℕ) (n k : ℕ) → length (pending_below writes n) ≤ length (pending_below writes (k + n))
pending_grows writes n zero = rw zero-add (omega arith)
pending_grows writes n (suc k) = rw suc-add (omega (arith, pending_grows writes n k, length-append (pending_below writes (k + n)) (if writes (k + n) == 0 then [] else ((k + n), writes (k + n)) ∷ [])))

-- a pending sector below the end has its place among the picks
pub pending_within : (writes : ℕ → ℕ) (n end : ℕ) → n < end → 0 < writes n → length (pending_below writes n) < length (pending_below writes end)
pending_within writes n end lt some =
    let rest = end - (n + 1) in
    let is : rest + (n + 1) ≡ end = omega arith in
    let more : length (pending_below writes (n + 1)) ≤ length (pending_below writes end) = subst (λ (m : ℕ). length (pending_below writes (n + 1)) ≤ length (pending_below writes m)) is (pending_grows writes (n + 1) rest) in
    omega (arith, more, length-pending_more writes n some)
