-- A line with no space.
use Rattle.std.proofs.Common.{◌≡◌, ℕ, suc, ◌<◌, List, [], ◌∷◌, length, get_or, Bool, true, false, cond, filter, refl, ap, arith}
use Rattle.std.specs.Prelude.{◌==◌, not}
use Rattle.mbdc_io.specs.Lines.{is_solid}

pub filter_solid : (s : List ℕ) → ((k : ℕ) → k < length s → ¬ ((get_or s k 0 == 32) ≡ true)) → filter is_solid s ≡ s
filter_solid [] none = refl
filter_solid (b ∷ s) none =
    let rest = filter_solid s (λ k below. none (suc k) (omega arith)) in
    elim (b == 32) as (λ (t : Bool). (¬ (t ≡ true)) → cond (not t) (b ∷ filter is_solid s) (filter is_solid s) ≡ b ∷ s)
    [ true ↦ λ no. absurd (no refl) | false ↦ λ no. ap (λ (t : List ℕ). b ∷ t) rest ] (none 0 (omega arith))
