-- What has no byte has no line.
use Rattle.std.proofs.Common.{◌≡◌, ℕ, List, [], ◌∷◌, length, refl, arith}
use Rattle.mbdc_io.specs.Lines.{lines_of}

pub no_lines : (s : List ℕ) → length s ≡ 0 → lines_of s ≡ []
unfolding lines_of
no_lines [] none = refl
no_lines (b ∷ s) none = absurd (omega arith)
