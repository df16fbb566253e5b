-- The words of events differ.
use Rattle.std.proofs.Common.{◌≡◌, ◌∙◌, ℕ, List, [], Option, None, Some, length, ap, sym, arith}
use Rattle.std.specs.Prelude.{codes}

abbrev text_or : Option (List ℕ) → List ℕ
text_or None = []
text_or (Some text) = text

pub read_or_failed : (text : List ℕ) → text ≡ codes "read" → Some text ≡ Some (codes "failed") → ⊥
read_or_failed text read failed =
    let lengths : length (codes "read") ≡ length (codes "failed") = ap length (sym read ∙ ap text_or failed) in
    absurd (omega (arith, lengths))
