-- The lines of a file, one after the other.
use Rattle.std.proofs.Common.{◌≡◌, ℕ, List, [], ◌∷◌, ◌++◌, ◌∙◌, refl, ap, sym, subst, append_assoc}
use Rattle.mbdc_audit.specs.House.{House}
use Rattle.mbdc_audit.specs.File.{Follows, Steps}

pub one_step : (s : ℕ) (h : House) (lines : List (List ℕ)) (t : ℕ) (g : House) (line : List ℕ) (u : ℕ) (i : House)
    → Steps s h lines t g → Follows t line g u i → Steps s h (lines ++ line ∷ []) u i
one_step s h [] t g line u i steps follows =
    (u, i, subst (λ (x : ℕ). Follows x line h u i) steps.0 (subst (λ (x : House). Follows t line x u i) steps.1 follows), (refl, refl))
one_step s h (first ∷ lines) t g line u i steps follows =
    (steps.0, steps.1, steps.2, one_step steps.0 steps.1 lines t g line u i steps.3 follows)

pub next_lines : (all before rest : List (List ℕ)) (line : List ℕ) (left : List (List ℕ)) → all ≡ before ++ left → left ≡ line ∷ rest
    → all ≡ (before ++ line ∷ []) ++ rest
next_lines all before rest line left is now =
    is ∙ (ap (λ (ls : List (List ℕ)). before ++ ls) now ∙ sym (append_assoc before (line ∷ []) rest))
