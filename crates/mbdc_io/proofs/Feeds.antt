-- The first line of a text.
use Rattle.std.proofs.Common.{eqb-true, ◌≡◌, ℕ, suc, ◌<◌, List, [], ◌∷◌, ◌++◌, length, get_or, Bool, true, false, cond, refl, ap, arith}
use Rattle.std.specs.Prelude.{◌==◌}
use Rattle.mbdc_io.specs.Lines.{LacksFeed, lines_of, onto_first}

-- the byte at no place below the length is a line feed
abbrev pub HasNoFeed : List ℕ → Type 0
HasNoFeed s = (k : ℕ) → k < length s → ¬ ((get_or s k 0 == 10) ≡ true)

shorter : (b : ℕ) (s : List ℕ) → HasNoFeed (b ∷ s) → HasNoFeed s
shorter b s none k below = none (suc k) (omega arith)

onto : (b : ℕ) (s : List ℕ) (lines : List (List ℕ)) → ¬ ((b == 10) ≡ true) → lines_of s ≡ lines → lines_of (b ∷ s) ≡ onto_first b lines
unfolding lines_of
onto b s lines other is =
    elim (b == 10) as (λ (t : Bool). (¬ (t ≡ true)) → cond t ([] ∷ lines_of s) (onto_first b (lines_of s)) ≡ onto_first b lines)
    [ true ↦ λ no. absurd (no refl) | false ↦ λ no. ap (onto_first b) is ] other

pub last_line : (s : List ℕ) → 0 < length s → HasNoFeed s → lines_of s ≡ s ∷ []
unfolding lines_of
last_line [] some none = absurd (omega arith)
last_line (b ∷ []) some none = onto b [] [] (none 0 (omega arith)) refl
last_line (b ∷ c ∷ s) some none =
    onto b (c ∷ s) ((c ∷ s) ∷ []) (none 0 (omega arith)) (last_line (c ∷ s) (omega arith) (shorter b (c ∷ s) none))

pub line_and_feed : (line rest : List ℕ) → HasNoFeed line → lines_of (line ++ (10 ∷ rest)) ≡ line ∷ lines_of rest
unfolding lines_of
line_and_feed [] rest none = refl
line_and_feed (b ∷ line) rest none =
    onto b (line ++ (10 ∷ rest)) (line ∷ lines_of rest) (none 0 (omega arith)) (line_and_feed line rest (shorter b line none))

-- a line that lacks a feed fails the test for one at each place
pub tested : (line : List ℕ) → LacksFeed line → HasNoFeed line
tested line lacks = λ k below is. lacks k below (eqb-true (get_or line k 0) 10 is)
