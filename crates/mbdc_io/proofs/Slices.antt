-- A put into a slice that has no place for all of it: what was written is a prefix of what was to be.
use Rattle.std.proofs.Common.{◌≡◌, ℕ, ◌+◌, ◌<◌, List, [], ◌∷◌, ◌++◌, length, take, drop, Some, ap, sym, ◌∙◌, append_assoc, arith}
use Rattle.std.proofs.lemmas.List.{append-nil}
use Rattle.std.proofs.Math.ListN.{take-append-drop}
use Rattle.std.specs.Prelude.{slice_index_or}
use Rattle.mbdc_io.specs.Stream.{PutsFront}
use Rattle.mbdc_io.specs.Slice.{byte_past, slice_written}
use Rattle.mbdc_io.proofs.Pieces.{begins_with-rest, nothing_put}

past_kept : (f g past : ℕ) → 0 < f → 0 < g → byte_past g past ≡ byte_past f past
past_kept f g past some more = grind arith

-- a sink that had failed fails again
pub fails_again : (name : ℕ) (room : List ℕ) (len f g past : ℕ) (bytes : List ℕ) → 0 < f → 0 < g
    → PutsFront (Some (slice_written name room len f past)) (Some (slice_written name room len g past)) bytes
fails_again name room len f g past bytes some more =
    nothing_put (Some (slice_written name room len f past)) (Some (slice_written name room len g past)) bytes
    (ap (λ (ps : List ℕ). Some (name ∷ length room ∷ (take len room ++ ps))) (past_kept f g past some more))

regrouped : (t front rest : List ℕ) (b : ℕ) → (t ++ []) ++ (front ++ b ∷ rest) ≡ ((t ++ front) ++ b ∷ []) ++ rest
regrouped t front rest b =
    ap (λ (xs : List ℕ). xs ++ (front ++ b ∷ rest)) (append-nil t)
    ∙ sym (append_assoc t front (b ∷ rest)) ∙ sym (append_assoc (t ++ front) (b ∷ []) rest)

-- the slice is filled, and the byte after it is kept
pub fills_it : (name : ℕ) (room placed front back bytes : List ℕ) (len n f past : ℕ) → f ≡ 0 → length placed ≡ length room → len + n ≡ length room → length front ≡ n
    → take (len + length front) placed ≡ take len room ++ front → front ≡ take n bytes → back ≡ drop n bytes → 0 < length back
    → PutsFront (Some (slice_written name room len f past)) (Some (slice_written name placed (length placed) 1 (slice_index_or back 0 0))) bytes
fills_it name room placed front [] bytes len n f past none same all long took first last some = absurd (omega arith)
fills_it name room placed front (b ∷ rest) bytes len n f past none same all long took first last some =
    let is : bytes ≡ front ++ b ∷ rest = sym (take-append-drop n bytes) ∙ ap (λ (xs : List ℕ). xs ++ drop n bytes) (sym first) ∙ ap (λ (xs : List ℕ). front ++ xs) (sym last) in
    let end : len + length front ≡ length placed = omega arith in
    let whole : take (length placed) placed ≡ take len room ++ front = ap (λ (k : ℕ). take k placed) (sym end) ∙ took in
    let eq : slice_written name room len f past ++ bytes ≡ slice_written name placed (length placed) 1 b ++ rest =
    ap (λ (k : ℕ). name ∷ length room ∷ ((take len room ++ byte_past k past) ++ bytes)) none
    ∙ ap (λ (k : ℕ). name ∷ k ∷ ((take len room ++ []) ++ bytes)) (sym same)
    ∙ ap (λ (xs : List ℕ). name ∷ length placed ∷ xs)
    (ap (λ (ys : List ℕ). (take len room ++ []) ++ ys) is ∙ regrouped (take len room) front rest b ∙ ap (λ (ts : List ℕ). (ts ++ b ∷ []) ++ rest) (sym whole)) in
    record { begins = begins_with-rest (Some (slice_written name room len f past ++ bytes)) (Some (slice_written name placed (length placed) 1 b)) rest (ap Some eq) }
