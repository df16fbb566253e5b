-- What a failed sink over a slice says of the text.
use Rattle.std.proofs.Common.{◌≡◌, ℕ, ◌<◌, ◌+◌, List, [], ◌∷◌, ◌++◌, length, take, Some, ap, sym, ◌∙◌, arith}
use Rattle.std.proofs.lemmas.List.{length-append, length-take}
use Rattle.std.specs.Prelude.{min}
use Rattle.mbdc_io.specs.Stream.{PutsFront}
use Rattle.mbdc_io.specs.Slice.{byte_past, slice_written}
use Rattle.mbdc_io.proofs.Pieces.{rest_of_front}

none_past : (f p : ℕ) → f ≡ 0 → byte_past f p ≡ []
none_past f p well = ap (λ (k : ℕ). byte_past k p) well

one_past : (f p : ℕ) → 0 < f → byte_past f p ≡ p ∷ []
one_past f p failed = grind arith

nothing_yet : (room : List ℕ) (len f p : ℕ) → len ≡ 0 → f ≡ 0 → take len room ++ byte_past f p ≡ []
nothing_yet room len f p empty well =
    ap (λ (k : ℕ). take k room ++ byte_past f p) empty ∙ none_past f p well

-- the text of a sink that failed is longer than its slice
pub is_longer : (n₀ n₁ : ℕ) (room₀ room₁ text : List ℕ) (len₀ len₁ f₀ f₁ p₀ p₁ : ℕ) → len₀ ≡ 0 → f₀ ≡ 0 → 0 < f₁ → len₁ ≡ length room₁
    → PutsFront (Some (slice_written n₀ room₀ len₀ f₀ p₀)) (Some (slice_written n₁ room₁ len₁ f₁ p₁)) text
    → length room₀ < length text
is_longer n₀ n₁ room₀ room₁ text len₀ len₁ f₀ f₁ p₀ p₁ empty well failed filled front =
    let found = rest_of_front (Some (slice_written n₀ room₀ len₀ f₀ p₀ ++ text)) (Some (slice_written n₁ room₁ len₁ f₁ p₁)) front.begins in
    let rest : List ℕ = found.0 in
    let is : Some (slice_written n₀ room₀ len₀ f₀ p₀ ++ text) ≡ Some (slice_written n₁ room₁ len₁ f₁ p₁ ++ rest) = found.1 in
    let same : length room₀ ≡ length room₁ = cc in
    let parts : (take len₀ room₀ ++ byte_past f₀ p₀) ++ text ≡ (take len₁ room₁ ++ byte_past f₁ p₁) ++ rest = cc in
    let held : text ≡ (take len₁ room₁ ++ byte_past f₁ p₁) ++ rest =
    sym (ap (λ (xs : List ℕ). xs ++ text) (nothing_yet room₀ len₀ f₀ p₀ empty well)) ∙ parts in
    let long : length text ≡ (length (take len₁ room₁) + length (byte_past f₁ p₁)) + length rest =
    ap length held ∙ length-append (take len₁ room₁ ++ byte_past f₁ p₁) rest
    ∙ ap (λ (k : ℕ). k + length rest) (length-append (take len₁ room₁) (byte_past f₁ p₁)) in
    let one : length (byte_past f₁ p₁) ≡ 1 = ap length (one_past f₁ p₁ failed) in
    let taken : length (take len₁ room₁) ≡ min len₁ (length room₁) = length-take len₁ room₁ in
    omega arith
