-- The ends that two spans have in common: the later begin and the earlier end.
use Rattle.std.proofs.Common.{arith, ◌≡◌, ◌<◌, ◌≤◌, ◌⊎◌, inl, inr, ℕ, zero, suc, [], ◌∷◌, get_or, max, min, Contains}
use Rattle.std.proofs.lemmas.Bool.{cases_lt}

-- a moment is an end of one of two spans, and within both
abbrev pub IsShared : ℕ → ℕ → ℕ → ℕ → ℕ → Type 0
IsShared p q r s t = Contains (p ∷ q ∷ r ∷ s ∷ []) t × (p ≤ t) × (t ≤ q) × (r ≤ t) × (t ≤ s)

module _ (p q r s t : ℕ) where
  by_place : (k : ℕ) → k < 4 → get_or (p ∷ q ∷ r ∷ s ∷ []) k t ≡ t → (p ≤ t) → (t ≤ q) → (r ≤ t) → (t ≤ s)
      → (t ≡ max p r) ⊎ (t ≡ min q s)
  by_place zero lt is a b c d = inl (omega arith)
  by_place (suc zero) lt is a b c d = inr (omega arith)
  by_place (suc (suc zero)) lt is a b c d = inl (omega arith)
  by_place (suc (suc (suc zero))) lt is a b c d = inr (omega arith)
  by_place (suc (suc (suc (suc k)))) lt is a b c d = absurd (omega arith)

  pub begin_or_end : IsShared p q r s t → (t ≡ max p r) ⊎ (t ≡ min q s)
  begin_or_end h = by_place h.0.0 (omega (arith, h.0.1)) h.0.2 h.1 h.2 h.3 h.4

  pub within : IsShared p q r s t → max p r ≤ min q s
  within h = omega (arith, h.1, h.2, h.3, h.4)

module _ (p q r s : ℕ) (some : max p r ≤ min q s) where
  pub begin_is : IsShared p q r s (max p r)
  begin_is = by_cases (cases_lt p r)
    where
      by_cases : (p < r) ⊎ (r ≤ p) → IsShared p q r s (max p r)
      by_cases (inl lt) = let is : r ≡ max p r = omega arith in ((2, omega arith, is), omega arith, omega arith, omega arith, omega arith)
      by_cases (inr le) = let is : p ≡ max p r = omega arith in ((0, omega arith, is), omega arith, omega arith, omega arith, omega arith)

  pub end_is : IsShared p q r s (min q s)
  end_is = by_cases (cases_lt s q)
    where
      by_cases : (s < q) ⊎ (q ≤ s) → IsShared p q r s (min q s)
      by_cases (inl lt) = let is : s ≡ min q s = omega arith in ((3, omega arith, is), omega arith, omega arith, omega arith, omega arith)
      by_cases (inr le) = let is : q ≡ min q s = omega arith in ((1, omega arith, is), omega arith, omega arith, omega arith, omega arith)
