-- Puts one after the other (this product's writer): what each put does to its sink reaches who called for all of them.
use Rattle.std.specs.Prelude.{◌≡◌, ℕ, List, [], ◌∷◌, ◌++◌}

-- These pieces went in, one put after the other.
abbrev pub IsRun : {S : Type 0} → (S → List ℕ → S → Type 0) → S → List (List ℕ) → S → Type 0
IsRun {S} puts old [] new = new ≡ old
IsRun {S} puts old (piece ∷ pieces) new =
    (between : S) × puts old piece between × IsRun puts between pieces new

-- the bytes of the pieces
abbrev pub joined : List (List ℕ) → List ℕ
joined [] = []
joined (piece ∷ pieces) = piece ++ joined pieces

-- The bytes went in by puts that succeeded, piece by piece.
pub record IsChain {S : Type 0} (puts : S → List ℕ → S → Type 0) (old new : S)
    (bytes : List ℕ) : Type 0 where
  pub pieces : List (List ℕ)
  pub parts : bytes ≡ joined pieces
  pub run : IsRun puts old pieces new

-- Some pieces went in, and the put of the next one failed.
pub record IsBroken {S : Type 0} (puts breaks : S → List ℕ → S → Type 0) (old new : S)
    (bytes : List ℕ) : Type 0 where
  pub front : List ℕ
  pub piece : List ℕ
  pub rest : List ℕ
  pub parts : bytes ≡ front ++ (piece ++ rest)
  pub between : S
  pub chain : IsChain puts old between front
  pub broken : breaks between piece new
