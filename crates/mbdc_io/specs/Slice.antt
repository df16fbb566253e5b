-- The bytes that went into a sink over a borrowed slice, as contracts see them.
use Rattle.std.specs.Prelude.{ℕ, ◌==◌, if◌then◌else◌, List, [], ◌∷◌, ◌++◌, length, take}

-- the first byte that had no place, of a sink that has failed
abbrev pub byte_past : ℕ → ℕ → List ℕ
byte_past failures past = if failures == 0 then [] else past ∷ []

-- The slice's ghost name and its length, and then the bytes: who lent the slice knows by the first two that no other
-- one was filled.
abbrev pub slice_written : ℕ → List ℕ → ℕ → ℕ → ℕ → List ℕ
slice_written name room len failures past =
    name ∷ length room ∷ (take len room ++ byte_past failures past)
