-- What a take does to the bytes left in a source, and a put to the bytes in a sink (this product's
-- reader and writer). `None` means that the bytes aren't known to contracts; it stays `None`.
use Rattle.std.specs.Prelude.{◌≡◌, ℕ, List, [], IfSome, Option, Some, None}
use Rattle.std.specs.Prelude.{Bool, true, false, nat_eq}
use Rattle.std.specs.Io.KnownBytes.{prepend_known, append_known}
use Rattle.std.specs.List.{starts_with}

-- the bytes that were left are these, and then those that are left
abbrev pub Takes : Option (List ℕ) → Option (List ℕ) → List ℕ → Type 0
Takes old new bytes = old ≡ prepend_known bytes new

-- no byte is left, where the bytes left are known
abbrev pub IsAtEnd : Option (List ℕ) → Type 0
IsAtEnd left = IfSome left (λ bytes. bytes ≡ [])

-- the bytes that were written are the old ones, and then these
abbrev pub Puts : Option (List ℕ) → Option (List ℕ) → List ℕ → Type 0
Puts old new bytes = new ≡ append_known old bytes

-- Whether the first bytes begin with the second ones. Unknown bytes (`None`) begin with unknown
-- bytes alone.
unfoldable pub begins_with : Option (List ℕ) → Option (List ℕ) → Bool
begins_with None None = true
begins_with None (Some front) = false
begins_with (Some all) None = false
begins_with (Some all) (Some front) = starts_with nat_eq all front

-- What is written is a prefix of the old bytes followed by these. A sink that holds bytes back may
-- lose some of the old ones too.
pub record PutsFront (old new : Option (List ℕ)) (bytes : List ℕ) : Type 0 where
  pub begins : begins_with (append_known old bytes) new ≡ true
