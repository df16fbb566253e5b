-- Numbers of several bytes at a place in a sector, little-endian (this product's image format).
use Rattle.std.proofs.Common.{ℕ, List, drop}
use Rattle.byteorder.specs.Endian.{little_number, little_bytes}

-- the number in the n bytes from that place on
abbrev pub field : ℕ → ℕ → List ℕ → ℕ
field n at bytes = little_number n (drop at bytes)

-- the n bytes of a number. They are named and not spelled out, so that a goal shows them as one
-- piece.
unfoldable pub number_bytes : ℕ → ℕ → List ℕ
number_bytes n number = little_bytes n number
