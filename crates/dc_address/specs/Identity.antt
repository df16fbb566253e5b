-- A meter's identity, its eight bytes on the wire and its printed text (EN 13757-3, fixed data header).
use Rattle.std.specs.Prelude.{◌≡◌, ℕ, Bool, ◌&&◌, List, [], ◌∷◌, ◌++◌, length, take, drop}
use Rattle.std.specs.Prelude.{slice_index, nat_lt, ◌==◌}
use Rattle.std.specs.List.{list_all}
use Rattle.std.specs.Ordering.{nat_cmp, ordering_then}
use Rattle.std.specs.declared.cmp.Ordering.{Ordering}
use Rattle.byteorder.specs.Endian.{little_bytes, little_number}
use Rattle.dc_address.specs.Digits.{decimal_digits, packed_digits, unpacked_digits, is_digit}
use Rattle.dc_address.specs.Maker.{is_maker}
use Rattle.dc_address.specs.declared.identity.Identity.{Identity}

-- ---- order

-- by number, then manufacturer, then version, then device type
abbrev pub identity_cmp : Identity → Identity → Ordering
identity_cmp a b =
    ordering_then (nat_cmp a.number b.number)
    (ordering_then (nat_cmp a.maker b.maker)
    (ordering_then (nat_cmp a.version b.version) (nat_cmp a.kind b.kind)))

-- ---- eight bytes

-- the number as eight digits in four bytes and the manufacturer in two, each low byte first, then version and type
unfoldable pub wire_of : Identity → List ℕ
wire_of identity =
    packed_digits (decimal_digits 8 identity.number)
    ++ (little_bytes 2 identity.maker ++ identity.version ∷ identity.kind ∷ [])

-- the bytes spell the identity
abbrev pub IsWire : List ℕ → Identity → Type 0
IsWire bytes identity = bytes ≡ wire_of identity

-- whether eight bytes spell an identity: digits up to 9 and three letters
unfoldable pub is_identity : List ℕ → Bool
is_identity bytes =
    length bytes == 8
    && (list_all is_digit (unpacked_digits (take 4 bytes))
    && (nat_lt (slice_index (drop 4 bytes) 0) 256 && is_maker (little_number 2 (drop 4 bytes))))
