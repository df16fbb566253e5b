-- Masks: which identities match, what every mask keeps, and that one that is sent is read back.
use Rattle.std.proofs.Common.{◌≡◌, ◌<◌, ℕ, suc, zero, List, [], ◌∷◌, true, Option, Some, None, map, length, slice_set, get_or, arith, ◌∙◌, refl, ap, sym, take, drop, ◌+◌}
use Rattle.std.proofs.lemmas.List.{length-map, get_or-append-add}
use Rattle.std.proofs.Math.Seq.{take-append_seam, drop-append_seam}
use Rattle.std.proofs.Math.ListN.{length-set}
use Rattle.std.proofs.lemmas.Bool.{and_parts, and_from, lt-ltb, ltb-true, eq-eqb, eqb-true, ne_eqb}
use Rattle.std.specs.List.{list_all}
use Rattle.dc_address.specs.Digits.{decimal_digits, is_digit, is_nibble, packed_digits, unpacked_digits}
use Rattle.dc_address.proofs.Decimals.{decimal_digits-are_digits, length-decimal_digits, nibbles_from_digits, same_from_decimal_digits, length-packed_digits, unpacked_digits-packed_digits}
use Rattle.dc_address.specs.Mask.{IsMask, is_place, nibble_of, MaskParts, fits, all_fit, matches, mask_of_all, value_or_wildcard, mask_of, with_digit, mask_wire, mask_at, is_sent, digit_or_wildcard, code_or_wildcard, IsCode}
use Rattle.std.specs.Prelude.{◌≢◌, Bool, false, ◌&&◌, ◌||◌, ◌++◌, unwrap_or, is_none, slice_get, slice_index, ◌==◌, if◌then◌else◌}
use Rattle.std.proofs.lemmas.Bool.Decides.{nat_tests}
use Rattle.byteorder.specs.Endian.{little_bytes, little_number}
use Rattle.dc_address.specs.Identity.{wire_of}
use Rattle.dc_address.proofs.Identities.{same_identity}
use Rattle.dc_address.specs.declared.identity.Identity.{Identity}

fits_itself : (value : ℕ) → fits (Some value) value ≡ true
fits_itself value = eq-eqb value value refl

fits_byte : (byte : ℕ) → fits (value_or_wildcard byte) byte ≡ true
fits_byte byte = grind (arith, nat_tests, fits_itself)

all_fit_fixed : (digits : List ℕ) → all_fit (map Some digits) digits ≡ true
all_fit_fixed [] = refl
all_fit_fixed (digit ∷ rest) = and_from _ _ (fits_itself digit) (all_fit_fixed rest)

-- the mask that asks for an identity matches it
pub matches-mask_of : (identity : Identity) → matches (mask_of identity) identity ≡ true
unfolding matches
matches-mask_of identity =
    and_from _ _ (all_fit_fixed (decimal_digits 8 identity.number))
    (and_from _ _ (fits_itself identity.maker) (and_from _ _ (fits_byte identity.version) (fits_byte identity.kind)))

same_from_all_fit : (wanted values : List ℕ) → length values ≡ length wanted → all_fit (map Some wanted) values ≡ true → values ≡ wanted
same_from_all_fit [] [] same fit = refl
same_from_all_fit [] (value ∷ values) same fit = absurd (omega arith)
same_from_all_fit (digit ∷ rest) [] same fit = absurd (omega arith)
same_from_all_fit (digit ∷ rest) (value ∷ values) same fit =
    let parts = and_parts (digit == value) (all_fit (map Some rest) values) fit in
    let first : digit ≡ value = eqb-true digit value parts.0 in
    let others : values ≡ rest = same_from_all_fit rest values (omega arith) parts.1 in
    cc

same_from_fits : (byte value : ℕ) → byte ≢ 255 → fits (value_or_wildcard byte) value ≡ true → value ≡ byte
same_from_fits byte value plain fit =
    let other : (byte == 255) ≡ false = ne_eqb byte 255 plain in
    sym (eqb-true byte value (ap (λ b. fits (if b then None else Some byte) value) (sym other) ∙ fit))

-- it matches no other, where neither version nor type is the wildcard's byte
pub same_from_matches : (identity other : Identity) → identity.version ≢ 255 → identity.kind ≢ 255
    → matches (mask_of identity) other ≡ true → other ≡ identity
unfolding matches
same_from_matches identity other version kind is =
    let digits : List ℕ = decimal_digits 8 other.number in
    let all = and_parts (all_fit (map Some (decimal_digits 8 identity.number)) digits) (fits (Some identity.maker) other.maker && (fits (value_or_wildcard identity.version) other.version && fits (value_or_wildcard identity.kind) other.kind)) is in
    let rest = and_parts (fits (Some identity.maker) other.maker) (fits (value_or_wildcard identity.version) other.version && fits (value_or_wildcard identity.kind) other.kind) all.1 in
    let last = and_parts (fits (value_or_wildcard identity.version) other.version) (fits (value_or_wildcard identity.kind) other.kind) rest.1 in
    same_identity other identity
    (same_from_decimal_digits 8 other.number identity.number other.has_eight_digits identity.has_eight_digits
    (same_from_all_fit (decimal_digits 8 identity.number) digits (length-decimal_digits 8 other.number ∙ sym (length-decimal_digits 8 identity.number)) all.0))
    (sym (eqb-true identity.maker other.maker rest.0))
    (same_from_fits identity.version other.version version last.0)
    (same_from_fits identity.kind other.kind kind last.1)

all_wild : (wanted : List (Option ℕ)) (values : List ℕ) → list_all is_none wanted ≡ true → all_fit wanted values ≡ true
all_wild [] values wild = refl
all_wild (None ∷ rest) [] wild = refl
all_wild (None ∷ rest) (value ∷ values) wild = all_wild rest values wild
all_wild (Some digit ∷ rest) values wild = cc

-- all wildcards match every meter
pub matches-mask_of_all : (identity : Identity) → matches mask_of_all identity ≡ true
unfolding matches
matches-mask_of_all identity = and_from _ _ (all_wild mask_of_all.digits (decimal_digits 8 identity.number) refl) refl

and_swap : (x y z : Bool) → (x && (y && z)) ≡ (y && (x && z))
and_swap true y z = refl
and_swap false true z = refl
and_swap false false z = refl

and_group : (x y z : Bool) → ((x && y) && z) ≡ (x && (y && z))
and_group true y z = refl
and_group false y z = refl

-- one more digit is asked for where a wildcard stood
pub all_fit-slice_set : (wanted : List (Option ℕ)) (values : List ℕ) (place digit : ℕ) → place < length values
    → slice_get wanted place ≡ Some None
    → all_fit (slice_set wanted place (Some digit)) values ≡ (digit == slice_index values place && all_fit wanted values)
all_fit-slice_set [] values place digit within wild = cc
all_fit-slice_set (first ∷ rest) [] place digit within wild = absurd (omega arith)
all_fit-slice_set (first ∷ rest) (value ∷ values) zero digit within wild =
    let free : first ≡ None = cc in
    ap (λ place. digit == value && (fits place value && all_fit rest values)) (sym free)
all_fit-slice_set (first ∷ rest) (value ∷ values) (suc place) digit within wild =
    ap (λ others. fits first value && others) (all_fit-slice_set rest values place digit (omega arith) wild)
    ∙ and_swap (fits first value) (digit == slice_index values place) (all_fit rest values)

pub matches-with_digit : (mask : MaskParts) (place digit : ℕ) (identity : Identity) → place < 8 → slice_get mask.digits place ≡ Some None
    → matches (with_digit mask place digit) identity ≡ (digit == slice_index (decimal_digits 8 identity.number) place && matches mask identity)
unfolding matches
matches-with_digit mask place digit identity within wild =
    let digits : List ℕ = decimal_digits 8 identity.number in
    let others : Bool = fits mask.maker identity.maker && (fits mask.version identity.version && fits mask.kind identity.kind) in
    let room : place < length digits = omega (arith, length-decimal_digits 8 identity.number) in
    ap (λ fit. fit && others) (all_fit-slice_set mask.digits digits place digit room wild)
    ∙ and_group (digit == slice_index digits place) (all_fit mask.digits digits) others

nibbles_fixed : (digits : List ℕ) → map nibble_of (map Some digits) ≡ digits
nibbles_fixed [] = refl
nibbles_fixed (digit ∷ rest) = ap (λ ds. digit ∷ ds) (nibbles_fixed rest)

sent_byte : (byte : ℕ) → unwrap_or (value_or_wildcard byte) 255 ≡ byte
sent_byte byte = grind (arith, nat_tests)

-- the mask that asks for an identity is sent as its bytes
pub mask_wire-mask_of : (identity : Identity) → mask_wire (mask_of identity) ≡ wire_of identity
unfolding mask_wire wire_of
mask_wire-mask_of identity =
    let front : List ℕ = packed_digits (decimal_digits 8 identity.number) in
    ap (λ digits. packed_digits digits ++ (little_bytes 2 identity.maker ++ unwrap_or (value_or_wildcard identity.version) 255 ∷ unwrap_or (value_or_wildcard identity.kind) 255 ∷ []))
    (nibbles_fixed (decimal_digits 8 identity.number))
    ∙ ap (λ v. front ++ (little_bytes 2 identity.maker ++ v ∷ unwrap_or (value_or_wildcard identity.kind) 255 ∷ [])) (sent_byte identity.version)
    ∙ ap (λ k. front ++ (little_bytes 2 identity.maker ++ identity.version ∷ k ∷ [])) (sent_byte identity.kind)

places_fixed : (digits : List ℕ) → list_all is_digit digits ≡ true → list_all is_place (map Some digits) ≡ true
places_fixed [] are = refl
places_fixed (digit ∷ rest) are = let parts = and_parts (is_digit digit) (list_all is_digit rest) are in and_from _ _ parts.0 (places_fixed rest parts.1)

-- the mask of an identity is one
not_wild : (byte : ℕ) → value_or_wildcard byte ≢ Some 255
not_wild byte e = grind (arith, nat_tests)

pub IsMask-mask_of : (identity : Identity) → IsMask (mask_of identity)
IsMask-mask_of identity = record {
  count = length-map (decimal_digits 8 identity.number) Some ∙ length-decimal_digits 8 identity.number;
  digits_are = places_fixed (decimal_digits 8 identity.number) (decimal_digits-are_digits 8 identity.number);
  maker_is = omega arith;
  version_is = not_wild identity.version;
  kind_is = not_wild identity.kind;
}

places_set : (places : List (Option ℕ)) (at digit : ℕ) → digit < 10 → list_all is_place places ≡ true → list_all is_place (slice_set places at (Some digit)) ≡ true
places_set [] at digit small are = refl
places_set (place ∷ rest) zero digit small are = let parts = and_parts (is_place place) (list_all is_place rest) are in and_from _ _ (lt-ltb digit 10 small) parts.1
places_set (place ∷ rest) (suc at) digit small are = let parts = and_parts (is_place place) (list_all is_place rest) are in and_from _ _ parts.0 (places_set rest at digit small parts.1)

pub IsMask-with_digit : (mask : MaskParts) (at digit : ℕ) → digit < 10 → IsMask mask → IsMask (with_digit mask at digit)
IsMask-with_digit mask at digit small is = record {
  count = length-set mask.digits at (Some digit) ∙ is.count;
  digits_are = places_set mask.digits at digit small is.digits_are;
  maker_is = is.maker_is;
  version_is = is.version_is;
  kind_is = is.kind_is;
}

place_nibble : (place : Option ℕ) → is_place place ≡ true → is_nibble (nibble_of place) ≡ true
place_nibble None is = refl
place_nibble (Some digit) is = (and_parts _ _ (nibbles_from_digits (digit ∷ []) (and_from _ _ is refl))).0

pub nibbles_of_places : (places : List (Option ℕ)) → list_all is_place places ≡ true → list_all is_nibble (map nibble_of places) ≡ true
nibbles_of_places [] are = refl
nibbles_of_places (place ∷ rest) are =
    let parts = and_parts (is_place place) (list_all is_place rest) are in
    and_from _ _ (place_nibble place parts.0) (nibbles_of_places rest parts.1)

-- ---- a mask that is sent is read back, and what is read is one

place_sent : (nibble : ℕ) → is_sent nibble ≡ true → is_place (digit_or_wildcard nibble) ≡ true
place_sent nibble is = by_wildcard (nibble == 15) is
  where
    by_wildcard : (wild : Bool) → (is_digit nibble || wild) ≡ true → is_place (if wild then None else Some nibble) ≡ true
    by_wildcard true is = refl
    by_wildcard false is = or_false is
      where
        or_false : (is_digit nibble || false) ≡ true → is_digit nibble ≡ true
        or_false is = grind (arith, nat_tests)

places_sent : (nibbles : List ℕ) → list_all is_sent nibbles ≡ true → list_all is_place (map digit_or_wildcard nibbles) ≡ true
places_sent [] are = refl
places_sent (nibble ∷ rest) are =
    let parts = and_parts (is_sent nibble) (list_all is_sent rest) are in
    and_from _ _ (place_sent nibble parts.0) (places_sent rest parts.1)

code_read : (code : ℕ) → code < 65536 → IsCode (code_or_wildcard code)
code_read code fits = by_test (code == 65535) refl
  where
    by_test : (wild : Bool) → (code == 65535) ≡ wild → IsCode (if wild then None else Some code)
    by_test true is = tt
    by_test false is = grind (arith, nat_tests)

-- what is read is a mask
pub IsMask-read : (nibbles : List ℕ) (code version kind : ℕ) → length nibbles ≡ 8 → list_all is_sent nibbles ≡ true → code < 65536
    → IsMask (record { digits = map digit_or_wildcard nibbles; maker = code_or_wildcard code; version = value_or_wildcard version; kind = value_or_wildcard kind })
IsMask-read nibbles code version kind eight are fits = record {
  count = length-map nibbles digit_or_wildcard ∙ eight;
  digits_are = places_sent nibbles are;
  maker_is = code_read code fits;
  version_is = not_wild version;
  kind_is = not_wild kind;
}

digits_back : (places : List (Option ℕ)) → list_all is_place places ≡ true → map digit_or_wildcard (map nibble_of places) ≡ places
digits_back [] are = refl
digits_back (None ∷ rest) are = ap (λ ps. None ∷ ps) (digits_back rest are)
digits_back (Some digit ∷ rest) are =
    let parts = and_parts (is_digit digit) (list_all is_place rest) are in
    let other : (digit == 15) ≡ false = ne_eqb digit 15 (λ e. omega (arith, e, ltb-true digit 10 parts.0)) in
    rw other (ap (λ ps. Some digit ∷ ps) (digits_back rest parts.1))

code_back : (code : Option ℕ) → IsCode code → code_or_wildcard (unwrap_or code 65535) ≡ code
code_back None is = refl
code_back (Some code) is = rw (ne_eqb code 65535 (λ e. omega arith)) refl

value_back : (value : Option ℕ) → value ≢ Some 255 → value_or_wildcard (unwrap_or value 255) ≡ value
value_back None is = refl
value_back (Some byte) is = rw (ne_eqb byte 255 (λ e. is (ap Some e))) refl

code_fits : (code : Option ℕ) → IsCode code → unwrap_or code 65535 < 65536
code_fits None is = omega arith
code_fits (Some code) is = omega arith

two_back : (code : ℕ) (rest : List ℕ) → code < 65536 → little_number 2 (little_bytes 2 code ++ rest) ≡ code
two_back code rest fits = omega arith

module _ (mask : MaskParts) (is : IsMask mask) where
  abbrev nibbles : List ℕ
  nibbles = map nibble_of mask.digits

  abbrev front : List ℕ
  front = packed_digits nibbles

  abbrev back : List ℕ
  back = little_bytes 2 (unwrap_or mask.maker 65535) ++ unwrap_or mask.version 255 ∷ unwrap_or mask.kind 255 ∷ []

  eight : length nibbles ≡ 8
  eight = length-map mask.digits nibble_of ∙ is.count

  four : length front ≡ 4
  four = length-packed_digits 4 nibbles eight

  front_is : take 4 (mask_wire mask) ≡ front
  unfolding mask_wire
  front_is = ap (λ n. take n (mask_wire mask)) (sym four) ∙ take-append_seam front back

  back_is : drop 4 (mask_wire mask) ≡ back
  unfolding mask_wire
  back_is = ap (λ n. drop n (mask_wire mask)) (sym four) ∙ drop-append_seam front back

  six : get_or (mask_wire mask) 6 0 ≡ unwrap_or mask.version 255
  unfolding mask_wire
  six =
      let at : 6 ≡ length front + 2 = omega (arith, four) in
      ap (λ n. get_or (mask_wire mask) n 0) at ∙ get_or-append-add front back 2 0

  seven : get_or (mask_wire mask) 7 0 ≡ unwrap_or mask.kind 255
  unfolding mask_wire
  seven =
      let at : 7 ≡ length front + 3 = omega (arith, four) in
      ap (λ n. get_or (mask_wire mask) n 0) at ∙ get_or-append-add front back 3 0

  digits_are : map digit_or_wildcard (unpacked_digits (take 4 (mask_wire mask))) ≡ mask.digits
  digits_are =
      ap (λ bytes. map digit_or_wildcard (unpacked_digits bytes)) front_is
      ∙ ap (map digit_or_wildcard) (unpacked_digits-packed_digits 4 nibbles eight (nibbles_of_places mask.digits is.digits_are))
      ∙ digits_back mask.digits is.digits_are

  maker_is : code_or_wildcard (little_number 2 (drop 4 (mask_wire mask))) ≡ mask.maker
  maker_is =
      ap (λ bytes. code_or_wildcard (little_number 2 bytes)) back_is
      ∙ ap code_or_wildcard (two_back (unwrap_or mask.maker 65535) (unwrap_or mask.version 255 ∷ unwrap_or mask.kind 255 ∷ []) (code_fits mask.maker is.maker_is))
      ∙ code_back mask.maker is.maker_is

  pub mask_at-mask_wire : mask_at (mask_wire mask) ≡ mask
  unfolding mask_at
  mask_at-mask_wire = rw (digits_are, maker_is, six, seven, value_back mask.version is.version_is, value_back mask.kind is.kind_is) refl

pub mask_at-wire_of : (identity : Identity) → mask_at (wire_of identity) ≡ mask_of identity
mask_at-wire_of identity = ap mask_at (sym (mask_wire-mask_of identity)) ∙ mask_at-mask_wire (mask_of identity) (IsMask-mask_of identity)
