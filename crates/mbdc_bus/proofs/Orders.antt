-- A mask that is sent is one that is read.
use Rattle.std.proofs.Common.{◌≡◌, ℕ, Bool, true, false, ◌||◌, List, [], ◌∷◌, Some, None, length, map, take, ◌==◌, arith, refl, ap, sym, ◌∙◌, length-append}
use Rattle.std.specs.Prelude.{if◌then◌else◌}
use Rattle.std.specs.List.{list_all}
use Rattle.std.proofs.lemmas.Bool.{and_from, and_parts}
use Rattle.std.proofs.lemmas.List.{length-map}
use Rattle.dc_address.specs.Digits.{is_digit, packed_digits, unpacked_digits}
use Rattle.dc_address.specs.Mask.{IsMask, MaskParts, are_sent, digit_or_wildcard, is_place, is_sent, mask_at, mask_wire, nibble_of}
use Rattle.dc_address.proofs.Decimals.{length-packed_digits}
use Rattle.dc_address.proofs.Masks.{mask_at-mask_wire}

one_sent : (digit wild : Bool) (nibble : ℕ) → is_digit nibble ≡ digit → is_place (if wild then None else Some nibble) ≡ true → (digit || wild) ≡ true
one_sent true wild nibble is place = refl
one_sent false true nibble is place = refl
one_sent false false nibble is place = sym is ∙ place

all_sent : (nibbles : List ℕ) → list_all is_place (map digit_or_wildcard nibbles) ≡ true → list_all is_sent nibbles ≡ true
all_sent [] are = refl
all_sent (nibble ∷ rest) are =
    let parts = and_parts (is_place (digit_or_wildcard nibble)) (list_all is_place (map digit_or_wildcard rest)) are in
    and_from (is_sent nibble) (list_all is_sent rest) (one_sent (is_digit nibble) (nibble == 15) nibble refl parts.0) (all_sent rest parts.1)

pub sent : (mask : MaskParts) → IsMask mask → are_sent (mask_wire mask) ≡ true
unfolding mask_at
sent mask is =
    let digits : (mask_at (mask_wire mask)).digits ≡ mask.digits = ap (λ (m : MaskParts). m.digits) (mask_at-mask_wire mask is) in
    all_sent (unpacked_digits (take 4 (mask_wire mask))) (ap (list_all is_place) digits ∙ is.digits_are)

pub eight_sent : (mask : MaskParts) → IsMask mask → length (mask_wire mask) ≡ 8
unfolding mask_wire
eight_sent mask is =
    let front = length-packed_digits 4 (map nibble_of mask.digits) (length-map mask.digits nibble_of ∙ is.count) in
    length-append (packed_digits (map nibble_of mask.digits)) _ ∙ omega (arith, front)
