-- What reading eight bytes as an identity finds.
use Rattle.std.proofs.Common.{◌≡◌, ◌<◌, ℕ, List, [], ◌∷◌, true, false, IsTrue, Option, Some, None, IfSome, is_some, take, drop, length, get_or, nat_lt, ◌==◌, arith, ap, sym, ◌∙◌, refl}
use Rattle.std.specs.List.{list_all}
use Rattle.std.proofs.lemmas.Bool.{and_left, and_right}
use Rattle.byteorder.specs.Endian.{little_number}
use Rattle.dc_address.specs.Digits.{decimal_digits, is_nibble, is_digit, unpacked_digits}
use Rattle.dc_address.proofs.Decimals.{decimal_digits-are_digits, nibbles_from_digits}
use Rattle.dc_address.specs.Maker.{is_maker}
use Rattle.dc_address.proofs.Letters.{IsMaker-from_test}
use Rattle.dc_address.specs.Identity.{IsWire, is_identity}
use Rattle.dc_address.proofs.Identities.{is_identity-wire_of, same_from_wire, WireParts}
use Rattle.dc_address.specs.declared.identity.Identity.{Identity}

-- digits fit halves of a byte
pub nibbles : (digits : List ℕ) (number : ℕ) → digits ≡ decimal_digits 8 number → IsTrue (list_all is_nibble digits)
nibbles digits number are =
    ap (list_all is_nibble) are ∙ nibbles_from_digits (decimal_digits 8 number) (decimal_digits-are_digits 8 number)

pub four_of : (bytes : List ℕ) → length bytes ≡ 4 → get_or bytes 0 0 ∷ get_or bytes 1 0 ∷ get_or bytes 2 0 ∷ get_or bytes 3 0 ∷ [] ≡ bytes
four_of (a ∷ b ∷ c ∷ d ∷ []) four = refl
four_of (a ∷ b ∷ c ∷ d ∷ e ∷ rest) four = absurd (omega arith)
four_of (a ∷ b ∷ c ∷ []) four = absurd (omega arith)
four_of (a ∷ b ∷ []) four = absurd (omega arith)
four_of (a ∷ []) four = absurd (omega arith)
four_of [] four = absurd (omega arith)

pub front_of : (bytes : List ℕ) → length bytes ≡ 8 → take 4 bytes ≡ get_or bytes 0 0 ∷ get_or bytes 1 0 ∷ get_or bytes 2 0 ∷ get_or bytes 3 0 ∷ []
front_of (a ∷ b ∷ c ∷ d ∷ rest) eight = refl
front_of (a ∷ b ∷ c ∷ []) eight = absurd (omega arith)
front_of (a ∷ b ∷ []) eight = absurd (omega arith)
front_of (a ∷ []) eight = absurd (omega arith)
front_of [] eight = absurd (omega arith)

pub back_of : (bytes : List ℕ) → length bytes ≡ 8 → drop 4 bytes ≡ get_or bytes 4 0 ∷ get_or bytes 5 0 ∷ get_or bytes 6 0 ∷ get_or bytes 7 0 ∷ []
back_of (a ∷ b ∷ c ∷ d ∷ e ∷ f ∷ g ∷ h ∷ []) eight = refl
back_of (a ∷ b ∷ c ∷ d ∷ e ∷ f ∷ g ∷ h ∷ i ∷ rest) eight = absurd (omega arith)
back_of (a ∷ b ∷ c ∷ d ∷ e ∷ f ∷ g ∷ []) eight = absurd (omega arith)
back_of (a ∷ b ∷ c ∷ d ∷ e ∷ f ∷ []) eight = absurd (omega arith)
back_of (a ∷ b ∷ c ∷ d ∷ e ∷ []) eight = absurd (omega arith)
back_of (a ∷ b ∷ c ∷ d ∷ []) eight = absurd (omega arith)
back_of (a ∷ b ∷ c ∷ []) eight = absurd (omega arith)
back_of (a ∷ b ∷ []) eight = absurd (omega arith)
back_of (a ∷ []) eight = absurd (omega arith)
back_of [] eight = absurd (omega arith)

-- an answer that spells the bytes, and comes where the test passes, is the only one
pub only_answer : (bytes : List ℕ) (answer : Option Identity) → is_some answer ≡ is_identity bytes → IfSome answer (λ found. IsWire bytes found)
    → (identity : Identity) → IsWire bytes identity → answer ≡ Some identity
only_answer bytes (Some found) test spelled identity is = ap Some (same_from_wire bytes found identity spelled is)
only_answer bytes None test spelled identity is =
    let passes : is_identity bytes ≡ true = ap is_identity is ∙ is_identity-wire_of identity in cc

pub refused_by_digits : (bytes : List ℕ) → list_all is_digit (unpacked_digits (take 4 bytes)) ≡ false → is_identity bytes ≡ false
unfolding is_identity
refused_by_digits bytes not = and_right (length bytes == 8) _ (and_left _ _ not)

pub refused_by_maker : (bytes : List ℕ) → is_maker (little_number 2 (drop 4 bytes)) ≡ false → is_identity bytes ≡ false
unfolding is_identity
refused_by_maker bytes not =
    and_right (length bytes == 8) _ (and_right (list_all is_digit (unpacked_digits (take 4 bytes))) _ (and_right (nat_lt (get_or (drop 4 bytes) 0 0) 256) _ not))

pub digits_read : (bytes digits : List ℕ) → length bytes ≡ 8
    → digits ≡ unpacked_digits (get_or bytes 0 0 ∷ get_or bytes 1 0 ∷ get_or bytes 2 0 ∷ get_or bytes 3 0 ∷ [])
    → digits ≡ unpacked_digits (take 4 bytes)
digits_read bytes digits eight are = are ∙ ap unpacked_digits (sym (front_of bytes eight))

pub maker_read : (bytes : List ℕ) (maker : ℕ) → length bytes ≡ 8
    → maker ≡ little_number 2 (get_or bytes 4 0 ∷ get_or bytes 5 0 ∷ [])
    → maker ≡ little_number 2 (drop 4 bytes)
maker_read bytes maker eight is = is ∙ ap (little_number 2) (sym (back_of bytes eight))

pub parts_read : (bytes : List ℕ) → length bytes ≡ 8 → get_or bytes 4 0 < 256 → list_all is_digit (unpacked_digits (take 4 bytes)) ≡ true
    → is_maker (little_number 2 (drop 4 bytes)) ≡ true → WireParts bytes
parts_read bytes eight small are is = record {
  digits = are;
  low = rw (back_of bytes eight) small;
  maker = IsMaker-from_test _ is;
  count = eight;
}
