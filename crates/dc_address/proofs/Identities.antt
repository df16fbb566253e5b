-- Identities by their bytes: bytes spell one identity at most, and where the test passes they spell one.
use Rattle.std.specs.Prelude.{◌≡◌, ℕ, ◌+◌, ◌*◌, ◌/◌, ◌%◌, ◌^◌, ◌<◌, true, ◌&&◌, List, [], ◌∷◌, ◌++◌, length, take, drop, slice_index, nat_lt, ◌==◌, refl}
use Rattle.std.specs.List.{list_all}
use Rattle.std.specs.Int.Digits.{number_from_digits}
use Rattle.std.proofs.Common.{subst, ap, sym, ◌∙◌, arith, length-append, length-drop, length-take}
use Rattle.std.proofs.lemmas.List.{take-append-drop}
use Rattle.std.proofs.Math.Bridge.{le_prop}
use Rattle.std.proofs.Math.Seq.{take-append_seam, drop-append_seam}
use Rattle.std.proofs.lemmas.Bool.{and_parts, and_from, ltb-true, lt-ltb, eqb-true, eq-eqb}
use Rattle.byteorder.specs.Endian.{little_bytes, little_number}
use Rattle.dc_address.specs.Digits.{decimal_digits, packed_digits, unpacked_digits, is_digit}
use Rattle.dc_address.proofs.Decimals.{length-decimal_digits, decimal_digits-are_digits, decimal_digits-number_from_digits, same_from_decimal_digits, number_from_digits-lt, length-packed_digits, length-unpacked_digits, packed_digits-unpacked_digits, unpacked_digits-packed_digits, nibbles_from_digits}
use Rattle.dc_address.specs.Maker.{IsMaker, is_maker}
use Rattle.dc_address.proofs.Letters.{IsMaker-from_test, is_maker-of}
use Rattle.dc_address.specs.declared.identity.Identity.{Identity}
use Rattle.dc_address.specs.Identity.{wire_of, IsWire, is_identity}

abbrev pub identity_from : (number maker version kind : ℕ) → number < 100000000 → IsMaker maker → Identity
identity_from number maker version kind digits letters =
    record { number = number; maker = maker; version = version; kind = kind; has_eight_digits = digits; has_letters = letters }

below_prop : (n m : ℕ) → IsProp (n < m)
below_prop n m = hlevel le_prop

letters_prop : (m : ℕ) → IsProp (IsMaker m)
letters_prop m = hlevel le_prop

-- identities with equal fields are equal
pub same_identity : (a b : Identity) → a.number ≡ b.number → a.maker ≡ b.maker → a.version ≡ b.version → a.kind ≡ b.kind → a ≡ b
same_identity a b number maker version kind =
    subst (λ n. (h : n < 100000000) → a ≡ identity_from n a.maker a.version a.kind h a.has_letters) number
    (λ h. ap (λ q. identity_from a.number a.maker a.version a.kind q a.has_letters) (below_prop a.number 100000000 a.has_eight_digits h))
    b.has_eight_digits
    ∙ subst (λ m. (h : IsMaker m) → identity_from b.number a.maker a.version a.kind b.has_eight_digits a.has_letters ≡ identity_from b.number m a.version a.kind b.has_eight_digits h) maker
    (λ h. ap (λ q. identity_from b.number a.maker a.version a.kind b.has_eight_digits q) (letters_prop a.maker a.has_letters h))
    b.has_letters
    ∙ ap (λ v. identity_from b.number b.maker v a.kind b.has_eight_digits b.has_letters) version
    ∙ ap (λ k. identity_from b.number b.maker b.version k b.has_eight_digits b.has_letters) kind

length-number_bytes : (number : ℕ) → length (packed_digits (decimal_digits 8 number)) ≡ 4
length-number_bytes number = length-packed_digits 4 (decimal_digits 8 number) (length-decimal_digits 8 number)

unpacked-number_bytes : (number : ℕ) → unpacked_digits (packed_digits (decimal_digits 8 number)) ≡ decimal_digits 8 number
unpacked-number_bytes number =
    unpacked_digits-packed_digits 4 (decimal_digits 8 number) (length-decimal_digits 8 number)
    (nibbles_from_digits (decimal_digits 8 number) (decimal_digits-are_digits 8 number))

pub length-wire_of : (identity : Identity) → length (wire_of identity) ≡ 8
unfolding wire_of
length-wire_of identity =
    length-append (packed_digits (decimal_digits 8 identity.number)) _ ∙ omega (arith, length-number_bytes identity.number)

take-wire_of : (identity : Identity) → take 4 (wire_of identity) ≡ packed_digits (decimal_digits 8 identity.number)
unfolding wire_of
take-wire_of identity =
    let bytes : List ℕ = packed_digits (decimal_digits 8 identity.number) in
    ap (λ n. take n (wire_of identity)) (sym (length-number_bytes identity.number)) ∙ take-append_seam bytes _

drop-wire_of : (identity : Identity) → drop 4 (wire_of identity) ≡ little_bytes 2 identity.maker ++ identity.version ∷ identity.kind ∷ []
unfolding wire_of
drop-wire_of identity =
    let bytes : List ℕ = packed_digits (decimal_digits 8 identity.number) in
    ap (λ n. drop n (wire_of identity)) (sym (length-number_bytes identity.number)) ∙ drop-append_seam bytes _

maker_bytes-number : (maker : ℕ) (rest : List ℕ) → IsMaker maker → little_number 2 (little_bytes 2 maker ++ rest) ≡ maker
maker_bytes-number maker rest is = omega arith

-- bytes spell one identity at most
pub same_from_wire : (bytes : List ℕ) (a b : Identity) → IsWire bytes a → IsWire bytes b → a ≡ b
same_from_wire bytes a b is_a is_b =
    let same : wire_of a ≡ wire_of b = sym is_a ∙ is_b in
    let fronts : packed_digits (decimal_digits 8 a.number) ≡ packed_digits (decimal_digits 8 b.number) =
    sym (take-wire_of a) ∙ ap (take 4) same ∙ take-wire_of b in
    let backs : little_bytes 2 a.maker ++ a.version ∷ a.kind ∷ [] ≡ little_bytes 2 b.maker ++ b.version ∷ b.kind ∷ [] =
    sym (drop-wire_of a) ∙ ap (drop 4) same ∙ drop-wire_of b in
    let digits : decimal_digits 8 a.number ≡ decimal_digits 8 b.number =
    sym (unpacked-number_bytes a.number) ∙ ap unpacked_digits fronts ∙ unpacked-number_bytes b.number in
    same_identity a b
    (same_from_decimal_digits 8 a.number b.number a.has_eight_digits b.has_eight_digits digits)
    (sym (maker_bytes-number a.maker (a.version ∷ a.kind ∷ []) a.has_letters) ∙ ap (little_number 2) backs ∙ maker_bytes-number b.maker (b.version ∷ b.kind ∷ []) b.has_letters)
    (ap (λ bs. slice_index bs 2) backs)
    (ap (λ bs. slice_index bs 3) backs)

-- what an identity is written as passes the test
pub is_identity-wire_of : (identity : Identity) → is_identity (wire_of identity) ≡ true
unfolding is_identity
is_identity-wire_of identity =
    and_from _ _ (eq-eqb _ 8 (length-wire_of identity))
    (and_from _ _
    (ap (λ bs. list_all is_digit (unpacked_digits bs)) (take-wire_of identity)
    ∙ ap (list_all is_digit) (unpacked-number_bytes identity.number)
    ∙ decimal_digits-are_digits 8 identity.number)
    (and_from _ _
    (ap (λ bs. nat_lt (slice_index bs 0) 256) (drop-wire_of identity) ∙ lt-ltb (identity.maker % 256) 256 (omega arith))
    (ap (λ bs. is_maker (little_number 2 bs)) (drop-wire_of identity)
    ∙ ap is_maker (maker_bytes-number identity.maker (identity.version ∷ identity.kind ∷ []) identity.has_letters)
    ∙ is_maker-of identity.maker identity.has_letters)))

-- what the test asks for
pub record WireParts (bytes : List ℕ) : Type 0 where
  pub digits : list_all is_digit (unpacked_digits (take 4 bytes)) ≡ true
  pub low : slice_index (drop 4 bytes) 0 < 256
  pub maker : IsMaker (little_number 2 (drop 4 bytes))
  pub count : length bytes ≡ 8

pub test_from_parts : (bytes : List ℕ) → WireParts bytes → is_identity bytes ≡ true
unfolding is_identity
test_from_parts bytes parts =
    and_from _ _ (eq-eqb _ 8 parts.count)
    (and_from _ _ parts.digits (and_from _ _ (lt-ltb _ 256 parts.low) (is_maker-of _ parts.maker)))

pub parts_from_test : (bytes : List ℕ) → is_identity bytes ≡ true → WireParts bytes
unfolding is_identity
parts_from_test bytes is =
    let all = and_parts (length bytes == 8) (list_all is_digit (unpacked_digits (take 4 bytes)) && (nat_lt (slice_index (drop 4 bytes) 0) 256 && is_maker (little_number 2 (drop 4 bytes)))) is in
    let rest = and_parts (list_all is_digit (unpacked_digits (take 4 bytes))) (nat_lt (slice_index (drop 4 bytes) 0) 256 && is_maker (little_number 2 (drop 4 bytes))) all.1 in
    let last = and_parts (nat_lt (slice_index (drop 4 bytes) 0) 256) (is_maker (little_number 2 (drop 4 bytes))) rest.1 in
    record {
      digits = rest.0;
      low = ltb-true _ 256 last.0;
      maker = IsMaker-from_test _ last.1;
      count = eqb-true _ 8 all.0;
    }

-- four bytes are those of their number, low byte and so on
four_bytes : (rest : List ℕ) → length rest ≡ 4 → slice_index rest 0 < 256 → IsMaker (little_number 2 rest)
    → rest ≡ little_bytes 2 (little_number 2 rest) ++ slice_index rest 2 ∷ slice_index rest 3 ∷ []
four_bytes (low ∷ high ∷ version ∷ kind ∷ []) count small is =
    let first : low ≡ (low + 256 * (high + 0)) % 256 = omega arith in
    let second : high ≡ (low + 256 * (high + 0)) / 256 % 256 = omega arith in
    ap (λ b. b ∷ high ∷ version ∷ kind ∷ []) first
    ∙ ap (λ b. (low + 256 * (high + 0)) % 256 ∷ b ∷ version ∷ kind ∷ []) second
four_bytes (a ∷ b ∷ c ∷ d ∷ e ∷ rest) count small is = absurd (omega arith)
four_bytes (a ∷ b ∷ c ∷ []) count small is = absurd (omega arith)
four_bytes (a ∷ b ∷ []) count small is = absurd (omega arith)
four_bytes (a ∷ []) count small is = absurd (omega arith)
four_bytes [] count small is = absurd (omega arith)

-- the fields that eight bytes spell are those of the identity
pub wire_from_parts : (bytes : List ℕ) → WireParts bytes → (identity : Identity)
    → identity.number ≡ number_from_digits 10 (unpacked_digits (take 4 bytes))
    → identity.maker ≡ little_number 2 (drop 4 bytes)
    → identity.version ≡ slice_index (drop 4 bytes) 2 → identity.kind ≡ slice_index (drop 4 bytes) 3
    → IsWire bytes identity
unfolding wire_of
wire_from_parts bytes parts identity number maker version kind =
    let four : length (take 4 bytes) ≡ 4 = length-take 4 bytes ∙ omega (arith, parts.count) in
    let count : length (unpacked_digits (take 4 bytes)) ≡ 8 = length-unpacked_digits (take 4 bytes) ∙ omega arith in
    let digits : decimal_digits 8 identity.number ≡ unpacked_digits (take 4 bytes) =
    ap (decimal_digits 8) number
    ∙ ap (λ width. decimal_digits width (number_from_digits 10 (unpacked_digits (take 4 bytes)))) (sym count)
    ∙ decimal_digits-number_from_digits (unpacked_digits (take 4 bytes)) parts.digits in
    let back : drop 4 bytes ≡ little_bytes 2 identity.maker ++ identity.version ∷ identity.kind ∷ [] =
    four_bytes (drop 4 bytes) (omega (arith, length-drop 4 bytes, parts.count)) parts.low parts.maker
    ∙ ap (λ m. little_bytes 2 m ++ slice_index (drop 4 bytes) 2 ∷ slice_index (drop 4 bytes) 3 ∷ []) (sym maker)
    ∙ ap (λ v. little_bytes 2 identity.maker ++ v ∷ slice_index (drop 4 bytes) 3 ∷ []) (sym version)
    ∙ ap (λ k. little_bytes 2 identity.maker ++ identity.version ∷ k ∷ []) (sym kind) in
    sym (take-append-drop 4 bytes)
    ∙ ap (λ front. front ++ drop 4 bytes) (sym (packed_digits-unpacked_digits (take 4 bytes)) ∙ ap packed_digits (sym digits))
    ∙ ap (λ rest. packed_digits (decimal_digits 8 identity.number) ++ rest) back

number_fits : (bytes : List ℕ) → WireParts bytes → number_from_digits 10 (unpacked_digits (take 4 bytes)) < 100000000
number_fits bytes parts =
    let four : length (take 4 bytes) ≡ 4 = length-take 4 bytes ∙ omega (arith, parts.count) in
    let count : length (unpacked_digits (take 4 bytes)) ≡ 8 = length-unpacked_digits (take 4 bytes) ∙ omega arith in
    subst (λ n. number_from_digits 10 (unpacked_digits (take 4 bytes)) < 10 ^ n) count
    (number_from_digits-lt (unpacked_digits (take 4 bytes)) parts.digits)

-- bytes that pass the test spell an identity
pub spelled_identity : (bytes : List ℕ) → is_identity bytes ≡ true → (identity : Identity) × IsWire bytes identity
spelled_identity bytes is =
    let parts = parts_from_test bytes is in
    let identity : Identity =
    identity_from (number_from_digits 10 (unpacked_digits (take 4 bytes))) (little_number 2 (drop 4 bytes))
    (slice_index (drop 4 bytes) 2) (slice_index (drop 4 bytes) 3) (number_fits bytes parts) parts.maker in
    (identity, wire_from_parts bytes parts identity refl refl refl refl)
