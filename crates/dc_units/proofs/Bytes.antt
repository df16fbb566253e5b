-- What byteorder reads is the number of the bytes; numbers of three and four bytes in two's complement.
use Rattle.std.proofs.Common.{◌≡◌, ℕ, suc, ◌+◌, ◌*◌, ◌^◌, List, [], ◌∷◌, ◌++◌, length, get_or, None, Some, refl, ap, sym, ◌∙◌, append_assoc, length-append, arith}
use Rattle.std.proofs.Math.Seq.{get_or-append_seam}
use Rattle.byteorder.specs.Endian.{little_from, little_number, twos_complement}
use Rattle.dc_records.specs.Record.{number}
use Rattle.std.specs.Prelude.{◌==◌, if◌then◌else◌}
use Rattle.dc_units.specs.Number.{integer, unsigned, with_sign}

little_from-behind : (front bytes : List ℕ) → little_from (length front) (length bytes) (front ++ bytes) ≡ number 256 bytes
little_from-behind front [] = refl
little_from-behind front (b ∷ bytes) =
    let longer : length (front ++ (b ∷ [])) ≡ suc (length front) = length-append front (b ∷ []) ∙ (let e : length front + 1 ≡ suc (length front) = omega arith in e) in
    let whole = append_assoc front (b ∷ []) bytes in
    let here = get_or-append_seam front b bytes 0 in
    let behind : little_from (suc (length front)) (length bytes) (front ++ (b ∷ bytes)) ≡ number 256 bytes =
    ap (λ (i : ℕ). little_from i (length bytes) (front ++ (b ∷ bytes))) (sym longer)
    ∙ ap (λ (t : List ℕ). little_from (length (front ++ (b ∷ []))) (length bytes) t) (sym whole)
    ∙ little_from-behind (front ++ (b ∷ [])) bytes in
    ap (λ (x : ℕ). x + 256 * little_from (suc (length front)) (length bytes) (front ++ (b ∷ bytes))) here
    ∙ ap (λ (x : ℕ). b + 256 * x) behind

pub unsigned_bytes : (bytes : List ℕ) → little_number (length bytes) bytes ≡ unsigned bytes
unsigned_bytes bytes = little_from-behind [] bytes

pub signed_bytes : (bytes : List ℕ) → twos_complement (length bytes) (little_number (length bytes) bytes) ≡ with_sign (8 * length bytes) (unsigned bytes)
signed_bytes bytes = ap (λ (n : ℕ). twos_complement (length bytes) n) (unsigned_bytes bytes)

pub three_bytes : (bytes : List ℕ) (n : ℕ) → length bytes ≡ 3 → n ≡ get_or bytes 0 0 + 256 * (get_or bytes 1 0 + 256 * get_or bytes 2 0)
    → (if n == 2 ^ 23 then None else Some (with_sign 24 n)) ≡ integer bytes
three_bytes [] n three is = absurd (omega arith)
three_bytes (a ∷ []) n three is = absurd (omega arith)
three_bytes (a ∷ b ∷ []) n three is = absurd (omega arith)
three_bytes (a ∷ b ∷ c ∷ []) n three is =
    let same : n ≡ a + 256 * (b + 256 * (c + 256 * 0)) = omega (arith, is) in
    rw same refl
three_bytes (a ∷ b ∷ c ∷ d ∷ bytes) n three is = absurd (omega arith)

pub four_bytes : (bytes : List ℕ) (n : ℕ) → length bytes ≡ 4
    → n ≡ get_or bytes 0 0 + 256 * (get_or bytes 1 0 + 256 * (get_or bytes 2 0 + 256 * get_or bytes 3 0))
    → (if n == 2 ^ 31 then None else Some (with_sign 32 n)) ≡ integer bytes
four_bytes [] n four is = absurd (omega arith)
four_bytes (a ∷ []) n four is = absurd (omega arith)
four_bytes (a ∷ b ∷ []) n four is = absurd (omega arith)
four_bytes (a ∷ b ∷ c ∷ []) n four is = absurd (omega arith)
four_bytes (a ∷ b ∷ c ∷ d ∷ []) n four is =
    let same : n ≡ a + 256 * (b + 256 * (c + 256 * (d + 256 * 0))) = omega (arith, is) in
    rw same refl
four_bytes (a ∷ b ∷ c ∷ d ∷ e ∷ bytes) n four is = absurd (omega arith)
