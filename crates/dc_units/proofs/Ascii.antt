-- The texts are ASCII.
use Rattle.std.proofs.Common.{ℕ, zero, suc, ◌*◌, ◌/◌, ◌%◌, ◌^◌, ◌<◌, ◌≤◌, true, false, cond, eqb, List, [], ◌∷◌, ◌++◌, replicate, arith, lit<, ℤ, pos, negsuc}
use Rattle.std.specs.Prelude.{IsAscii, codes, decimal}
use Rattle.std.specs.Fmt.{digit_glyph}
use Rattle.std.proofs.Math.Nat.{div-le_self}
use Rattle.std.proofs.lemmas.Bool.Decides.{nat_tests}
use Rattle.std.proofs.lemmas.Fmt.{IsAscii-decimal}
use Rattle.std.proofs.lemmas.Str.{IsAscii-append}
use Rattle.std.proofs.lemmas.Str.Ascii.{IsAscii-nil, IsAscii-cons, IsAscii-push}
use Rattle.dc_units.specs.Date.{Day}
use Rattle.dc_units.specs.Text.{last_digits, sign, whole_text, fraction_text, day_text, minute_text}

one_ascii : (b : ℕ) → b < 128 → IsAscii (b ∷ [])
one_ascii b low = IsAscii-cons b [] low IsAscii-nil

glyph_ascii : (d : ℕ) → d < 16 → digit_glyph true d < 128
glyph_ascii d low = grind (arith, nat_tests)

pub last_digits-ascii : (base count n : ℕ) → 0 < base → base ≤ 16 → IsAscii (last_digits base count n)
unfolding last_digits
last_digits-ascii base zero n some few = IsAscii-nil
last_digits-ascii base (suc count) n some few =
    let low : n % base < base = omega arith in
    IsAscii-push (last_digits base count (n / base)) (digit_glyph true (n % base)) (last_digits-ascii base count (n / base) some few)
    (glyph_ascii (n % base) (omega arith))

tens : (count n : ℕ) → IsAscii (last_digits 10 count n)
tens count n = let some : 0 < 10 = lit< tt in last_digits-ascii 10 count n some (omega arith)

zeros_ascii : (count : ℕ) → IsAscii (replicate count 48)
zeros_ascii zero = IsAscii-nil
zeros_ascii (suc count) = IsAscii-cons 48 (replicate count 48) (lit< tt) (zeros_ascii count)

pub fraction_ascii : (n places : ℕ) → n < 2 ^ 64 → IsAscii (fraction_text n places)
fraction_ascii n places fits =
    let whole : n / 10 ^ places < 2 ^ 64 = omega (arith, div-le_self n (10 ^ places)) in
    IsAscii-append (decimal (n / 10 ^ places)) _ (IsAscii-decimal (n / 10 ^ places) whole)
    (IsAscii-cons 46 (last_digits 10 places n) (lit< tt) (tens places n))

pub whole_ascii : (n count : ℕ) → n < 2 ^ 64 → IsAscii (whole_text n count)
whole_ascii n count fits =
    elim (eqb n 0) as (λ b. IsAscii (cond b (codes "0") (decimal n ++ replicate count 48))) [
      | true ↦ one_ascii 48 (lit< tt)
      | false ↦ IsAscii-append (decimal n) (replicate count 48) (IsAscii-decimal n fits) (zeros_ascii count)
    ]

pub sign_ascii : (z : ℤ) (text : List ℕ) → IsAscii text → IsAscii (sign z ++ text)
sign_ascii (pos n) text h = h
sign_ascii (negsuc n) text h = IsAscii-cons 45 text (lit< tt) h

pub day_ascii : (d : Day) → IsAscii (day_text d)
day_ascii d =
    IsAscii-append _ _ (tens 4 d.year) (IsAscii-cons 45 _ (lit< tt) (IsAscii-append _ _ (tens 2 d.month) (IsAscii-cons 45 _ (lit< tt) (tens 2 d.day))))

pub minute_ascii : (d : Day) (hour minute : ℕ) → IsAscii (minute_text d hour minute)
minute_ascii d hour minute =
    IsAscii-append _ _ (day_ascii d) (IsAscii-cons 84 _ (lit< tt) (IsAscii-append _ _ (tens 2 hour) (IsAscii-cons 58 _ (lit< tt) (tens 2 minute))))

pub none_ascii : IsAscii (codes "none")
none_ascii =
    IsAscii-cons 110 (codes "one") (lit< tt) (IsAscii-cons 111 (codes "ne") (lit< tt) (IsAscii-cons 110 (codes "e") (lit< tt) (one_ascii 101 (lit< tt))))

pub flags_ascii : (len bits : ℕ) → IsAscii (last_digits 16 (2 * len) bits)
flags_ascii len bits = let some : 0 < 16 = lit< tt in last_digits-ascii 16 (2 * len) bits some (omega arith)

pub ruleset value_texts = (flags_ascii, day_ascii, minute_ascii, none_ascii)
