-- The texts of numbers: digits, with at most one point.
use Rattle.std.proofs.Common.{arith, ◌≡◌, ◌≢◌, ◌+◌, ◌/◌, ◌%◌, ◌^◌, ◌<◌, ◌≤◌, ℕ, zero, suc, List, [], ◌∷◌, ◌++◌, Bool, true, false, length, Option, None, Some}
use Rattle.std.proofs.Common.{refl, sym, ap, ◌∙◌, if◌then◌else◌, not, get_or, eqb-true, length-append}
use Rattle.std.specs.Prelude.{◌==◌, ◌⊎◌, All, codes, decimal, nat_lt, replicate, ℤ, pos, negsuc, unsigned_abs}
use Rattle.std.specs.List.{position, position_or_len}
use Rattle.std.specs.Fmt.{digit_glyph, digits, digits_onto}
use Rattle.std.proofs.Common.{inl, inr}
use Rattle.std.proofs.lemmas.Bool.Decides.{nat_tests}
use Rattle.dc_units.specs.Text.{decimal_text, fraction_text, last_digits, sign, whole_text}
use Rattle.mbdc_audit.specs.declared.exact.Exact.{Exact}
use Rattle.mbdc_audit.specs.Published.{rounded}
use Rattle.mbdc_audit.specs.Smallest.{is_point}

-- ---- digits

abbrev IsDigit : ℕ → Type 0
IsDigit b = (48 ≤ b) × (b ≤ 57)

below_ten : (n : ℕ) → n % 10 < 10
below_ten n = omega arith

past : (d : ℕ) → nat_lt d 10 ≡ false → d < 10 → ⊥
past d e lt = grind (arith, nat_tests)

glyph_by : (upper : Bool) (d : ℕ) (b : Bool) → nat_lt d 10 ≡ b → d < 10 → IsDigit (if b then 48 + d else (if upper then 55 + d else 87 + d))
glyph_by upper d true e lt = (omega arith, omega arith)
glyph_by upper d false e lt = absurd (past d e lt)

glyph : (upper : Bool) (n : ℕ) → IsDigit (digit_glyph upper (n % 10))
glyph upper n = glyph_by upper (n % 10) (nat_lt (n % 10) 10) refl (below_ten n)

all_more : {X : Type 0} (P : X → Type 0) (x : X) (xs : List X) → P x → All P xs → All P (x ∷ xs)
all_more P x xs p all zero d lt = p
all_more P x xs p all (suc k) d lt = all k d (omega (arith, lt))

no_more : {X : Type 0} (P : X → Type 0) → All P []
no_more P k d lt = absurd (omega (arith, lt))

digits_by : (k n : ℕ) (acc : List ℕ) (b : Bool) → All IsDigit (digit_glyph false (n % 10) ∷ acc)
    → All IsDigit (digits_onto k 10 false (n / 10) (digit_glyph false (n % 10) ∷ acc))
    → All IsDigit (if b then digit_glyph false (n % 10) ∷ acc else digits_onto k 10 false (n / 10) (digit_glyph false (n % 10) ∷ acc))
digits_by k n acc true one more = one
digits_by k n acc false one more = more

are_digits : (k n : ℕ) (acc : List ℕ) → All IsDigit acc → All IsDigit (digits_onto k 10 false n acc)
are_digits zero n acc all = all
are_digits (suc k) n acc all =
    let one : All IsDigit (digit_glyph false (n % 10) ∷ acc) = all_more IsDigit (digit_glyph false (n % 10)) acc (glyph false n) all in
    digits_by k n acc (n / 10 == 0) one (are_digits k (n / 10) (digit_glyph false (n % 10) ∷ acc) one)

long_by : (k n : ℕ) (acc : List ℕ) (b : Bool) → length (digit_glyph false (n % 10) ∷ acc) ≤ length (digits_onto k 10 false (n / 10) (digit_glyph false (n % 10) ∷ acc))
    → suc (length acc) ≤ length (if b then digit_glyph false (n % 10) ∷ acc else digits_onto k 10 false (n / 10) (digit_glyph false (n % 10) ∷ acc))
long_by k n acc true le = omega arith
long_by k n acc false le = omega (arith, le)

as_long : (k n : ℕ) (acc : List ℕ) → length acc ≤ length (digits_onto k 10 false n acc)
as_long zero n acc = omega arith
as_long (suc k) n acc = omega (arith, long_by k n acc (n / 10 == 0) (as_long k (n / 10) (digit_glyph false (n % 10) ∷ acc)))

some_digits : (k n : ℕ) → 0 < k → 0 < length (digits_onto k 10 false n [])
some_digits zero n some = absurd (omega (arith, some))
some_digits (suc k) n some = omega (arith, long_by k n [] (n / 10 == 0) (as_long k (n / 10) (digit_glyph false (n % 10) ∷ [])))

decimal_digits : (n : ℕ) → All IsDigit (decimal n)
unfolding digits
decimal_digits n = are_digits 64 n [] (no_more IsDigit)

decimal_some : (n : ℕ) → 0 < length (decimal n)
unfolding digits
decimal_some n = some_digits 64 n (omega arith)

-- ---- no point

abbrev NoPoint : ℕ → Type 0
NoPoint b = b ≢ 46

all_append : {X : Type 0} (P : X → Type 0) (xs ys : List X) → All P xs → All P ys → All P (xs ++ ys)
all_append P [] ys all more = more
all_append P (x ∷ xs) ys all more = all_more P x (xs ++ ys) (all 0 x (omega arith)) (all_append P xs ys (λ k d lt. all (suc k) d (omega (arith, lt))) more)

digits_no_point : (xs : List ℕ) → All IsDigit xs → All NoPoint xs
digits_no_point xs all k d lt e = omega (arith, (all k d lt).0, e)

zeros_digits : (n : ℕ) → All IsDigit (replicate n 48)
zeros_digits zero = no_more IsDigit
zeros_digits (suc n) = all_more IsDigit 48 (replicate n 48) (omega arith, omega arith) (zeros_digits n)

whole_by : (n count : ℕ) (b : Bool) → All IsDigit (if b then codes "0" else decimal n ++ replicate count 48)
whole_by n count true = all_more IsDigit 48 [] (omega arith, omega arith) (no_more IsDigit)
whole_by n count false = all_append IsDigit (decimal n) (replicate count 48) (decimal_digits n) (zeros_digits count)

sign_no_point : (m : ℤ) → All NoPoint (sign m)
sign_no_point (pos n) = no_more NoPoint
sign_no_point (negsuc n) = all_more NoPoint 45 [] (λ e. omega (arith, e)) (no_more NoPoint)

-- ---- where the point is

past_by : (x : ℕ) (b : Bool) (n m : ℕ) → (x == 46) ≡ b → (x ≢ 46) → n ≡ m → (if not b then 1 + n else 0) ≡ suc m
past_by x true n m e isnt same = absurd (isnt (eqb-true x 46 e))
past_by x false n m e isnt same = omega (arith, same)

point_past : (p rest : List ℕ) → All NoPoint p → position_or_len is_point (p ++ (46 ∷ rest)) ≡ length p
point_past [] rest all = refl
point_past (x ∷ p) rest all = past_by x (x == 46) (position_or_len is_point (p ++ (46 ∷ rest))) (length p) refl (all 0 x (omega arith))
    (point_past p rest (λ k d lt. all (suc k) d (omega (arith, lt))))

none_past : (p : List ℕ) → All NoPoint p → position_or_len is_point p ≡ length p
none_past [] all = refl
none_past (x ∷ p) all = past_by x (x == 46) (position_or_len is_point p) (length p) refl (all 0 x (omega arith))
    (none_past p (λ k d lt. all (suc k) d (omega (arith, lt))))

below : (m n : ℕ) → m < n → nat_lt m n ≡ true
below m n lt = grind (arith, nat_tests)

same_not_below : (m n : ℕ) → m ≡ n → nat_lt m n ≡ false
same_not_below m n e = grind (arith, nat_tests)

point_at : (p rest : List ℕ) → All NoPoint p → position is_point (p ++ (46 ∷ rest)) ≡ Some (length p)
point_at p rest all =
    ap (λ (n : ℕ). if nat_lt n (length (p ++ (46 ∷ rest))) then Some n else None) (point_past p rest all)
    ∙ ap (λ (b : Bool). if b then Some (length p) else None) (below (length p) (length (p ++ (46 ∷ rest))) (omega (arith, length-append p (46 ∷ rest))))

no_point : (p : List ℕ) → All NoPoint p → position is_point p ≡ None
no_point p all = ap (λ (b : Bool). if b then Some (position_or_len is_point p) else None) (same_not_below (position_or_len is_point p) (length p) (none_past p all))

-- ---- the texts of numbers

whole_no_point : (m : ℤ) (n : ℕ) → All NoPoint (sign m ++ whole_text n 0)
whole_no_point m n = all_append NoPoint (sign m) (whole_text n 0) (sign_no_point m) (digits_no_point (whole_text n 0) (whole_by n 0 (n == 0)))

append_assoc_2 : (xs ys zs : List ℕ) → xs ++ (ys ++ zs) ≡ (xs ++ ys) ++ zs
append_assoc_2 [] ys zs = refl
append_assoc_2 (x ∷ xs) ys zs = ap (λ (l : List ℕ). x ∷ l) (append_assoc_2 xs ys zs)

last_length : (count n : ℕ) → length (last_digits 10 count n) ≡ count
unfolding last_digits
last_length zero n = refl
last_length (suc count) n = omega (arith, length-append (last_digits 10 count (n / 10)) (digit_glyph true (n % 10) ∷ []), last_length count (n / 10))

pointed : (m : ℤ) (n places : ℕ) → (i : ℕ) × (position is_point (sign m ++ fraction_text n places) ≡ Some i) × (length (sign m ++ fraction_text n places) ≡ i + 1 + places)
pointed m n places =
    let front : List ℕ = sign m ++ decimal (n / 10 ^ places) in
    let back : List ℕ = last_digits 10 places n in
    let whole : sign m ++ fraction_text n places ≡ front ++ (46 ∷ back) = append_assoc_2 (sign m) (decimal (n / 10 ^ places)) (46 ∷ back) in
    let none : All NoPoint front = all_append NoPoint (sign m) (decimal (n / 10 ^ places)) (sign_no_point m) (digits_no_point (decimal (n / 10 ^ places)) (decimal_digits (n / 10 ^ places))) in (
      length front,
      ap (λ (l : List ℕ). position is_point l) whole ∙ point_at front back none,
      omega (arith, ap (λ (l : List ℕ). length l) whole, length-append front (46 ∷ back), last_length places n),
    )

pub decimals_is : (x : Exact) (d : ℕ) (text : List ℕ) (point : Option ℕ) → text ≡ decimal_text (rounded x d) → point ≡ position is_point text
    → ((point ≡ None) × (d ≡ 0)) ⊎ ((i : ℕ) × (point ≡ Some i) × (length text ≡ i + 1 + d))
decimals_is x zero text point e f = inl (
  f ∙ (ap (λ (l : List ℕ). position is_point l) e
      ∙ no_point (decimal_text (rounded x 0)) (whole_no_point (rounded x 0).mantissa (unsigned_abs (rounded x 0).mantissa))),
  refl,
)
decimals_is x (suc k) text point e f =
    let p = pointed (rounded x (suc k)).mantissa (unsigned_abs (rounded x (suc k)).mantissa) (suc k) in
    inr (p.0, f ∙ (ap (λ (l : List ℕ). position is_point l) e ∙ p.1), ap (λ (l : List ℕ). length l) e ∙ p.2)

-- ---- a dash is no number's text

two_long : (xs : List ℕ) → 0 < length xs → (45 ∷ xs) ≡ codes "-" → ⊥
two_long [] some e = absurd (omega (arith, some))
two_long (x ∷ xs) some e = absurd cc

dash_after : (s t : List ℕ) → (s ≡ []) ⊎ (s ≡ codes "-") → 0 < length t → (get_or t 0 0 ≢ 45) → s ++ t ≡ codes "-" → ⊥
dash_after s [] either some first e = absurd (omega (arith, some))
dash_after s (x ∷ t) (inl none) some first e = first (ap (λ (l : List ℕ). get_or l 0 0) (ap (λ (l : List ℕ). l ++ (x ∷ t)) (sym none) ∙ e))
dash_after s (x ∷ t) (inr dash) some first e = two_long (x ∷ t) some (ap (λ (l : List ℕ). l ++ (x ∷ t)) (sym dash) ∙ e)

signed : (m : ℤ) → (sign m ≡ []) ⊎ (sign m ≡ codes "-")
signed (pos n) = inl refl
signed (negsuc n) = inr refl

whole_some : (n : ℕ) (b : Bool) → 0 < length (if b then codes "0" else decimal n ++ replicate 0 48)
whole_some n true = omega arith
whole_some n false = omega (arith, decimal_some n, length-append (decimal n) (replicate 0 48))

first_digit : (xs : List ℕ) → 0 < length xs → All IsDigit xs → get_or xs 0 0 ≢ 45
first_digit xs some all e = omega (arith, (all 0 0 some).0, e)

front_digit : (xs ys : List ℕ) → 0 < length xs → All IsDigit xs → (0 < length (xs ++ ys)) × (get_or (xs ++ ys) 0 0 ≢ 45)
front_digit [] ys some all = absurd (omega (arith, some))
front_digit (x ∷ xs) ys some all = (omega arith, λ e. omega (arith, (all 0 x (omega arith)).0, e))

pub no_dash : (x : Exact) (d : ℕ) → decimal_text (rounded x d) ≢ codes "-"
no_dash x zero = dash_after (sign (rounded x 0).mantissa) (whole_text (unsigned_abs (rounded x 0).mantissa) 0) (signed (rounded x 0).mantissa)
    (whole_some (unsigned_abs (rounded x 0).mantissa) (unsigned_abs (rounded x 0).mantissa == 0))
    (first_digit (whole_text (unsigned_abs (rounded x 0).mantissa) 0) (whole_some (unsigned_abs (rounded x 0).mantissa) (unsigned_abs (rounded x 0).mantissa == 0))
    (whole_by (unsigned_abs (rounded x 0).mantissa) 0 (unsigned_abs (rounded x 0).mantissa == 0)))
no_dash x (suc k) =
    let n : ℕ = unsigned_abs (rounded x (suc k)).mantissa in
    let two = front_digit (decimal (n / 10 ^ suc k)) (46 ∷ last_digits 10 (suc k) n) (decimal_some (n / 10 ^ suc k)) (decimal_digits (n / 10 ^ suc k)) in
    dash_after (sign (rounded x (suc k)).mantissa) (fraction_text n (suc k)) (signed (rounded x (suc k)).mantissa) two.0 two.1

pub none_at : (x : Exact) (d : ℕ) (text : List ℕ) → text ≡ decimal_text (rounded x d) → None ≡ position is_point text → 0 ≡ d
none_at x d text e f = elim (decimals_is x d text None e f) [
  | inl none ↦ sym none.1
  | inr some ↦ absurd cc
]

one : (i j : ℕ) → Some i ≡ Some j → i ≡ j
one i j e = cc

pub some_at : (x : Exact) (d i : ℕ) (text : List ℕ) → text ≡ decimal_text (rounded x d) → Some i ≡ position is_point text → length text ≡ i + 1 + d
some_at x d i text e f = elim (decimals_is x d text (Some i) e f) [
  | inl none ↦ absurd cc
  | inr some ↦ some.2 ∙ ap (λ (j : ℕ). j + 1 + d) (sym (one i some.0 some.1))
]
