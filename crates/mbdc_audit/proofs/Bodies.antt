-- Bytes in two capital hex digits each.
use Rattle.std.proofs.Common.{◌≡◌, ℕ, zero, suc, ◌+◌, ◌-◌, ◌*◌, ◌/◌, ◌%◌, ◌<◌, ◌&&◌, List, [], ◌∷◌, ◌++◌, length, get_or, Bool, true, false, refl, ap, sym, ◌∙◌, subst, arith, Some, take, ◌⊎◌, inl, inr}
use Rattle.std.specs.Prelude.{◌↔◌, All, IsTrue, nat_le, nat_lt, if◌then◌else◌}
use Rattle.std.specs.List.{list_all, AllByRecursion}
use Rattle.std.proofs.lemmas.Bool.{and_from, and_parts}
use Rattle.std.proofs.lemmas.Bool.Decides.{nat_tests}
use Rattle.std.proofs.lemmas.Option.{same_Some}
use Rattle.mbdc_io.proofs.Digits.{read_back}
use Rattle.mbdc_io.specs.Hex.{bytes_of, upper_digit, upper_pair, upper_hex}
use Rattle.mbdc_audit.specs.declared.field.Kind.TheVariants as kind
use Rattle.mbdc_audit.specs.Line.{IsBody, IsTypeOf, is_of, may_have}

abbrev may : ℕ → Bool
may b = may_have kind.Bodies b

-- ---- one digit

abbrev value : ℕ → ℕ
value b = if nat_le b 57 then b - 48 else b - 55

low : (b : ℕ) → may b ≡ true → value b < 16
unfolding may_have
low b is = grind (arith, nat_tests)

digit : (b : ℕ) → may b ≡ true → upper_digit (value b) ≡ b
unfolding may_have
digit b is = grind (arith, nat_tests)

upper : (n : ℕ) → n < 16 → may (upper_digit n) ≡ true
unfolding may_have
upper n below = grind (arith, nat_tests)

-- ---- two

pair : (x y : ℕ) → x < 16 → y < 16 → upper_pair (16 * x + y) ≡ upper_digit x ∷ upper_digit y ∷ []
pair x y lt lt' =
    let high : (16 * x + y) / 16 ≡ x = omega arith in
    let back : (16 * x + y) % 16 ≡ y = omega arith in
    ap (λ (n : ℕ). upper_digit n ∷ upper_digit ((16 * x + y) % 16) ∷ []) high
    ∙ ap (λ (n : ℕ). upper_digit x ∷ upper_digit n ∷ []) back

two : (a b : ℕ) → may a ≡ true → may b ≡ true → upper_pair (16 * value a + value b) ≡ a ∷ b ∷ []
two a b is is' = pair (value a) (value b) (low a is) (low b is')
    ∙ ap (λ (n : ℕ). n ∷ upper_digit (value b) ∷ []) (digit a is)
    ∙ ap (λ (n : ℕ). a ∷ n ∷ []) (digit b is')

small : (a b : ℕ) → may a ≡ true → may b ≡ true → 16 * value a + value b < 256
small a b is is' = let x = low a is in let y = low b is' in omega arith

-- ---- all

abbrev bytes_in : List ℕ → List ℕ
bytes_in [] = []
bytes_in (a ∷ []) = []
bytes_in (a ∷ b ∷ rest) = (16 * value a + value b) ∷ bytes_in rest

pub all_cons : {X : Type 0} (P : X → Type 0) (x : X) (xs : List X) → P x → All P xs → All P (x ∷ xs)
all_cons P x xs here more zero d lt = here
all_cons P x xs here more (suc k) d lt = more k d (omega arith)

pub all_rest : {X : Type 0} (P : X → Type 0) (x : X) (xs : List X) → All P (x ∷ xs) → All P xs
all_rest P x xs all = λ k d lt. all (suc k) d (omega arith)

pub all_front : {X : Type 0} (P : X → Type 0) (x : X) (xs : List X) → All P (x ∷ xs) → P x
all_front P x xs all = all 0 x (omega arith)

even_rest : (a b : ℕ) (rest : List ℕ) → length (a ∷ b ∷ rest) % 2 ≡ 0 → length rest % 2 ≡ 0
even_rest a b rest e = omega arith

spelled_in : (s : List ℕ) → length s % 2 ≡ 0 → list_all may s ≡ true
    → (s ≡ upper_hex (bytes_in s)) × All (λ b. b < 256) (bytes_in s) × (2 * length (bytes_in s) ≡ length s)
unfolding upper_hex
spelled_in [] even all = (refl, (λ k d lt. absurd (omega arith)), refl)
spelled_in (a ∷ []) even all = absurd (omega arith)
spelled_in (a ∷ b ∷ rest) even all =
    let of_a = and_parts (may a) (list_all may (b ∷ rest)) all in
    let of_b = and_parts (may b) (list_all may rest) of_a.1 in
    let more = spelled_in rest (even_rest a b rest even) of_b.1 in
    let here : upper_hex (bytes_in (a ∷ b ∷ rest)) ≡ a ∷ b ∷ upper_hex (bytes_in rest) =
    ap (λ (t : List ℕ). t ++ upper_hex (bytes_in rest)) (two a b of_a.0 of_b.0) in (
      sym (here ∙ ap (λ (t : List ℕ). a ∷ b ∷ t) (sym more.0)),
      all_cons (λ b. b < 256) _ (bytes_in rest) (small a b of_a.0 of_b.0) more.1,
      (let count = more.2 in omega arith),
    )

long : (bytes : List ℕ) → length (upper_hex bytes) ≡ 2 * length bytes
unfolding upper_hex
long [] = refl
long (b ∷ bytes) = let more = long bytes in omega arith

are : (bytes : List ℕ) → All (λ b. b < 256) bytes → list_all may (upper_hex bytes) ≡ true
unfolding upper_hex
are [] all = refl
are (b ∷ bytes) all =
    let few : b < 256 = all_front (λ b. b < 256) b bytes all in
    and_from _ _ (upper (b / 16) (omega arith))
    (and_from _ _ (upper (b % 16) (omega arith)) (are bytes (all_rest (λ b. b < 256) b bytes all)))

body_even : (s : List ℕ) → IsBody s → length s % 2 ≡ 0
body_even s is = let all = ap length is.3 in let count = long is.0 in omega arith

pub not_even : (s : List ℕ) → (length s % 2 ≡ 0 → ⊥) → IsTrue false ↔ IsBody s
not_even s odd = ((λ no. cc), (λ is. absurd (odd (body_even s is))))

is_one : (s : List ℕ) → length s % 2 ≡ 0 → is_of kind.Bodies (length s) s ≡ true → IsBody s
is_one s even is =
    let parts = and_parts (nat_lt 0 (length s)) (nat_le (length s) (length s) && list_all may s) is in
    let all = and_parts (nat_le (length s) (length s)) (list_all may s) parts.1 in
    let spells = spelled_in s even all.1 in
    let some : 0 < length s = grind (arith, nat_tests, parts.0) in
    (bytes_in s, (let count = spells.2 in omega arith), spells.1, spells.0)

one_is : (s : List ℕ) → IsBody s → is_of kind.Bodies (length s) s ≡ true
one_is s is =
    let all = ap length is.3 in
    let count = long is.0 in
    let some : 0 < length s = (let more = is.1 in omega arith) in
    and_from _ _ (grind (arith, nat_tests)) (and_from _ _ (grind (arith, nat_tests))
    (subst (λ (t : List ℕ). list_all may t ≡ true) (sym is.3) (are is.0 is.2)))

pub even : (s : List ℕ) → length s % 2 ≡ 0 → IsTrue (is_of kind.Bodies (length s) s) ↔ IsBody s
even s is_even = (is_one s is_even, one_is s)

-- ---- fields

-- ---- a device type

recursive : (bytes : List ℕ) → All (λ b. b < 256) bytes → AllByRecursion (λ b. b < 256) bytes
recursive [] all = tt
recursive (b ∷ bytes) all = (all_front (λ b. b < 256) b bytes all, recursive bytes (all_rest (λ b. b < 256) b bytes all))

one_byte : (b : ℕ) → b < 256 → All (λ b. b < 256) (b ∷ [])
one_byte b few = all_cons (λ b. b < 256) b [] few (λ k d lt. absurd (omega arith))

first_byte : (bytes out : List ℕ) (n : ℕ) → length bytes ≡ 1 → length out ≡ 1 → n ≡ 1 → Some bytes ≡ Some (take n out) → bytes ≡ get_or out 0 0 ∷ []
first_byte bytes [] n one one' is same = absurd (omega arith)
first_byte bytes (x ∷ []) n one one' is same = same_Some bytes (x ∷ []) (same ∙ ap (λ (k : ℕ). Some (take k (x ∷ []))) is)
first_byte bytes (x ∷ y ∷ out) n one one' is same = absurd (omega arith)

pub type_found : (field out : List ℕ) (n : ℕ) → length field ≡ 2 → length out ≡ 1 → IsBody field → bytes_of field ≡ Some (take n out)
    → 2 * n ≡ length field → IsTypeOf field (get_or out 0 0)
type_found field out n two one is same count =
    let all = ap length is.3 in
    let twice = long is.0 in
    let single : length is.0 ≡ 1 = omega arith in
    let back : Some is.0 ≡ Some (take n out) = sym (read_back is.0 (recursive is.0 is.2)) ∙ ap bytes_of (sym is.3) ∙ same in
    let bytes = first_byte is.0 out n single one (omega arith) back in
    (all_front (λ b. b < 256) _ [] (subst (λ (xs : List ℕ). All (λ b. b < 256) xs) bytes is.2), is.3 ∙ ap upper_hex bytes)

type_length : (field : List ℕ) (n : ℕ) → IsTypeOf field n → length field ≡ 2
type_length field n is = let all = ap length is.1 in let twice = long (n ∷ []) in omega arith

type_body : (field : List ℕ) (n : ℕ) → IsTypeOf field n → IsBody field
type_body field n is = (n ∷ [], (omega arith), one_byte n is.0, is.1)

pub no_type : (field : List ℕ) (n : ℕ) → IsTypeOf field n → ((length field ≡ 2 → ⊥) ⊎ (IsBody field → ⊥)) → ⊥
no_type field n is (inl other) = other (type_length field n is)
no_type field n is (inr other) = other (type_body field n is)

pub type_spelled : (field : List ℕ) (n : ℕ) → IsTypeOf field n → bytes_of field ≡ Some (n ∷ [])
type_spelled field n is = ap bytes_of is.1 ∙ read_back (n ∷ []) (is.0, tt)

pub type_only : (field out : List ℕ) (n m : ℕ) → length out ≡ 1 → bytes_of field ≡ Some (take n out) → 2 * n ≡ length field
    → IsTypeOf field m → get_or out 0 0 ≡ m
type_only field out n m one same count is =
    let two = type_length field m is in
    let bytes = first_byte (m ∷ []) out n refl one (omega arith) (sym (type_spelled field m is) ∙ same) in
    sym (ap (λ (xs : List ℕ). get_or xs 0 0) bytes)
