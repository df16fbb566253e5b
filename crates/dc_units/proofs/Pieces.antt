-- Bytes put together in a room, and taken from a list.
use Rattle.std.proofs.Common.{◌≡◌, ℕ, zero, suc, ◌+◌, ◌-◌, ◌/◌, ◌%◌, ◌^◌, ◌<◌, ◌≤◌, ◌≢◌, List, [], ◌∷◌, ◌++◌, true, false, eqb, length, drop, set, get_or, replicate, refl, ap, sym, ◌∙◌, arith, append_assoc}
use Rattle.std.specs.Fmt.{digit_glyph}
use Rattle.std.proofs.Math.Nat.{div-div-eq-div-mul, pow-suc}
use Rattle.std.proofs.lemmas.List.{drop-set}
use Rattle.std.proofs.lemmas.Bool.Decides.{nat_tests}
use Rattle.std.specs.Prelude.{decimal}
use Rattle.dc_units.specs.Text.{last_digits, whole_text}

-- a list of one byte
pub one_byte : (bytes : List ℕ) → length bytes ≡ 1 → bytes ≡ get_or bytes 0 0 ∷ []
one_byte [] e = absurd (omega (arith, e))
one_byte (b ∷ []) e = refl
one_byte (b ∷ c ∷ bytes) e = absurd (omega (arith, e))

pub last_digits-none : (base n : ℕ) → last_digits base 0 n ≡ []
unfolding last_digits
last_digits-none base n = refl

pub last_digits-more : (base k n : ℕ) → 0 < k → last_digits base k n ≡ last_digits base (k - 1) (n / base) ++ (digit_glyph true (n % base) ∷ [])
unfolding last_digits
last_digits-more base zero n some = absurd (omega arith)
last_digits-more base (suc k) n some = let e : suc k - 1 ≡ k = omega arith in rw e refl

-- one more digit stands in the room
pub digit_more : (text : List ℕ) (base k left at digit : ℕ) (room : List ℕ) → 0 < k → 0 < at → at ≤ length room
    → digit ≡ digit_glyph true (left % base) → text ≡ last_digits base k left ++ drop at room
    → text ≡ last_digits base (k - 1) (left / base) ++ drop (at - 1) (set room (at - 1) digit)
digit_more text base k left at digit room some place fits is before =
    let back : at - 1 + 1 ≡ at = omega arith in
    let wrote : drop (at - 1) (set room (at - 1) digit) ≡ digit ∷ drop at room =
    drop-set room (at - 1) digit (omega arith) ∙ ap (λ (i : ℕ). digit ∷ drop i room) back in
    before ∙ ap (λ (t : List ℕ). t ++ drop at room) (last_digits-more base k left some)
    ∙ append_assoc (last_digits base (k - 1) (left / base)) (digit_glyph true (left % base) ∷ []) (drop at room)
    ∙ ap (λ (d : ℕ). last_digits base (k - 1) (left / base) ++ (d ∷ drop at room)) (sym is)
    ∙ ap (λ (t : List ℕ). last_digits base (k - 1) (left / base) ++ t) (sym wrote)

-- a digit is taken from what is left
pub left_more : (n base i left : ℕ) → left ≡ n / base ^ i → left / base ≡ n / base ^ (i + 1)
left_more n base i left e =
    ap (λ (m : ℕ). m / base) e ∙ div-div-eq-div-mul n (base ^ i) base
    ∙ ap (λ (m : ℕ). n / m) (sym (pow-suc base i)) ∙ ap (λ (j : ℕ). n / base ^ j) (let e : suc i ≡ i + 1 = omega arith in e)

push_same : (k d : ℕ) → replicate k d ++ (d ∷ []) ≡ d ∷ replicate k d
push_same zero d = refl
push_same (suc k) d = ap (λ (t : List ℕ). d ∷ t) (push_same k d)

-- the digits of 0
pub last_digits-zeros : (k : ℕ) → last_digits 10 k 0 ≡ replicate k 48
unfolding last_digits
last_digits-zeros zero = refl
last_digits-zeros (suc k) = ap (λ (t : List ℕ). t ++ (48 ∷ [])) (last_digits-zeros k) ∙ push_same k 48

pub whole_text-some : (n count : ℕ) → n ≢ 0 → whole_text n count ≡ decimal n ++ replicate count 48
whole_text-some n count some = let no : eqb n 0 ≡ false = grind (arith, nat_tests) in rw no refl
