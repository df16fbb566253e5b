-- A place has one host and one port: no port has a colon.
use Rattle.std.proofs.Common.{◌≡◌, ◌≢◌, ℕ, zero, suc, ◌+◌, ◌-◌, ◌<◌, ◌≤◌, List, [], ◌∷◌, ◌++◌, length, get_or, take, drop, arith, Some, None, sym, refl, subst, ◌∙◌, inl, inr, lit<}
use Rattle.std.specs.Str.Parse.{AllDigits}
use Rattle.std.specs.Str.Pattern.{RFindsChar}
use Rattle.std.proofs.lemmas.Bool.{cases_lt}
use Rattle.std.proofs.lemmas.Bool.Decides.{nat_tests}
use Rattle.std.proofs.lemmas.List.{get_or-append_right, take-append-drop, length-append}
use Rattle.std.proofs.Math.Seq.{get_or-append_seam}
use Rattle.std.proofs.lemmas.Str.Pattern.{NoCharPasses-char, drop_at_char}
use Rattle.mbdc_commands.specs.Link.{IsPort, IsPlace}

-- no byte of a numeral is a colon
pub digits_lack_colon : (ds : List ℕ) (k : ℕ) → AllDigits 10 ds → k < length ds → get_or ds k 0 ≢ 58
digits_lack_colon [] k all short = absurd (omega arith)
digits_lack_colon (d ∷ ds) zero all short = λ e. let low = all.0 in absurd (grind (arith, nat_tests, low, e))
digits_lack_colon (d ∷ ds) (suc k) all short = digits_lack_colon ds k all.1 (omega arith)

-- where no byte of the second tail is a colon, its colon isn't before the other's
pub colon_not_before : (s a x b y : List ℕ) → s ≡ a ++ (58 ∷ x) → s ≡ b ++ (58 ∷ y)
    → ((k : ℕ) → k < length y → get_or y k 0 ≢ 58) → length a ≤ length b
colon_not_before s a x b y one two lacks = elim (cases_lt (length b) (length a)) [
  | inr within ↦ within
  | inl before ↦
      (let k = length a - length b - 1 in
      let here : get_or s (length a) 0 ≡ 58 = rw one (get_or-append_seam a 58 x 0) in
      let there : get_or s (length a) 0 ≡ get_or (58 ∷ y) (length a - length b) 0 =
      rw two (get_or-append_right b (58 ∷ y) (length b) (length a) 0 refl (omega arith)) in
      let index : length a - length b ≡ suc k = omega arith in
      let in_tail : get_or y k 0 ≡ 58 = sym (rw index at there) ∙ here in
      let long : length s ≡ length a + suc (length x) = rw one (length-append a (58 ∷ x)) in
      let long_too : length s ≡ length b + suc (length y) = rw two (length-append b (58 ∷ y)) in
      absurd (lacks k (omega arith) in_tail))
]

-- what follows a colon
tail_of : (a x : List ℕ) → drop (suc (length a)) (a ++ (58 ∷ x)) ≡ x
tail_of [] x = refl
tail_of (b ∷ bs) x = tail_of bs x

-- so two splits at a colon after which none follows are one
pub one_split : (s a x b y : List ℕ) → s ≡ a ++ (58 ∷ x) → s ≡ b ++ (58 ∷ y)
    → ((k : ℕ) → k < length x → get_or x k 0 ≢ 58) → ((k : ℕ) → k < length y → get_or y k 0 ≢ 58)
    → (length a ≡ length b) × (x ≡ y)
one_split s a x b y one two clear clear_too =
    let up = colon_not_before s a x b y one two clear_too in
    let down = colon_not_before s b y a x two one clear in
    let same : length a ≡ length b = omega arith in
    let front : drop (suc (length a)) s ≡ x = rw one (tail_of a x) in
    let back : drop (suc (length b)) s ≡ y = rw two (tail_of b y) in
    (same, sym front ∙ (rw same back))

-- what `rsplit_once` at a colon gives
pub split_at_last : (s front back : List ℕ) (i j : ℕ) → RFindsChar 58 s (Some (i, j)) → front ≡ take i s → back ≡ drop j s
    → (s ≡ front ++ (58 ∷ back)) × ((k : ℕ) → k < length back → get_or back k 0 ≢ 58)
split_at_last s front back i j found is_front is_back =
    let small : 58 < 128 = lit< tt in
    let after : drop i s ≡ 58 ∷ drop j s = drop_at_char 58 s i j found.1 small in
    let whole : s ≡ front ++ (58 ∷ back) = rw (is_front, is_back, ← after) (sym (take-append-drop i s)) in
    (whole, λ k short. rw is_back (NoCharPasses-char 58 (drop j s) k found.0 small (subst (λ l. k < length l) is_back short)))

-- so these are host and port of the place, where it is one
pub only_place : (s front back : List ℕ) → s ≡ front ++ (58 ∷ back) → ((k : ℕ) → k < length back → get_or back k 0 ≢ 58)
    → (0 < length front → IsPort back → ⊥) → IsPlace s → ⊥
only_place s front back whole clear neither place =
    let port = place.1 in
    let parts = place.2 in
    let same = one_split s front back place.0 port whole parts.spelled clear
    (λ k short. digits_lack_colon port k parts.port_is.digits.1 short) in
    let named = parts.named in
    neither (omega (arith, same.0)) (subst IsPort (sym same.1) parts.port_is)

-- a text without a colon is none
pub none_without_colon : (s : List ℕ) → RFindsChar 58 s None → IsPlace s → ⊥
none_without_colon s found place =
    let small : 58 < 128 = lit< tt in
    let parts = place.2 in
    let long : length s ≡ length place.0 + suc (length place.1) = rw parts.spelled (length-append place.0 (58 ∷ place.1)) in
    NoCharPasses-char 58 s (length place.0) found small (omega arith) (rw parts.spelled (get_or-append_seam place.0 58 place.1 0))
