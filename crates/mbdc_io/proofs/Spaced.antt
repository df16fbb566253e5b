-- Pairs of digits with one space between them, one pair more.
use Rattle.std.proofs.Common.{◌≡◌, ℕ, suc, ◌+◌, ◌*◌, ◌<◌, List, [], ◌∷◌, ◌++◌, length, take, drop, set, get_or, Bool, true, false, cond, filter, Option, Some, refl, ap, sym, ◌∙◌, arith, drop-cons, eqb-true}
use Rattle.std.proofs.lemmas.Grind.{common_steps}
use Rattle.std.specs.Prelude.{◌==◌, not}
use Rattle.std.specs.Io.KnownBytes.{prepend_known}
use Rattle.mbdc_io.specs.Hex.{digit_value, pair_value, onto_bytes, bytes_of}
use Rattle.mbdc_io.specs.Lines.{is_solid}
use Rattle.mbdc_io.proofs.Pairs.{prepend_more}

-- a digit is no space
digit_is_solid : (c value : ℕ) → digit_value c ≡ Some value → is_solid c ≡ true
digit_is_solid c value is = by (c == 32) refl
  where
    by : (b : Bool) → (c == 32) ≡ b → not b ≡ true
    by false e = refl
    by true e = let space : c ≡ 32 = eqb-true c 32 e in let none : digit_value 32 ≡ Some value = ap digit_value (sym space) ∙ is in cc

keep : (c : ℕ) (rest : List ℕ) → is_solid c ≡ true → filter is_solid (c ∷ rest) ≡ c ∷ filter is_solid rest
keep c rest solid = ap (λ (b : Bool). cond b (c ∷ filter is_solid rest) (filter is_solid rest)) solid

-- two digits are left alone
two_kept : (high low h l : ℕ) (rest : List ℕ) → digit_value high ≡ Some h → digit_value low ≡ Some l → filter is_solid (high ∷ low ∷ rest) ≡ high ∷ low ∷ filter is_solid rest
two_kept high low h l rest is_h is_l =
    keep high (low ∷ rest) (digit_is_solid high h is_h) ∙ ap (λ (t : List ℕ). high ∷ t) (keep low rest (digit_is_solid low l is_l))

pair_read : (high low h l : ℕ) (rest : List ℕ) → digit_value high ≡ Some h → digit_value low ≡ Some l
    → bytes_of (filter is_solid (high ∷ low ∷ rest)) ≡ prepend_known ((h * 16 + l) ∷ []) (bytes_of (filter is_solid rest))
unfolding bytes_of
pair_read high low h l rest is_h is_l =
    ap bytes_of (two_kept high low h l rest is_h is_l)
    ∙ ap (λ (v : Option ℕ). onto_bytes (pair_value v (digit_value low)) (bytes_of (filter is_solid rest))) is_h
    ∙ ap (λ (v : Option ℕ). onto_bytes (pair_value (Some h) v) (bytes_of (filter is_solid rest))) is_l

module _ (line out : List ℕ) (i : ℕ)
    (before : bytes_of (filter is_solid line) ≡ prepend_known (take i out) (bytes_of (filter is_solid (drop (3 * i) line)))) where
  -- two digits and a space
  three_at : 3 * i + 2 < length line → get_or line (3 * i + 2) 0 ≡ 32
      → drop (3 * i) line ≡ get_or line (3 * i) 0 ∷ get_or line (3 * i + 1) 0 ∷ 32 ∷ drop (3 * (i + 1)) line
  three_at below space =
      let a : suc (3 * i) ≡ 3 * i + 1 = omega arith in
      let b : suc (3 * i + 1) ≡ 3 * i + 2 = omega arith in
      let c : suc (3 * i + 2) ≡ 3 * (i + 1) = omega arith in
      let first = drop-cons line (3 * i) 0 (omega arith) in
      let second = drop-cons line (3 * i + 1) 0 (omega arith) in
      let third = drop-cons line (3 * i + 2) 0 below in
      let high : ℕ = get_or line (3 * i) 0 in
      let low : ℕ = get_or line (3 * i + 1) 0 in
      first ∙ ap (λ (k : ℕ). high ∷ drop k line) a ∙ ap (λ (t : List ℕ). high ∷ t) second ∙ ap (λ (k : ℕ). high ∷ low ∷ drop k line) b
      ∙ ap (λ (t : List ℕ). high ∷ low ∷ t) third ∙ ap (λ (k : ℕ). high ∷ low ∷ get_or line (3 * i + 2) 0 ∷ drop k line) c
      ∙ ap (λ (s : ℕ). high ∷ low ∷ s ∷ drop (3 * (i + 1)) line) space

  wrote : (byte : ℕ) → i < length out → take (i + 1) (set out i byte) ≡ take i out ++ (byte ∷ [])
  wrote byte room = grind (arith, common_steps)

  pub spaced_step : (h l : ℕ) → i < length out → 3 * i + 2 < length line → get_or line (3 * i + 2) 0 ≡ 32
      → digit_value (get_or line (3 * i) 0) ≡ Some h → digit_value (get_or line (3 * i + 1) 0) ≡ Some l
      → bytes_of (filter is_solid line) ≡ prepend_known (take (i + 1) (set out i (h * 16 + l))) (bytes_of (filter is_solid (drop (3 * (i + 1)) line)))
  spaced_step h l room below space is_h is_l =
      before ∙ ap (λ (t : List ℕ). prepend_known (take i out) (bytes_of (filter is_solid t))) (three_at below space)
      ∙ ap (prepend_known (take i out)) (pair_read (get_or line (3 * i) 0) (get_or line (3 * i + 1) 0) h l (32 ∷ drop (3 * (i + 1)) line) is_h is_l)
      ∙ prepend_more (take i out) ((h * 16 + l) ∷ []) (bytes_of (filter is_solid (drop (3 * (i + 1)) line)))
      ∙ ap (λ (t : List ℕ). prepend_known t (bytes_of (filter is_solid (drop (3 * (i + 1)) line)))) (sym (wrote (h * 16 + l) room))

  last_two : length line ≡ 3 * i + 2 → drop (3 * i) line ≡ get_or line (3 * i) 0 ∷ get_or line (3 * i + 1) 0 ∷ []
  last_two whole =
      let a : suc (3 * i) ≡ 3 * i + 1 = omega arith in
      let first = drop-cons line (3 * i) 0 (omega arith) in
      let second = drop-cons line (3 * i + 1) 0 (omega arith) in
      let none : drop (suc (3 * i + 1)) line ≡ [] = grind (arith, common_steps) in
      let high : ℕ = get_or line (3 * i) 0 in
      let low : ℕ = get_or line (3 * i + 1) 0 in
      first ∙ ap (λ (k : ℕ). high ∷ drop k line) a ∙ ap (λ (t : List ℕ). high ∷ t) second ∙ ap (λ (t : List ℕ). high ∷ low ∷ t) none

  -- the last two digits
  pub spaced_done : (h l : ℕ) → i < length out → length line ≡ 3 * i + 2
      → digit_value (get_or line (3 * i) 0) ≡ Some h → digit_value (get_or line (3 * i + 1) 0) ≡ Some l
      → bytes_of (filter is_solid line) ≡ Some (take (i + 1) (set out i (h * 16 + l)))
  unfolding bytes_of
  spaced_done h l room whole is_h is_l =
      before ∙ ap (λ (t : List ℕ). prepend_known (take i out) (bytes_of (filter is_solid t))) (last_two whole)
      ∙ ap (prepend_known (take i out)) (pair_read (get_or line (3 * i) 0) (get_or line (3 * i + 1) 0) h l [] is_h is_l)
      ∙ ap Some (sym (wrote (h * 16 + l) room))
