-- One more pair of digits, read or written.
use Rattle.std.proofs.Common.{◌≡◌, ℕ, suc, ◌+◌, ◌*◌, ◌%◌, ◌<◌, ◌≤◌, List, [], ◌∷◌, ◌++◌, length, take, drop, set, get_or, Option, Some, None, refl, ap, sym, ◌∙◌, arith, append_assoc, append-nil, drop-cons}
use Rattle.std.proofs.lemmas.Grind.{common_steps}
use Rattle.std.specs.Io.KnownBytes.{prepend_known}
use Rattle.mbdc_io.specs.Hex.{digit_value, pair_value, onto_bytes, bytes_of}

none_onto : (byte : Option ℕ) → onto_bytes byte None ≡ None
none_onto None = refl
none_onto (Some byte) = refl

-- two elements at j
two_at : (s : List ℕ) (j : ℕ) → j + 1 < length s → drop j s ≡ get_or s j 0 ∷ get_or s (j + 1) 0 ∷ drop (j + 2) s
two_at s j h =
    let e : suc j ≡ j + 1 = omega arith in
    let e2 : suc (j + 1) ≡ j + 2 = omega arith in
    let below : j < length s = omega arith in
    let first = drop-cons s j 0 below in
    let second = drop-cons s (j + 1) 0 h in
    first ∙ ap (λ (t : List ℕ). get_or s j 0 ∷ t) (ap (λ (k : ℕ). drop k s) e ∙ second ∙ ap (λ (k : ℕ). get_or s (j + 1) 0 ∷ drop k s) e2)

-- what the pair at 2 * i stands for
pair_at : (digits : List ℕ) (i : ℕ) → 2 * i + 1 < length digits
    → bytes_of (drop (2 * i) digits)
    ≡ onto_bytes (pair_value (digit_value (get_or digits (2 * i) 0)) (digit_value (get_or digits (2 * i + 1) 0))) (bytes_of (drop (2 * (i + 1)) digits))
unfolding bytes_of
pair_at digits i h =
    let two : 2 * i + 2 ≡ 2 * (i + 1) = omega arith in
    ap bytes_of (two_at digits (2 * i) h ∙ ap (λ (k : ℕ). get_or digits (2 * i) 0 ∷ get_or digits (2 * i + 1) 0 ∷ drop k digits) two)

pub prepend_more : (front back : List ℕ) (rest : Option (List ℕ)) → prepend_known front (prepend_known back rest) ≡ prepend_known (front ++ back) rest
prepend_more front back None = refl
prepend_more front back (Some xs) = ap Some (sym (append_assoc front back xs))

module _ (digits out : List ℕ) (i : ℕ) (below : 2 * i + 1 < length digits)
    (before : bytes_of digits ≡ prepend_known (take i out) (bytes_of (drop (2 * i) digits))) where
  pub decode_step : (high low : ℕ) → i < length out
      → digit_value (get_or digits (2 * i) 0) ≡ Some high → digit_value (get_or digits (2 * i + 1) 0) ≡ Some low
      → bytes_of digits ≡ prepend_known (take (i + 1) (set out i (high * 16 + low))) (bytes_of (drop (2 * (i + 1)) digits))
  decode_step high low room h l =
      let pair = pair_at digits i below ∙ ap (λ (v : Option ℕ). onto_bytes (pair_value v (digit_value (get_or digits (2 * i + 1) 0))) (bytes_of (drop (2 * (i + 1)) digits))) h
      ∙ ap (λ (v : Option ℕ). onto_bytes (pair_value (Some high) v) (bytes_of (drop (2 * (i + 1)) digits))) l in
      let wrote : take (i + 1) (set out i (high * 16 + low)) ≡ take i out ++ ((high * 16 + low) ∷ []) = grind (arith, common_steps) in
      before ∙ ap (prepend_known (take i out)) pair
      ∙ prepend_more (take i out) ((high * 16 + low) ∷ []) (bytes_of (drop (2 * (i + 1)) digits))
      ∙ ap (λ (t : List ℕ). prepend_known t (bytes_of (drop (2 * (i + 1)) digits))) (sym wrote)

  pub high_fails : digit_value (get_or digits (2 * i) 0) ≡ None → bytes_of digits ≡ None
  high_fails h =
      before ∙ ap (prepend_known (take i out)) (pair_at digits i below
      ∙ ap (λ (v : Option ℕ). onto_bytes (pair_value v (digit_value (get_or digits (2 * i + 1) 0))) (bytes_of (drop (2 * (i + 1)) digits))) h)

  pub low_fails : (high : ℕ) → digit_value (get_or digits (2 * i) 0) ≡ Some high → digit_value (get_or digits (2 * i + 1) 0) ≡ None → bytes_of digits ≡ None
  low_fails high h l =
      before ∙ ap (prepend_known (take i out)) (pair_at digits i below
      ∙ ap (λ (v : Option ℕ). onto_bytes (pair_value v (digit_value (get_or digits (2 * i + 1) 0))) (bytes_of (drop (2 * (i + 1)) digits))) h
      ∙ ap (λ (v : Option ℕ). onto_bytes (pair_value (Some high) v) (bytes_of (drop (2 * (i + 1)) digits))) l)

-- no digit is left
pub decode_done : (digits out : List ℕ) (i : ℕ) → length digits ≤ 2 * i
    → bytes_of digits ≡ prepend_known (take i out) (bytes_of (drop (2 * i) digits)) → bytes_of digits ≡ Some (take i out)
unfolding bytes_of
decode_done digits out i all before =
    let none : drop (2 * i) digits ≡ [] = grind (arith, common_steps) in
    before ∙ ap (λ (t : List ℕ). prepend_known (take i out) (bytes_of t)) none ∙ ap Some (append-nil (take i out))

-- an odd number of digits stands for no bytes
pub odd_fails : (digits : List ℕ) → (length digits % 2 ≡ 0 → ⊥) → bytes_of digits ≡ None
unfolding bytes_of
odd_fails [] odd = absurd (odd refl)
odd_fails (digit ∷ []) odd = refl
odd_fails (high ∷ low ∷ rest) odd =
    let rest_odd : length rest % 2 ≡ 0 → ⊥ = λ e. odd (omega arith) in
    ap (onto_bytes (pair_value (digit_value high) (digit_value low))) (odd_fails rest rest_odd) ∙ none_onto (pair_value (digit_value high) (digit_value low))
