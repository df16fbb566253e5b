-- The curve by recursion from the first entry.
use Rattle.std.proofs.Common.{◌≡◌, ℕ, suc, ◌+◌, ◌<◌, ◌≤◌, ⊎_elim, cond, ltb, leb, eqb, List, [], ◌∷◌, Option, None, Some, refl, sym, ap, ◌∙◌, add_assoc, zero-add, add-zero, arith}
use Rattle.std.specs.List.{last_or, slice_get}
use Rattle.std.proofs.lemmas.Bool.{cases_lt, cond-true, cond-false, lt-ltb, le-ltb, le-leb, lt-leb, eq-eqb, ne_eqb}
use Rattle.std.proofs.lemmas.List.Sums.{sum_by-cons}
use Rattle.mbdc_audit.specs.declared.consumption.entry.Entry.{Entry}
use Rattle.mbdc_audit.specs.Consumption.Step.{step, with_next, total_by, total}
use Rattle.mbdc_audit.specs.Consumption.Order.{IsInOrder}
use Rattle.mbdc_audit.specs.Consumption.Curve.{passed, ahead, share, amount_at, curve}

-- each entry is no earlier than the one before it
abbrev pub Ascends : Entry → List Entry → Type 0
Ascends a [] = Unit {0}
Ascends a (b ∷ rest) = (a.moment ≤ b.moment) × Ascends b rest

-- the last entry
abbrev pub end_of : Entry → List Entry → Entry
end_of a [] = a
end_of a (b ∷ rest) = end_of b rest

-- what was consumed from the first entry up to a moment between it and the last
abbrev pub grown : Entry → List Entry → ℕ → ℕ
grown a [] t = 0
grown a (b ∷ rest) t = cond (ltb t b.moment) (share a b t) (step a b + grown b rest t)

pub ascends : (a : Entry) (rest : List Entry) → IsInOrder (a ∷ rest) → Ascends a rest
ascends a [] order = tt
ascends a (b ∷ rest) order =
    (order 0 1 a (omega arith) (omega arith), ascends b rest (λ i j d le lt. order (suc i) (suc j) d (omega arith) (omega arith)))

pub end_later : (a : Entry) (rest : List Entry) → Ascends a rest → a.moment ≤ (end_of a rest).moment
end_later a [] up = omega arith
end_later a (b ∷ rest) up = let le = end_later b rest up.1 in omega arith

pub total_by-one : (number : Entry → Entry → ℕ) (a : Entry) → total_by number (a ∷ []) ≡ 0
unfolding total_by
total_by-one number a = refl

pub total_by-cons : (number : Entry → Entry → ℕ) (a b : Entry) (rest : List Entry) → total_by number (a ∷ (b ∷ rest)) ≡ number a b + total_by number (b ∷ rest)
unfolding total_by
total_by-cons number a b rest = sum_by-cons (λ (p : Entry × Entry). number p.0 p.1) (a, b) (with_next (b ∷ rest))

pub total-one : (a : Entry) → total (a ∷ []) ≡ 0
total-one a = total_by-one step a

pub total-cons : (a b : Entry) (rest : List Entry) → total (a ∷ (b ∷ rest)) ≡ step a b + total (b ∷ rest)
total-cons a b rest = total_by-cons step a b rest

-- ---- which entries are passed, and which are ahead

pub none_passed : (t : ℕ) (b : Entry) (rest : List Entry) → Ascends b rest → t < b.moment → passed t (b ∷ rest) ≡ []
none_passed t b [] up before = cond-false (leb b.moment t) (b ∷ []) [] (lt-leb b.moment t before)
none_passed t b (c ∷ rest) up before =
    cond-false (leb b.moment t) (b ∷ passed t (c ∷ rest)) (passed t (c ∷ rest)) (lt-leb b.moment t before) ∙ none_passed t c rest up.1 (omega arith)

pub passed_first : (t : ℕ) (b : Entry) (rest : List Entry) → b.moment ≤ t → passed t (b ∷ rest) ≡ b ∷ passed t rest
passed_first t b rest le = cond-true (leb b.moment t) (b ∷ passed t rest) (passed t rest) (le-leb b.moment t le)

pub ahead_first : (t : ℕ) (b : Entry) (rest : List Entry) → t < b.moment → ahead t (b ∷ rest) ≡ b ∷ ahead t rest
ahead_first t b rest before = cond-true (ltb t b.moment) (b ∷ ahead t rest) (ahead t rest) (lt-ltb t b.moment before)

pub ahead_later : (t : ℕ) (b : Entry) (rest : List Entry) → b.moment ≤ t → ahead t (b ∷ rest) ≡ ahead t rest
ahead_later t b rest le = cond-false (ltb t b.moment) (b ∷ ahead t rest) (ahead t rest) (le-ltb t b.moment le)

-- ---- the curve is what has grown

-- the amount after a first entry, above a sum
abbrev above : ℕ → ℕ → Entry → List Entry → List Entry → Option ℕ
above t sum a front back = amount_at t (sum + total (a ∷ front)) (last_or (Some a) front) (slice_get back 0)

abbrev if_within : ℕ → Entry → List Entry → ℕ → Option ℕ
if_within t a rest amount = cond (leb t (end_of a rest).moment) (Some amount) None

above_grown : (t sum : ℕ) (a : Entry) (rest : List Entry) → Ascends a rest → a.moment ≤ t
    → above t sum a (passed t rest) (ahead t rest) ≡ if_within t a rest (sum + grown a rest t)
above_grown t sum a [] up from = ⊎_elim
    (λ (later : a.moment < t).
    cond-false (eqb a.moment t) (Some (sum + total (a ∷ []))) None (ne_eqb a.moment t (λ e. omega arith))
    ∙ sym (cond-false (leb t a.moment) (Some (sum + 0)) None (lt-leb t a.moment later)))
    (λ (le : t ≤ a.moment).
    cond-true (eqb a.moment t) (Some (sum + total (a ∷ []))) None (eq-eqb a.moment t (omega arith))
    ∙ ap (λ (n : ℕ). Some (sum + n)) (total-one a)
    ∙ sym (cond-true (leb t a.moment) (Some (sum + 0)) None (le-leb t a.moment le)))
    (cases_lt a.moment t)
above_grown t sum a (b ∷ rest) up from = ⊎_elim
    (λ (before : t < b.moment).
    let end = end_later b rest up.1 in
    let within : t ≤ (end_of b rest).moment = omega arith in
    let first = none_passed t b rest up.1 before in
    let next = ahead_first t b rest before in
    let sums : (sum + total (a ∷ [])) + share a b t ≡ sum + grown a (b ∷ rest) t =
    ap (λ (n : ℕ). (sum + n) + share a b t) (total-one a)
    ∙ ap (λ (n : ℕ). n + share a b t) (add-zero sum)
    ∙ ap (λ (n : ℕ). sum + n) (sym (cond-true (ltb t b.moment) (share a b t) (step a b + grown b rest t) (lt-ltb t b.moment before))) in
    (λ i. above t sum a (first i) (next i))
    ∙ ap (λ (n : ℕ). Some n) sums
    ∙ sym (cond-true (leb t (end_of b rest).moment) (Some (sum + grown a (b ∷ rest) t)) None (le-leb t (end_of b rest).moment within)))
    (λ (le : b.moment ≤ t).
    let first = passed_first t b rest le in
    let next = ahead_later t b rest le in
    let sums : sum + total (a ∷ (b ∷ passed t rest)) ≡ (sum + step a b) + total (b ∷ passed t rest) =
    ap (λ (n : ℕ). sum + n) (total-cons a b (passed t rest)) ∙ sym (add_assoc sum (step a b) (total (b ∷ passed t rest))) in
    let growth : (sum + step a b) + grown b rest t ≡ sum + grown a (b ∷ rest) t =
    add_assoc sum (step a b) (grown b rest t)
    ∙ ap (λ (n : ℕ). sum + n) (sym (cond-false (ltb t b.moment) (share a b t) (step a b + grown b rest t) (le-ltb t b.moment le))) in
    (λ i. above t sum a (first i) (next i))
    ∙ ap (λ (n : ℕ). amount_at t n (last_or (Some b) (passed t rest)) (slice_get (ahead t rest) 0)) sums
    ∙ above_grown t (sum + step a b) b rest up.1 le
    ∙ ap (if_within t b rest) growth)
    (cases_lt t b.moment)

pub curve-nil : (t : ℕ) → curve [] t ≡ None
unfolding curve
curve-nil t = refl

pub curve-before : (a : Entry) (rest : List Entry) (t : ℕ) → Ascends a rest → t < a.moment → curve (a ∷ rest) t ≡ None
unfolding curve
curve-before a rest t up before =
    ap (λ (front : List Entry). amount_at t (total front) (last_or None front) (slice_get (ahead t (a ∷ rest)) 0)) (none_passed t a rest up before)

curve-from : (a : Entry) (rest : List Entry) (t : ℕ) → Ascends a rest → a.moment ≤ t → curve (a ∷ rest) t ≡ if_within t a rest (grown a rest t)
unfolding curve
curve-from a rest t up from =
    let first = passed_first t a rest from in
    let next = ahead_later t a rest from in
    (λ i. amount_at t (total (first i)) (last_or None (first i)) (slice_get (next i) 0))
    ∙ ap (λ (n : ℕ). amount_at t n (last_or (Some a) (passed t rest)) (slice_get (ahead t rest) 0)) (sym (zero-add (total (a ∷ passed t rest))))
    ∙ above_grown t 0 a rest up from
    ∙ ap (if_within t a rest) (zero-add (grown a rest t))

pub curve-within : (a : Entry) (rest : List Entry) (t : ℕ) → Ascends a rest → a.moment ≤ t → t ≤ (end_of a rest).moment → curve (a ∷ rest) t ≡ Some (grown a rest t)
curve-within a rest t up from within =
    curve-from a rest t up from ∙ cond-true (leb t (end_of a rest).moment) (Some (grown a rest t)) None (le-leb t (end_of a rest).moment within)

pub curve-after : (a : Entry) (rest : List Entry) (t : ℕ) → Ascends a rest → (end_of a rest).moment < t → curve (a ∷ rest) t ≡ None
curve-after a rest t up after =
    let end = end_later a rest up in
    curve-from a rest t up (omega arith) ∙ cond-false (leb t (end_of a rest).moment) (Some (grown a rest t)) None (lt-leb t (end_of a rest).moment after)
