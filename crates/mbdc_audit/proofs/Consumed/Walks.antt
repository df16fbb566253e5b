-- A walk over the entries.
use Rattle.std.proofs.Common.{◌≡◌, ℕ, zero, suc, ◌+◌, ◌-◌, ◌*◌, ◌^◌, ◌<◌, ◌≤◌, List, [], ◌∷◌, length, take, drop, get_or, Option, None, Some, cond, eqb, ◌⊎◌, ⊎_elim, subst, refl, sym, ap, ◌∙◌, arith}
use Rattle.std.specs.List.{last_or, slice_get}
use Rattle.std.proofs.lemmas.Bool.{cond-true, cond-false, cases_eq, eq-eqb, ne_eqb}
use Rattle.std.proofs.lemmas.List.{get_or_default}
use Rattle.mbdc_audit.specs.declared.consumption.entry.Entry.{Entry}
use Rattle.mbdc_audit.specs.Consumption.Step.{step, total_by, total}
use Rattle.mbdc_audit.specs.Consumption.Order.{IsInOrder}
use Rattle.mbdc_audit.specs.Consumption.Curve.{passed, ahead, share, amount_at, curve}
use Rattle.mbdc_audit.proofs.Consumed.Grown.{ascends, total_by-one, total_by-cons, none_passed, passed_first, ahead_first, ahead_later}

pub record IsOnWalk (moment : ℕ) (entries : List Entry) (count sum : ℕ) : Type 0 where
  pub within : count ≤ length entries
  pub before : (k : ℕ) (d : Entry) → k < count → (get_or entries k d).moment ≤ moment
  pub sum_is : sum ≡ total_by step (take count entries)
  pub fits : sum ≤ count * (2 ^ 64 - 1)

order_tail : (a : Entry) (rest : List Entry) → IsInOrder (a ∷ rest) → IsInOrder rest
order_tail a rest order = λ i j d le lt. order (suc i) (suc j) d (omega arith) (omega arith)

take-nil : (n : ℕ) → ◌≡◌ {A = List Entry} (take n []) []
take-nil zero = refl
take-nil (suc n) = refl

drop-nil : (n : ℕ) → ◌≡◌ {A = List Entry} (drop n []) []
drop-nil zero = refl
drop-nil (suc n) = refl

-- where a walk stops, the entries that are passed end
pub passed-is : (t : ℕ) (entries : List Entry) (n : ℕ) → IsInOrder entries → n ≤ length entries
    → ((k : ℕ) (d : Entry) → k < n → (get_or entries k d).moment ≤ t) → ((d : Entry) → n < length entries → t < (get_or entries n d).moment)
    → passed t entries ≡ take n entries
passed-is t [] n order within before after = sym (take-nil n)
passed-is t (a ∷ rest) zero order within before after = none_passed t a rest (ascends a rest order) (after a (omega arith))
passed-is t (a ∷ rest) (suc n) order within before after =
    passed_first t a rest (before 0 a (omega arith))
    ∙ ap (λ (l : List Entry). a ∷ l) (passed-is t rest n (order_tail a rest order) (omega arith) (λ k d lt. before (suc k) d (omega arith)) (λ d lt. after d (omega arith)))

all_ahead : (t : ℕ) (a : Entry) (rest : List Entry) → IsInOrder (a ∷ rest) → t < a.moment → ahead t (a ∷ rest) ≡ a ∷ rest
all_ahead t a [] order after = ahead_first t a [] after
all_ahead t a (b ∷ rest) order after =
    let le = order 0 1 a (omega arith) (omega arith) in
    let later : t < b.moment = omega arith in
    ahead_first t a (b ∷ rest) after ∙ ap (λ (l : List Entry). a ∷ l) (all_ahead t b rest (order_tail a (b ∷ rest) order) later)

pub ahead-is : (t : ℕ) (entries : List Entry) (n : ℕ) → IsInOrder entries → n ≤ length entries
    → ((k : ℕ) (d : Entry) → k < n → (get_or entries k d).moment ≤ t) → ((d : Entry) → n < length entries → t < (get_or entries n d).moment)
    → ahead t entries ≡ drop n entries
ahead-is t [] n order within before after = sym (drop-nil n)
ahead-is t (a ∷ rest) zero order within before after = all_ahead t a rest order (after a (omega arith))
ahead-is t (a ∷ rest) (suc n) order within before after =
    ahead_later t a rest (before 0 a (omega arith))
    ∙ ahead-is t rest n (order_tail a rest order) (omega arith) (λ k d lt. before (suc k) d (omega arith)) (λ d lt. after d (omega arith))

-- the sum at no entry, at one, and at one more
pub total_by-take_none : (number : Entry → Entry → ℕ) (entries : List Entry) → total_by number (take 0 entries) ≡ 0
unfolding total_by
total_by-take_none number entries = refl

pub total_by-take_first : (number : Entry → Entry → ℕ) (entries : List Entry) → total_by number (take 1 entries) ≡ 0
unfolding total_by
total_by-take_first number [] = refl
total_by-take_first number (a ∷ rest) = refl

pub total_by-take_more : (number : Entry → Entry → ℕ) (entries : List Entry) (n : ℕ) (d e : Entry) → suc n < length entries
    → total_by number (take (suc (suc n)) entries) ≡ total_by number (take (suc n) entries) + number (get_or entries n d) (get_or entries (suc n) e)
total_by-take_more number [] n d e lt = absurd (omega arith)
total_by-take_more number (a ∷ []) n d e lt = absurd (omega arith)
total_by-take_more number (a ∷ (b ∷ rest)) zero d e lt =
    let two = total_by-cons number a b [] in
    let one = total_by-one number b in
    let first = total_by-one number a in
    omega (arith, two, one, first)
total_by-take_more number (a ∷ (b ∷ rest)) (suc n) d e lt =
    let whole = total_by-cons number a b (take (suc n) rest) in
    let part = total_by-cons number a b (take n rest) in
    let more = total_by-take_more number (b ∷ rest) n d e (omega arith) in
    omega (arith, whole, part, more)

-- the last of the entries that are passed, and the next one
pub last-take : (entries : List Entry) (o : Option Entry) (n : ℕ) (d : Entry) → n < length entries → last_or o (take (suc n) entries) ≡ Some (get_or entries n d)
last-take [] o n d lt = absurd (omega arith)
last-take (a ∷ rest) o zero d lt = refl
last-take (a ∷ rest) o (suc n) d lt = last-take rest (Some a) n d (omega arith)

pub next-drop : (entries : List Entry) (n : ℕ) (d : Entry) → n < length entries → slice_get (drop n entries) 0 ≡ Some (get_or entries n d)
next-drop [] n d lt = absurd (omega arith)
next-drop (a ∷ rest) zero d lt = refl
next-drop (a ∷ rest) (suc n) d lt = next-drop rest n d (omega arith)

pub none-drop : (entries : List Entry) (n : ℕ) → length entries ≤ n → slice_get (drop n entries) 0 ≡ None
none-drop [] n le = ap (λ (l : List Entry). slice_get l 0) (drop-nil n)
none-drop (a ∷ rest) zero le = absurd (omega arith)
none-drop (a ∷ rest) (suc n) le = none-drop rest n (omega arith)

-- a sum of a walk at one entry more
sum_more : (number : Entry → Entry → ℕ) (entries : List Entry) (n sum : ℕ) → sum ≡ total_by number (take n entries) → n < length entries → (d : Entry) (sum' : ℕ)
    → ((n ≡ 0) × (sum' ≡ sum)) ⊎ ((0 < n) × (sum' ≡ sum + number (get_or entries (n - 1) d) (get_or entries n d)))
    → sum' ≡ total_by number (take (n + 1) entries)
sum_more number entries n sum was more d sum' = ⊎_elim
    (λ (first : (n ≡ 0) × (sum' ≡ sum)).
    let none = first.0 in
    let start : sum ≡ 0 = was ∙ ap (λ (m : ℕ). total_by number (take m entries)) none ∙ total_by-take_none number entries in
    let one : total_by number (take (n + 1) entries) ≡ 0 = ap (λ (m : ℕ). total_by number (take (m + 1) entries)) none ∙ total_by-take_first number entries in
    omega (arith, first.1, start, one))
    (λ (later : (0 < n) × (sum' ≡ sum + number (get_or entries (n - 1) d) (get_or entries n d))).
    let pos = later.0 in
    let up : suc (n - 1) ≡ n = omega arith in
    let two : n + 1 ≡ suc (suc (n - 1)) = omega arith in
    let next : total_by number (take (n + 1) entries) ≡ total_by number (take n entries) + number (get_or entries (n - 1) d) (get_or entries n d) =
    ap (λ (m : ℕ). total_by number (take m entries)) two
    ∙ total_by-take_more number entries (n - 1) d d (omega arith)
    ∙ (λ i. total_by number (take (up i) entries) + number (get_or entries (n - 1) d) (get_or entries (up i) d)) in
    omega (arith, later.1, was, next))

-- a step of a walk
pub on_walk_more : (t : ℕ) (entries : List Entry) (n sum : ℕ) → IsOnWalk t entries n sum → n < length entries
    → (d : Entry) → (get_or entries n d).moment ≤ t → (sum' : ℕ) → sum' ≤ (n + 1) * (2 ^ 64 - 1)
    → ((n ≡ 0) × (sum' ≡ sum)) ⊎ ((0 < n) × (sum' ≡ sum + step (get_or entries (n - 1) d) (get_or entries n d)))
    → IsOnWalk t entries (n + 1) sum'
on_walk_more t entries n sum on more d le sum' fits summed = record {
  within = omega arith;
  before = below_more_entries;
  sum_is = sum_more step entries n sum on.sum_is more d sum' summed;
  fits = fits;
}
  where
    below_more_entries : (k : ℕ) (e : Entry) → k < n + 1 → (get_or entries k e).moment ≤ t
    below_more_entries k e lt = ⊎_elim
        (λ (here : k ≡ n). subst (λ (m : ℕ). (get_or entries m e).moment ≤ t) (sym here) (subst (λ (x : Entry). x.moment ≤ t) (get_or_default entries n d e more) le))
        (λ (other : k ≡ n → ⊥). on.before k e (omega arith))
        (cases_eq k n)

-- where a walk stops, whatever is read past the end
pub after_any : (t : ℕ) (entries : List Entry) (n : ℕ) (e : Entry) → t < (get_or entries n e).moment
    → (d : Entry) → n < length entries → t < (get_or entries n d).moment
after_any t entries n e after d more = subst (λ (x : Entry). t < x.moment) (get_or_default entries n e d more) after

-- ---- the curve where a walk stops

module _ (t : ℕ) (entries : List Entry) (n : ℕ) (order : IsInOrder entries) (within : n ≤ length entries)
    (before : (k : ℕ) (d : Entry) → k < n → (get_or entries k d).moment ≤ t)
    (after : (d : Entry) → n < length entries → t < (get_or entries n d).moment) where
  curve-is : curve entries t ≡ amount_at t (total (take n entries)) (last_or None (take n entries)) (slice_get (drop n entries) 0)
  unfolding curve
  curve-is =
      let front = passed-is t entries n order within before after in
      let back = ahead-is t entries n order within before after in
      λ i. amount_at t (total (front i)) (last_or None (front i)) (slice_get (back i) 0)

  pub curve-at_start : n ≡ 0 → curve entries t ≡ None
  curve-at_start none =
      curve-is
      ∙ ap (λ (m : ℕ). amount_at t (total (take m entries)) (last_or None (take m entries)) (slice_get (drop m entries) 0)) none

  last-is : (d : Entry) → 0 < n → last_or None (take n entries) ≡ Some (get_or entries (n - 1) d)
  last-is d pos =
      let more : n ≡ suc (n - 1) = omega arith in
      ap (λ (m : ℕ). last_or None (take m entries)) more ∙ last-take entries None (n - 1) d (omega arith)

  pub curve-between : (d e : Entry) → 0 < n → n < length entries
      → curve entries t ≡ Some (total (take n entries) + share (get_or entries (n - 1) d) (get_or entries n e) t)
  curve-between d e pos more =
      let last = last-is d pos in
      let next = next-drop entries n e more in
      curve-is ∙ (λ i. amount_at t (total (take n entries)) (last i) (next i))

  curve-at_end : (d : Entry) → 0 < n → length entries ≤ n
      → curve entries t ≡ cond (eqb (get_or entries (n - 1) d).moment t) (Some (total (take n entries))) None
  curve-at_end d pos all =
      let last = last-is d pos in
      let next = none-drop entries n all in
      curve-is ∙ (λ i. amount_at t (total (take n entries)) (last i) (next i))

  pub curve-at_last : (d : Entry) → 0 < n → length entries ≤ n → (get_or entries (n - 1) d).moment ≡ t → curve entries t ≡ Some (total (take n entries))
  curve-at_last d pos all here =
      curve-at_end d pos all ∙ cond-true (eqb (get_or entries (n - 1) d).moment t) (Some (total (take n entries))) None (eq-eqb (get_or entries (n - 1) d).moment t here)

  pub curve-past_last : (d : Entry) → 0 < n → length entries ≤ n → ((get_or entries (n - 1) d).moment ≡ t → ⊥) → curve entries t ≡ None
  curve-past_last d pos all past =
      curve-at_end d pos all ∙ cond-false (eqb (get_or entries (n - 1) d).moment t) (Some (total (take n entries))) None (ne_eqb (get_or entries (n - 1) d).moment t past)
