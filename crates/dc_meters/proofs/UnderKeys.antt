-- The serials under a key are those of the readings that have it.
use Rattle.std.proofs.Common.{◌≡◌, ℕ, ◌<◌, ◌-◌, ◌^◌, Bool, true, false, cond, List, [], ◌∷◌, refl, sym, ap, ◌∙◌, map, arith}
use Rattle.std.specs.Prelude.{◌&&◌, ◌||◌, All, filter, not, nat_lt}
use Rattle.std.specs.List.{list_any, AllByRecursion}
use Rattle.std.specs.List.Sorted.{IsStrictlySortedBy}
use Rattle.std.specs.Ordering.{nat_cmp, ordering_then, is_eq, is_lt, is_le, eq_by_cmp}
use Rattle.std.specs.declared.cmp.Ordering.{Ordering}
use Rattle.std.specs.declared.cmp.Ordering.TheVariants.{Less, Equal, Greater}
use Rattle.std.specs.declared.ops.Bound.TheVariants.{Included}
use Rattle.std.specs.BTreeMap.Range.{range_contains}
use Rattle.std.specs.Cmp.{IsTotalOrder, nat_cmp_total, tied_then}
use Rattle.std.proofs.lemmas.Bool.Decides.{nat_tests}
use Rattle.std.proofs.lemmas.Bool.{and_parts}
use Rattle.std.proofs.lemmas.List.Elements.{All-head, All-tail}
use Rattle.std.proofs.lemmas.Map.Lookups.{exact_unsigned}
use Rattle.mbdc_change.specs.State.{ReadingRow}
use Rattle.dc_meters.specs.declared.filed.Filed.{Filed}
use Rattle.dc_meters.specs.Orders.{filed_cmp, serials_under, AreFiled}
use Rattle.dc_meters.proofs.Readings.{sorted_of_kept}
use Rattle.dc_meters.proofs.SameOrder.{same_in_order}

-- ---- lists that are filtered

and_false : (a : Bool) → (a && false) ≡ false
and_false true = refl
and_false false = refl

any_step : (p t : Bool) (x later : Bool) → (p ≡ p) → t ≡ later → (cond p (x || t) t) ≡ ((p && x) || later)
any_step true t x later e is = ap (λ (b : Bool). x || b) is
any_step false t x later e is = is

any_kept : {X Y : Type 0} (f : X → Y) (p : X → Bool) (test : Y → Bool) (xs : List X) → list_any test (map f (filter p xs)) ≡ list_any (λ x. p x && test (f x)) xs
any_kept f p test [] = refl
any_kept {X} f p test (x ∷ xs) =
    choose (p x) ∙ any_step (p x) (list_any test (map f (filter p xs))) (test (f x)) (list_any (λ x. p x && test (f x)) xs) refl (any_kept f p test xs)
  where
    choose : (b : Bool) → list_any test (map f (cond b (x ∷ filter p xs) (filter p xs))) ≡ cond b (test (f x) || list_any test (map f (filter p xs))) (list_any test (map f (filter p xs)))
    choose true = refl
    choose false = refl

pub any_same : {X : Type 0} (p q : X → Bool) (xs : List X) → ((x : X) → p x ≡ q x) → list_any p xs ≡ list_any q xs
any_same p q [] same = refl
any_same {X} p q (x ∷ xs) same = ap (λ (b : Bool). b || list_any p xs) (same x) ∙ ap (λ (b : Bool). q x || b) (any_same p q xs same)

none_among : {X : Type 0} (p : X → Bool) (xs : List X) → ((x : X) → p x ≡ false) → list_any p xs ≡ false
none_among p [] none = refl
none_among p (x ∷ xs) none = ap (λ (b : Bool). b || list_any p xs) (none x) ∙ none_among p xs none

-- ---- a range of one key

module _ {K : Type 0} (R : K → K → Ordering) where
  abbrev in_range : K → Filed K → Bool
  in_range key = range_contains (filed_cmp R) (Included (record { key = key; serial = 0 })) (Included (record { key = key; serial = 2 ^ 64 - 1 }))

  zero_first : (s : ℕ) → is_le (nat_cmp 0 s) ≡ true
  zero_first s = grind (arith, nat_tests)

  range_at : (o : Ordering) (s : ℕ) → (is_le (ordering_then o (nat_cmp 0 s)) && not (is_lt (ordering_then o (nat_cmp (2 ^ 64 - 1) s)))) ≡ (is_eq o && not (is_lt (nat_cmp (2 ^ 64 - 1) s)))
  range_at Less s = refl
  range_at Equal s = ap (λ (b : Bool). b && not (is_lt (nat_cmp (2 ^ 64 - 1) s))) (zero_first s)
  range_at Greater s = refl

  in_range_is : (key : K) (f : Filed K) → in_range key f ≡ (is_eq (R key f.key) && not (is_lt (nat_cmp (2 ^ 64 - 1) f.serial)))
  in_range_is key f = range_at (R key f.key) f.serial

  equal_from : (o : Ordering) → is_eq o ≡ true → o ≡ Equal
  equal_from Less e = cc
  equal_from Equal e = refl
  equal_from Greater e = cc

  tied : (key : K) (f : Filed K) → in_range key f ≡ true → R key f.key ≡ Equal
  tied key f e = equal_from (R key f.key) (and_parts (is_eq (R key f.key)) (not (is_lt (nat_cmp (2 ^ 64 - 1) f.serial))) (sym (in_range_is key f) ∙ e)).0

  below : IsTotalOrder R → (key : K) (x y : Filed K) → in_range key x ≡ true → in_range key y ≡ true → filed_cmp R x y ≡ Less → nat_cmp x.serial y.serial ≡ Less
  below total key x y of_x of_y less =
      ap (λ (o : Ordering). ordering_then o (nat_cmp x.serial y.serial)) (sym (sym (total.congr key x.key y.key (tied key x of_x)) ∙ tied key y of_y)) ∙ less

  serials_above : IsTotalOrder R → (key : K) (x : Filed K) (ys : List (Filed K)) → in_range key x ≡ true → AllByRecursion (λ y. filed_cmp R x y ≡ Less) ys
      → AllByRecursion (λ s. nat_cmp x.serial s ≡ Less) (map (λ (f : Filed K). f.serial) (filter (in_range key) ys))
  serials_above total key x [] of_x all = tt
  serials_above total key x (y ∷ ys) of_x all = at (serials_above total key x ys of_x all.1) (in_range key y) refl
    where
      at : AllByRecursion (λ s. nat_cmp x.serial s ≡ Less) (map (λ (f : Filed K). f.serial) (filter (in_range key) ys)) → (b : Bool) → in_range key y ≡ b → AllByRecursion (λ s. nat_cmp x.serial s ≡ Less) (map (λ (f : Filed K). f.serial) (cond b (y ∷ filter (in_range key) ys) (filter (in_range key) ys)))
      at later true e = (below total key x y of_x e all.0, later)
      at later false e = later

  serials_rise : IsTotalOrder R → (key : K) (fs : List (Filed K)) → IsStrictlySortedBy (filed_cmp R) fs → IsStrictlySortedBy nat_cmp (serials_under R key fs)
  unfolding IsStrictlySortedBy
  serials_rise total key [] sorted = tt
  serials_rise total key (x ∷ xs) sorted = at (serials_rise total key xs sorted.1) (in_range key x) refl
    where
      at : IsStrictlySortedBy nat_cmp (map (λ (f : Filed K). f.serial) (filter (in_range key) xs)) → (b : Bool) → in_range key x ≡ b → IsStrictlySortedBy nat_cmp (map (λ (f : Filed K). f.serial) (cond b (x ∷ filter (in_range key) xs) (filter (in_range key) xs)))
      at later true e = (serials_above total key x xs e sorted.0, later)
      at later false e = later

  -- a serial that fits is found under the key where it is filed so
  found_at : (n s : ℕ) (b : Bool) → n < 2 ^ 64 → ((b && not (is_lt (nat_cmp (2 ^ 64 - 1) s))) && is_eq (nat_cmp n s)) ≡ (b && is_eq (nat_cmp n s))
  found_at n s true fits = grind (arith, nat_tests)
  found_at n s false fits = refl

  lost_at : (n s : ℕ) (b : Bool) → (n < 2 ^ 64 → ⊥) → ((b && not (is_lt (nat_cmp (2 ^ 64 - 1) s))) && is_eq (nat_cmp n s)) ≡ false
  lost_at n s true large = grind (arith, nat_tests)
  lost_at n s false large = refl

  above_none : (n : ℕ) (has : ReadingRow → Bool) (readings : List ReadingRow) → (n < 2 ^ 64 → ⊥) → All (λ (r : ReadingRow). r.serial < 2 ^ 64) readings → list_any (λ (r : ReadingRow). has r && is_eq (nat_cmp n r.serial)) readings ≡ false
  above_none n has [] large fit = refl
  above_none n has (r ∷ readings) large fit =
      let low = All-head (λ (q : ReadingRow). q.serial < 2 ^ 64) r readings fit in
      let apart : is_eq (nat_cmp n r.serial) ≡ false = grind (arith, nat_tests) in
      ap (λ (b : Bool). b || list_any (λ (q : ReadingRow). has q && is_eq (nat_cmp n q.serial)) readings) (ap (λ (b : Bool). has r && b) apart ∙ and_false (has r))
      ∙ above_none n has readings large (All-tail (λ (q : ReadingRow). q.serial < 2 ^ 64) r readings fit)

  module _ (total : IsTotalOrder R) (has : K → ReadingRow → Bool) (key : K) (fs : List (Filed K)) (readings : List ReadingRow)
      (filed : AreFiled R has fs readings) (fit : All (λ (r : ReadingRow). r.serial < 2 ^ 64) readings) where
    of_filed : (n : ℕ) → list_any (eq_by_cmp nat_cmp n) (serials_under R key fs) ≡ list_any (λ (f : Filed K). (is_eq (R key f.key) && not (is_lt (nat_cmp (2 ^ 64 - 1) f.serial))) && is_eq (nat_cmp n f.serial)) fs
    of_filed n =
        any_kept (λ (f : Filed K). f.serial) (in_range key) (eq_by_cmp nat_cmp n) fs
        ∙ any_same _ _ fs (λ f. ap (λ (b : Bool). b && is_eq (nat_cmp n f.serial)) (in_range_is key f))

    of_readings : (n : ℕ) → list_any (eq_by_cmp nat_cmp n) (map (λ (r : ReadingRow). r.serial) (filter (has key) readings)) ≡ list_any (λ (r : ReadingRow). has key r && is_eq (nat_cmp n r.serial)) readings
    of_readings n = any_kept (λ (r : ReadingRow). r.serial) (has key) (eq_by_cmp nat_cmp n) readings

    at_key : (n : ℕ) → list_any (λ (f : Filed K). is_eq (R key f.key) && is_eq (nat_cmp n f.serial)) fs ≡ list_any (λ (r : ReadingRow). has key r && is_eq (nat_cmp n r.serial)) readings
    at_key n =
        any_same _ _ fs (λ f. tied_then (R key f.key) (nat_cmp n f.serial)) ∙ filed (record { key = key; serial = n })

    both : (n : ℕ) (b : Bool) → nat_lt n (2 ^ 64) ≡ b → list_any (eq_by_cmp nat_cmp n) (serials_under R key fs) ≡ list_any (eq_by_cmp nat_cmp n) (map (λ (r : ReadingRow). r.serial) (filter (has key) readings))
    both n true e =
        let fits : n < 2 ^ 64 = grind (arith, nat_tests) in
        of_filed n ∙ any_same _ _ fs (λ f. found_at n f.serial (is_eq (R key f.key)) fits) ∙ at_key n ∙ sym (of_readings n)
    both n false e =
        let large : n < 2 ^ 64 → ⊥ = λ (l : n < 2 ^ 64). ltb_no n (2 ^ 64) e l in
        of_filed n ∙ none_among _ fs (λ f. lost_at n f.serial (is_eq (R key f.key)) large) ∙ sym (above_none n (has key) readings large fit) ∙ sym (of_readings n)
      where
        ltb_no : (x y : ℕ) → nat_lt x y ≡ false → x < y → ⊥
        ltb_no x y e l = grind (arith, nat_tests)

    -- the serials under the key are those of the readings that have it
    pub serials_are : IsStrictlySortedBy (filed_cmp R) fs → IsStrictlySortedBy nat_cmp (map (λ (r : ReadingRow). r.serial) readings) → serials_under R key fs ≡ map (λ (r : ReadingRow). r.serial) (filter (has key) readings)
    serials_are sorted ascend =
        same_in_order nat_cmp_total exact_unsigned (serials_under R key fs) (map (λ (r : ReadingRow). r.serial) (filter (has key) readings)) (serials_rise total key fs sorted) (sorted_of_kept (has key) readings ascend)
        (λ n. both n (nat_lt n (2 ^ 64)) refl)
