-- The counters of fixed data that come next from a place on.
use Rattle.std.proofs.Common.{◌≡◌, ℕ, ◌+◌, ◌%◌, ◌<◌, ◌≤◌, Bool, true, false, cond, List, [], ◌∷◌, length, refl, sym, ap, subst, ◌∙◌, arith, inl, inr}
use Rattle.std.specs.Prelude.{nat_lt, slice_index, slice_range, Option, Some, None}
use Rattle.std.proofs.lemmas.Bool.Decides.{nat_tests}
use Rattle.dc_records.proofs.Spellings.Fields.{chosen}
use Rattle.dc_records.specs.Record.{Entry}
use Rattle.mbdc_reading.specs.Counter.{Counter, counted, counter_by, first_counter, second_counter, second_stored, second_code}
use Rattle.mbdc_reading.specs.Fixed.{Fixed, fixed_at, fixed_by, shows_counters}
use Rattle.mbdc_reading.specs.Units.{FixedUnit}
use Rattle.mbdc_library.specs.declared.plain.PlainRecord.{PlainRecord}
use Rattle.mbdc_library.specs.Plain.{counter_places, plain_record}
use Rattle.mbdc_library.specs.Walk.{IsNextCounter, Item, counters_from, counters_left, first_item, second_item}

-- ---- the parts of a counter

entry_is : (e : Entry) (u : Option FixedUnit) → (counted e u).entry ≡ e
entry_is e None = refl
entry_is e (Some u) = refl

by_vib : (vib content : List ℕ) (status code storage subunit : ℕ) → (counter_by vib content status code storage subunit).entry.vib ≡ vib
by_vib vib content status code storage subunit = ap (λ (e : Entry). e.vib) (entry_is _ _)

by_content : (vib content : List ℕ) (status code storage subunit : ℕ) → (counter_by vib content status code storage subunit).entry.content ≡ content
by_content vib content status code storage subunit = ap (λ (e : Entry). e.content) (entry_is _ _)

either : (b : Bool) (x y : Counter) (f : Counter → List ℕ) (z : List ℕ) → f x ≡ z → f y ≡ z → f (cond b x y) ≡ z
either true x y f z p q = p
either false x y f z p q = q

second_vib : (vib content : List ℕ) (status one two : ℕ) → (second_counter vib content status one two).entry.vib ≡ vib
second_vib vib content status one two =
    either (second_stored status two) (counter_by vib content status (second_code one two) 1 0) (counter_by vib content status (second_code one two) 0 1) (λ c. c.entry.vib) vib
    (by_vib vib content status (second_code one two) 1 0) (by_vib vib content status (second_code one two) 0 1)

second_content : (vib content : List ℕ) (status one two : ℕ) → (second_counter vib content status one two).entry.content ≡ content
second_content vib content status one two =
    either (second_stored status two) (counter_by vib content status (second_code one two) 1 0) (counter_by vib content status (second_code one two) 0 1) (λ c. c.entry.content) content
    (by_content vib content status (second_code one two) 1 0) (by_content vib content status (second_code one two) 0 1)

-- ---- the structure

some_is : (f g : Fixed) → Some f ≡ Some g → f ≡ g
some_is f g e = cc

fixed_is : (body : List ℕ) (f : Fixed) → fixed_at body ≡ Some f → fixed_by body (slice_index body 5) (slice_index body 6) (slice_index body 7) ≡ f
unfolding fixed_at
fixed_is body f e =
    elim (chosen (nat_lt (length body) 16) None _ (Some f) e) [
      | inl p ↦ absurd (let none = p.1 in cc)
      | inr p ↦ some_is _ f p.1
    ]

-- ---- what comes next

walk_by : (f : Fixed) (body : List ℕ) (at next : ℕ) (i : Item) → shows_counters f ≡ true → counters_from at f body ≡ i ∷ counters_from next f body → counters_left f body at ≡ i ∷ counters_left f body next
walk_by f body at next i shown e =
    ap (λ (b : Bool). cond b (counters_from at f body) []) shown ∙ e ∙ sym (ap (λ (b : Bool). i ∷ cond b (counters_from next f body) []) shown)

pub first_next : (f : Fixed) (body : List ℕ) (at : ℕ) (p : PlainRecord) → fixed_at body ≡ Some f → shows_counters f ≡ true → at < 12
    → p ≡ plain_record f.first.entry 0 (0x10000 + slice_index body 6 % 64) f.first.reading (counter_places at 6 8) → IsNextCounter f body at p
first_next f body at p is shown early e =
    let g = fixed_is body f is in
    let there : nat_lt at 12 ≡ true = grind (arith, nat_tests) in
    let from : counters_from at f body ≡ first_item f body ∷ counters_from 12 f body = rw there refl in
    let vib : slice_range body 6 7 ≡ f.first.entry.vib = sym (by_vib _ _ _ _ _ _) ∙ ap (λ (h : Fixed). h.first.entry.vib) g in
    let content : slice_range body 8 12 ≡ f.first.entry.content = sym (by_content _ _ _ _ _ _) ∙ ap (λ (h : Fixed). h.first.entry.content) g in
    subst (IsNextCounter f body at) (sym e) (first_item f body, walk_by f body at 12 (first_item f body) shown from, (refl, vib, content), refl)

pub second_next : (f : Fixed) (body : List ℕ) (at : ℕ) (p : PlainRecord) → fixed_at body ≡ Some f → shows_counters f ≡ true → 12 ≤ at → at < 16
    → p ≡ plain_record f.second.entry 0 (0x10000 + second_code (slice_index body 6) (slice_index body 7)) f.second.reading (counter_places at 7 12) → IsNextCounter f body at p
second_next f body at p is shown late early e =
    let g = fixed_is body f is in
    let past : nat_lt at 12 ≡ false = grind (arith, nat_tests) in
    let there : nat_lt at 16 ≡ true = grind (arith, nat_tests) in
    let from : counters_from at f body ≡ second_item f body ∷ counters_from 16 f body = rw (past, there) refl in
    let vib : slice_range body 7 8 ≡ f.second.entry.vib = sym (second_vib (slice_range body 7 8) (slice_range body 12 16) (slice_index body 5) (slice_index body 6) (slice_index body 7)) ∙ ap (λ (h : Fixed). h.second.entry.vib) g in
    let content : slice_range body 12 16 ≡ f.second.entry.content = sym (second_content (slice_range body 7 8) (slice_range body 12 16) (slice_index body 5) (slice_index body 6) (slice_index body 7)) ∙ ap (λ (h : Fixed). h.second.entry.content) g in
    subst (IsNextCounter f body at) (sym e) (second_item f body, walk_by f body at 16 (second_item f body) shown from, (refl, vib, content), refl)

-- the counter that comes next
pub ruleset next_counter = (first_next, second_next)
