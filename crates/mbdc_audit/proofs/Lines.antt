-- What the fields of a line spell, one by one.
use Rattle.std.proofs.Common.{◌≡◌, ℕ, zero, suc, ◌+◌, ◌<◌, ◌≤◌, List, [], ◌∷◌, ◌++◌, length, get_or, take, drop, set, Bool, true, false, cond, refl, ap, sym, ◌∙◌, subst, arith, Option, None, Some, append_assoc, eqb-true, is_some, Bor}
use Rattle.std.proofs.lemmas.List.{drop_all, drop_more, drop-drop, take-append-drop, take_more_set}
use Rattle.std.proofs.lemmas.Option.{none-some}
use Rattle.std.specs.Str.{bytes_eq}
use Rattle.std.proofs.lemmas.Bool.{and_from, not-false, not-true}
use Rattle.mbdc_audit.proofs.Bodies.{all_rest}
use Rattle.std.specs.Prelude.{All, ◌==◌, codes, not, option_map, slice_get}
use Rattle.mbdc_audit.specs.declared.field.Kind.{Kind}
use Rattle.mbdc_audit.specs.declared.field.Kind.TheVariants as kind
use Rattle.mbdc_audit.specs.declared.smallest.Spelled.{Spelled}
use Rattle.mbdc_audit.specs.Field.{fields_of, left_fields, onto_field}
use Rattle.mbdc_audit.specs.Line.{AreBlank, AreRead, Fields, Reads, field_of, is_header, joined, rest_of}

-- ---- a text is its fields, with commas between them

some_onto : (b : ℕ) (fields : Fields) → 0 < length (onto_field b fields)
some_onto b [] = omega arith
some_onto b (field ∷ fields) = omega arith

pub some_fields : (s : List ℕ) → 0 < length (fields_of s)
unfolding fields_of
some_fields [] = omega arith
some_fields (b ∷ rest) =
    elim (b == 44) as (λ (t : Bool). 0 < length (cond t ([] ∷ fields_of rest) (onto_field b (fields_of rest))))
    [ true ↦ omega arith | false ↦ some_onto b (fields_of rest) ]

joined_comma : (fields : Fields) → 0 < length fields → joined ([] ∷ fields) ≡ 44 ∷ joined fields
joined_comma [] some = absurd (omega arith)
joined_comma (field ∷ fields) some = refl

joined_onto : (b : ℕ) (fields : Fields) → 0 < length fields → joined (onto_field b fields) ≡ b ∷ joined fields
joined_onto b [] some = absurd (omega arith)
joined_onto b (field ∷ []) some = refl
joined_onto b (field ∷ next ∷ rest) some = refl

pub joined_fields : (s : List ℕ) → joined (fields_of s) ≡ s
unfolding fields_of
joined_fields [] = refl
joined_fields (b ∷ rest) =
    elim (b == 44) as (λ (t : Bool). (b == 44) ≡ t → joined (cond t ([] ∷ fields_of rest) (onto_field b (fields_of rest))) ≡ b ∷ rest) [
      | true ↦ λ comma. joined_comma (fields_of rest) (some_fields rest) ∙ ap (λ (t : List ℕ). 44 ∷ t) (joined_fields rest)
          ∙ ap (λ (n : ℕ). n ∷ rest) (sym (eqb-true b 44 comma))
      | false ↦ λ other. joined_onto b (fields_of rest) (some_fields rest) ∙ ap (λ (t : List ℕ). b ∷ t) (joined_fields rest)
    ] refl

whole_field : (fields : Fields) → 0 < length fields → joined fields ≡ field_of kind.Bodies fields
whole_field [] some = absurd (omega arith)
whole_field (field ∷ fields) some = refl

pub all_left : (s : List ℕ) → s ≡ field_of kind.Bodies (fields_of s)
all_left s = sym (joined_fields s) ∙ whole_field (fields_of s) (some_fields s)

-- ---- one field more

one_more : (k : Kind) (ks : List Kind) (lefts : Fields) (field : List ℕ) (n : Option Spelled) (fs : Fields) (ns : List (Option Spelled))
    → 0 < length lefts → field ≡ field_of k lefts → Reads k field n → AreRead ks (rest_of k lefts) fs ns
    → AreRead (k ∷ ks) lefts (field ∷ fs) (n ∷ ns)
one_more k ks [] field n fs ns some is reads more = absurd (omega arith)
one_more k ks (left ∷ lefts) field n fs ns some is reads more = (is, reads, more)

pub one_less : (k : Kind) (ks : List Kind) (lefts fs : Fields) (ns : List (Option Spelled)) → AreRead (k ∷ ks) lefts fs ns
    → (n : Option Spelled) × Reads k (field_of k lefts) n × AreRead ks (rest_of k lefts) (drop 1 fs) (drop 1 ns)
one_less k ks [] fs ns is = absurd is
one_less k ks (left ∷ lefts) [] ns is = absurd is
one_less k ks (left ∷ lefts) (field ∷ fs) [] is = absurd is
one_less k ks (left ∷ lefts) (field ∷ fs) (n ∷ ns) is =
    (n, subst (λ (f : List ℕ). Reads k f n) is.0 is.1, is.2)

-- ---- a loop over the forms

-- so many fields are read, and these are left
pub record Reading (kinds : List Kind) (lefts : Fields) (i : ℕ) (now fields : Fields) (numbers : List (Option Spelled)) : Type 0 where
  pub sound : (fs : Fields) (ns : List (Option Spelled)) → AreRead (drop i kinds) now fs ns
      → AreRead kinds lefts (take i fields ++ fs) (take i numbers ++ ns)
  pub exact : (fs : Fields) (ns : List (Option Spelled)) → AreRead kinds lefts fs ns
      → AreRead (drop i kinds) now (drop i fs) (drop i ns)

pub begun : (kinds : List Kind) (lefts fields : Fields) (numbers : List (Option Spelled)) → Reading kinds lefts 0 lefts fields numbers
begun kinds lefts fields numbers = record { sound = λ fs ns is. is; exact = λ fs ns is. is }

set_on : {X : Type 0} (xs : List X) (i : ℕ) (y : X) (ys : List X) → i < length xs → take (i + 1) (set xs i y) ++ ys ≡ take i xs ++ (y ∷ ys)
set_on xs i y ys lt = ap (λ t. t ++ ys) (take_more_set xs i y lt) ∙ append_assoc (take i xs) (y ∷ []) ys

from_here : (kinds : List Kind) (i : ℕ) (k : Kind) → i < length kinds → get_or kinds i k ≡ k → drop i kinds ≡ k ∷ drop (i + 1) kinds
from_here kinds i k lt is = drop_more kinds i k lt ∙ ap (λ (x : Kind). x ∷ drop (i + 1) kinds) is

pub next : (kinds : List Kind) (lefts : Fields) (i : ℕ) (now now' fields : Fields) (numbers : List (Option Spelled))
    (k : Kind) (field : List ℕ) (n : Option Spelled) → i < length kinds → get_or kinds i k ≡ k → i < length fields → i < length numbers
    → 0 < length now → field ≡ field_of k now → now' ≡ rest_of k now → Reads k field n → Reading kinds lefts i now fields numbers
    → Reading kinds lefts (i + 1) now' (set fields i field) (set numbers i n)
next kinds lefts i now now' fields numbers k field n lt k_is few few' some is rest_is reads before = record {
  sound = λ fs ns read.
      let more : AreRead (drop (i + 1) kinds) (rest_of k now) fs ns =
      subst (λ (ls : Fields). AreRead (drop (i + 1) kinds) ls fs ns) rest_is read in
      let one : AreRead (drop i kinds) now (field ∷ fs) (n ∷ ns) =
      subst (λ (ks : List Kind). AreRead ks now (field ∷ fs) (n ∷ ns)) (sym (from_here kinds i k lt k_is))
      (one_more k (drop (i + 1) kinds) now field n fs ns some is reads more) in
      subst (λ (xs : Fields). AreRead kinds lefts xs (take (i + 1) (set numbers i n) ++ ns)) (sym (set_on fields i field fs few))
      (subst (λ (ys : List (Option Spelled)). AreRead kinds lefts (take i fields ++ (field ∷ fs)) ys) (sym (set_on numbers i n ns few'))
      (before.sound (field ∷ fs) (n ∷ ns) one));
  exact = λ fs ns read.
      let one : AreRead (k ∷ drop (i + 1) kinds) now (drop i fs) (drop i ns) =
      subst (λ (ks : List Kind). AreRead ks now (drop i fs) (drop i ns)) (from_here kinds i k lt k_is) (before.exact fs ns read) in
      let less : AreRead (drop (i + 1) kinds) (rest_of k now) (drop 1 (drop i fs)) (drop 1 (drop i ns)) =
      (one_less k (drop (i + 1) kinds) now (drop i fs) (drop i ns) one).2 in
      subst (λ (ls : Fields). AreRead (drop (i + 1) kinds) ls (drop (i + 1) fs) (drop (i + 1) ns)) (sym rest_is)
      (subst (λ (xs : Fields). AreRead (drop (i + 1) kinds) (rest_of k now) xs (drop (i + 1) ns)) (drop-drop 1 i fs)
      (subst (λ (ys : List (Option Spelled)). AreRead (drop (i + 1) kinds) (rest_of k now) (drop 1 (drop i fs)) ys) (drop-drop 1 i ns) less));
}

pub all_read : (kinds : List Kind) (lefts : Fields) (i : ℕ) (fields : Fields) (numbers : List (Option Spelled)) → length kinds ≤ i
    → AreBlank (drop i fields) (drop i numbers) → Reading kinds lefts i [] fields numbers → AreRead kinds lefts fields numbers
all_read kinds lefts i fields numbers past blank before =
    let none : AreRead (drop i kinds) [] (drop i fields) (drop i numbers) =
    subst (λ (ks : List Kind). AreRead ks [] (drop i fields) (drop i numbers)) (sym (drop_all i kinds past)) blank in
    subst (λ (xs : Fields). AreRead kinds lefts xs numbers) (take-append-drop i fields)
    (subst (λ (ys : List (Option Spelled)). AreRead kinds lefts (take i fields ++ drop i fields) ys) (take-append-drop i numbers)
    (before.sound (drop i fields) (drop i numbers) none))

all_nil : {X : Type 0} (e : X) (i : ℕ) → All (λ x. x ≡ e) (drop (i + 1) [])
all_nil {X} e i = subst (λ (xs : List X). All (λ x. x ≡ e) xs) (sym (drop_all (i + 1) [] (omega arith))) (λ k d lt. absurd (omega arith))

one_more_place : (i : ℕ) → suc i + 1 ≡ suc (i + 1)
one_more_place i = omega arith

all_after : {X : Type 0} (e : X) (xs : List X) (i : ℕ) (y : X) → All (λ x. x ≡ e) (drop i xs) → All (λ x. x ≡ e) (drop (i + 1) (set xs i y))
all_after e [] i y all = all_nil e i
all_after e (x ∷ xs) zero y all = all_rest (λ x. x ≡ e) x xs all
all_after e (x ∷ xs) (suc i) y all = subst (λ n. All (λ x. x ≡ e) (drop n (x ∷ set xs i y))) (sym (one_more_place i)) (all_after e xs i y all)

-- what is blank after a place is blank after the next one, too
pub blank_after : (fields : Fields) (numbers : List (Option Spelled)) (i : ℕ) (f : List ℕ) (n : Option Spelled)
    → AreBlank (drop i fields) (drop i numbers) → AreBlank (drop (i + 1) (set fields i f)) (drop (i + 1) (set numbers i n))
blank_after fields numbers i f n blank = (all_after [] fields i f blank.0, all_after None numbers i n blank.1)

-- nothing is left for a form
pub too_few : (kinds : List Kind) (lefts : Fields) (i : ℕ) (fields : Fields) (numbers : List (Option Spelled)) (k : Kind) → i < length kinds
    → get_or kinds i k ≡ k → Reading kinds lefts i [] fields numbers → (fs : Fields) (ns : List (Option Spelled)) → AreRead kinds lefts fs ns → ⊥
too_few kinds lefts i fields numbers k lt k_is before fs ns read =
    subst (λ (ks : List Kind). AreRead ks [] (drop i fs) (drop i ns)) (from_here kinds i k lt k_is) (before.exact fs ns read)

none_after : (lefts fs : Fields) (ns : List (Option Spelled)) → 0 < length lefts → AreRead [] lefts fs ns → ⊥
none_after [] fs ns some is = absurd (omega arith)
none_after (left ∷ lefts) fs ns some is = is

-- no form is left for a field
pub too_many : (kinds : List Kind) (lefts : Fields) (i : ℕ) (now fields : Fields) (numbers : List (Option Spelled)) → length kinds ≤ i
    → 0 < length now → Reading kinds lefts i now fields numbers → (fs : Fields) (ns : List (Option Spelled)) → AreRead kinds lefts fs ns → ⊥
too_many kinds lefts i now fields numbers past some before fs ns read = none_after now (drop i fs) (drop i ns) some
    (subst (λ (ks : List Kind). AreRead ks now (drop i fs) (drop i ns)) (drop_all i kinds past) (before.exact fs ns read))

-- a field isn't of its form
pub not_read : (kinds : List Kind) (lefts : Fields) (i : ℕ) (now fields : Fields) (numbers : List (Option Spelled)) (k : Kind) (field : List ℕ)
    → i < length kinds → get_or kinds i k ≡ k → field ≡ field_of k now → ((said : Option Spelled) → Reads k field said → None ≡ Some said)
    → Reading kinds lefts i now fields numbers → (fs : Fields) (ns : List (Option Spelled)) → AreRead kinds lefts fs ns → ⊥
not_read kinds lefts i now fields numbers k field lt k_is is only before fs ns read =
    let one = one_less k (drop (i + 1) kinds) now (drop i fs) (drop i ns)
    (subst (λ (ks : List Kind). AreRead ks now (drop i fs) (drop i ns)) (from_here kinds i k lt k_is) (before.exact fs ns read)) in
    none-some one.0 (only one.0 (subst (λ (f : List ℕ). Reads k f one.0) (sym is) one.1))

-- ---- a form at a place

pub reads_at : (kinds : List Kind) (lefts fields : Fields) (numbers : List (Option Spelled)) → AreRead kinds lefts fields numbers
    → (i : ℕ) (d : Kind) (e : Option Spelled) → i < length kinds → (field : List ℕ) × Reads (get_or kinds i d) field (get_or numbers i e) × (i < length numbers) × (slice_get fields i ≡ Some field)
reads_at [] lefts fields numbers read i d e lt = absurd (omega arith)
reads_at (k ∷ ks) [] fields numbers read i d e lt = absurd read
reads_at (k ∷ ks) (left ∷ lefts) [] numbers read i d e lt = absurd read
reads_at (k ∷ ks) (left ∷ lefts) (field ∷ fields) [] read i d e lt = absurd read
reads_at (k ∷ ks) (left ∷ lefts) (field ∷ fields) (n ∷ numbers) read zero d e lt = (field, read.1, omega arith, refl)
reads_at (k ∷ ks) (left ∷ lefts) (field ∷ fields) (n ∷ numbers) read (suc i) d e lt =
    let more = reads_at ks (rest_of k (left ∷ lefts)) fields numbers read.2 i d e (omega arith) in
    (more.0, more.1, (let few = more.2 in omega arith), more.3)

-- ---- the header

long_header : (a b f : List ℕ) (fields : Fields) → 0 < length fields → is_header (a ∷ b ∷ f ∷ fields) ≡ false
long_header a b f [] some = absurd (omega arith)
long_header a b f (g ∷ fields) some = refl

header_by : (a b f : List ℕ) (r : Option (List ℕ)) (n : Bool) → bytes_eq a (codes "audit") ≡ true → bytes_eq b (codes "2") ≡ true
    → is_some r ≡ not n → n ≡ is_header (a ∷ b ∷ f ∷ left_fields r)
header_by a b f None n one other is = not-false n (sym is) ∙ sym (and_from _ _ one other)
header_by a b f (Some s) n one other is = not-true n (sym is) ∙ sym (long_header a b f (fields_of s) (some_fields s))

pub header_end : (text a b f rest label : List ℕ) (r : Option (List ℕ)) (n : Bool) → fields_of text ≡ a ∷ fields_of rest
    → fields_of rest ≡ b ∷ fields_of label → fields_of label ≡ f ∷ left_fields r → bytes_eq a (codes "audit") ≡ true
    → bytes_eq b (codes "2") ≡ true → is_some r ≡ not n → n ≡ is_header (fields_of text)
header_end text a b f rest label r n first second third one other is =
    let whole : fields_of text ≡ a ∷ b ∷ f ∷ left_fields r =
    first ∙ (ap (λ (fs : Fields). a ∷ fs) second ∙ ap (λ (fs : Fields). a ∷ b ∷ fs) third) in
    header_by a b f r n one other is ∙ ap is_header (sym whole)

pub is_some_now : (r : Option (Bor (List ℕ))) → is_some (option_map (λ s. s.now) r) ≡ is_some r
is_some_now None = refl
is_some_now (Some s) = refl
