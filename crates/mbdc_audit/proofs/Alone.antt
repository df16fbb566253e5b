-- Numbers that telegrams alone give.
use Rattle.std.proofs.Common.{arith, ◌≡◌, ◌≤◌, ◌&&◌, ◌||◌, ℕ, suc, List, [], ◌∷◌, ◌++◌, length, Bool, true, false, not, map, filter, refl, sym, ap, ◌∙◌, Option, Some, None, if◌then◌else◌, eqb-true}
use Rattle.std.specs.Prelude.{◌==◌, is_some, nat_lt}
use Rattle.std.specs.List.{list_any}
use Rattle.std.proofs.lemmas.Bool.Decides.{nat_tests}
use Rattle.mbdc_audit.specs.Consumption.Mark.{marked_in}
use Rattle.mbdc_audit.specs.Consumption.Order.{IsInOrder}
use Rattle.mbdc_audit.specs.declared.consumption.entry.Entry.{Entry}
use Rattle.mbdc_audit.specs.Amount.{amount, basis, counting, entries, entry_of, grade, is_clear, is_final, is_guess, is_measured, is_near, is_put, is_same, is_told, mark, put_mark, told, unless_told}
use Rattle.mbdc_audit.specs.Grade.{has_number}
use Rattle.mbdc_audit.specs.House.{Run, Value}
use Rattle.mbdc_audit.specs.Kept.{is_so, know, known_source, IsMarked}
use Rattle.mbdc_audit.specs.View.{known_in}
use Rattle.mbdc_audit.specs.Walk.{IsGraded, is_found}
use Rattle.mbdc_audit.specs.declared.curve.Amount as amount_type
use Rattle.mbdc_audit.specs.declared.house.Value as value_type
use Rattle.mbdc_audit.specs.declared.grade.Grade.{Grade}
use Rattle.mbdc_audit.specs.declared.grade.Grade.TheVariants.{Measured, Hand, Provisional, Estimated, Unclear, Disturbed, Missing}
use Rattle.mbdc_audit.proofs.InOrder.{Rise, counting_rises, from_earlier, in_order}
use Rattle.mbdc_audit.proofs.Lasting.{known_is}
use Rattle.mbdc_audit.proofs.Marks.{back_true, by}

-- ---- told values are in order

get_later : (runs : List Run) (v : Value) (vs : List Value) → IsInOrder (map (entry_of runs) (v ∷ vs)) → IsInOrder (map (entry_of runs) vs)
get_later runs v vs o i j d le lt = o (suc i) (suc j) d (omega arith) (omega arith)

rise_from : (runs : List Run) (t : ℕ) (v : Value) (vs : List Value) → t ≤ v.moment → IsInOrder (map (entry_of runs) (v ∷ vs)) → Rise t (v ∷ vs)
rise_from runs t v [] le o = (le, tt)
rise_from runs t v (u ∷ vs) le o =
    let d : Entry = entry_of runs v in
    let up : v.moment ≤ u.moment = o 0 1 d (omega arith) (omega arith) in
    (le, rise_from runs v.moment u vs up (get_later runs v (u ∷ vs) o))

rise_of : (runs : List Run) (vs : List Value) → IsInOrder (map (entry_of runs) vs) → Rise 0 vs
rise_of runs [] o = tt
rise_of runs (v ∷ vs) o = rise_from runs 0 v vs (omega arith) o

one_moment : (a b : Value) → ((a.run == b.run) && (a.moment == b.moment)) ≡ true → a.moment ≡ b.moment
one_moment a b e = eqb-true a.moment b.moment (back_true (a.run == b.run) (a.moment == b.moment) e)

up_at_once : (t : ℕ) (a b : Value) (rest : List Value) → a.moment ≡ b.moment → Rise t (b ∷ rest) → Rise t (a ∷ b ∷ rest)
up_at_once t a b rest e up = let le : t ≤ b.moment = up.0 in (omega arith, (omega arith, up.1))

counted_rises : (t : ℕ) (vs : List Value) → Rise t (counting vs) → Rise t vs
counted_rises t [] up = up
counted_rises t (a ∷ []) up = up
counted_rises t (a ∷ b ∷ rest) up = elim ((a.run == b.run) && (a.moment == b.moment)) as (λ (q : Bool). (q ≡ true → a.moment ≡ b.moment)
    → Rise t (if q then counting (b ∷ rest) else a ∷ counting (b ∷ rest)) → Rise t (a ∷ b ∷ rest)) [
      | true ↦ λ m h. up_at_once t a b rest (m refl) (counted_rises t (b ∷ rest) h)
      | false ↦ λ m h. (h.0, counted_rises a.moment (b ∷ rest) h.1)
    ] (one_moment a b) up

filter_rises : (p : Value → Bool) (t : ℕ) (vs : List Value) → Rise t vs → Rise t (filter p vs)
filter_rises p t [] up = up
filter_rises p t (v ∷ vs) up = elim (p v) as (λ (b : Bool). Rise t (if b then v ∷ filter p vs else filter p vs)) [
  | true ↦ (up.0, filter_rises p v.moment vs up.1)
  | false ↦ from_earlier t v.moment (filter p vs) up.0 (filter_rises p v.moment vs up.1)
]

pub told_order : (runs : List Run) (vs : List Value) → IsInOrder (map (entry_of runs) (counting vs))
    → IsInOrder (map (entry_of runs) (counting (told vs)))
told_order runs vs o = in_order runs 0 (counting (told vs)) (counting_rises 0 (told vs)
    (filter_rises (λ v. not (is_put v.source)) 0 vs (counted_rises 0 vs (rise_of runs (counting vs) o))))

-- ---- the mark

unless_other : (b : Bool) (m o : Grade) → is_measured m ≡ false → unless_told b m o ≡ m
unless_other true m o e = refl
unless_other false Measured o e = absurd cc
unless_other false Hand o e = refl
unless_other false Provisional o e = refl
unless_other false Estimated o e = refl
unless_other false Unclear o e = refl
unless_other false Disturbed o e = refl
unless_other false Missing o e = refl

unless_is : (b : Bool) (m o : Grade) → b ≡ true → unless_told b m o ≡ m
unless_is true m o e = refl
unless_is false m o e = absurd cc

unless_not : (b : Bool) (m o : Grade) → b ≡ false → is_measured m ≡ true → unless_told b m o ≡ o
unless_not true m o e h = absurd cc
unless_not false Measured o e h = refl
unless_not false Hand o e h = absurd cc
unless_not false Provisional o e h = absurd cc
unless_not false Estimated o e h = absurd cc
unless_not false Unclear o e h = absurd cc
unless_not false Disturbed o e h = absurd cc
unless_not false Missing o e h = absurd cc

measured_some : (d c t f l p : Bool) → is_measured (by d c t f l p) ≡ true → t ≡ true
measured_some true c t f l p e = absurd cc
measured_some false false t f l p e = absurd cc
measured_some false true false f l p e = absurd cc
measured_some false true true f l p e = refl

pub has_some : (runs : List Run) (vs : List Value) (from to : ℕ) → is_measured (grade runs vs from to) ≡ true
    → is_some (amount runs vs from to) ≡ true
has_some runs vs from to e = measured_some (nat_lt 0 (length (marked_in (entries runs vs) from to))) (is_clear runs vs from to)
    (is_some (amount runs vs from to))
    (list_any (λ v. is_guess v.source) (basis from to vs) || (not (is_near from vs) || not (is_near to vs)))
    (is_final runs vs to) (list_any (λ v. is_put v.source) (basis from to vs)) e

eq_itself : (n : ℕ) → (n == n) ≡ true
eq_itself n = grind (arith, nat_tests)

same_itself : (x : Option ℕ) → is_some x ≡ true → is_same x x ≡ true
same_itself None e = absurd cc
same_itself (Some n) e = eq_itself n

numbered : (g : Grade) → is_measured g ≡ true → has_number g ≡ true
numbered Measured e = refl
numbered Hand e = absurd cc
numbered Provisional e = absurd cc
numbered Estimated e = absurd cc
numbered Unclear e = absurd cc
numbered Disturbed e = absurd cc
numbered Missing e = absurd cc

never : (x y : Bool) → (x && false) ≡ (y && false)
never true true = refl
never true false = refl
never false true = refl
never false false = refl

same_number : (g : Grade) (x y : Option ℕ) → (is_same (if has_number g then x else None) y && is_measured g) ≡ (is_same x y && is_measured g)
same_number Measured x y = refl
same_number Hand x y = never (is_same x y) (is_same x y)
same_number Provisional x y = never (is_same x y) (is_same x y)
same_number Estimated x y = never (is_same x y) (is_same x y)
same_number Unclear x y = never (is_same None y) (is_same x y)
same_number Disturbed x y = never (is_same None y) (is_same x y)
same_number Missing x y = never (is_same None y) (is_same x y)

filter_all : (p : Value → Bool) (vs : List Value) → list_any p vs ≡ false → filter (λ v. not (p v)) vs ≡ vs
filter_all p [] e = refl
filter_all p (v ∷ vs) e = elim (p v) as (λ (b : Bool). (b || list_any p vs) ≡ false
    → (if not b then v ∷ filter (λ x. not (p x)) vs else filter (λ x. not (p x)) vs) ≡ v ∷ vs) [
      | true ↦ λ h. absurd cc
      | false ↦ λ h. ap (λ (l : List Value). v ∷ l) (filter_all p vs h)
    ] e

put_has : (b : Bool) → has_number (if b then Estimated else Hand) ≡ true
put_has true = refl
put_has false = refl

module _ (runs : List Run) (vs : List Value) (from to : ℕ) where
  graded_as : (a : amount_type.Amount) → IsMarked runs vs from to a → mark runs vs from to ≡ grade runs vs from to → IsGraded runs vs from to a
  graded_as a m e = (
    m.grade_is ∙ sym e,
    m.amount_is ∙ ap (λ (g : Grade). if has_number g then amount runs vs from to else None) (sym e),
  )

  pub not_measured : (a : amount_type.Amount) → IsMarked runs vs from to a → is_measured a.grade ≡ false → IsGraded runs vs from to a
  not_measured a m e = graded_as a m (unless_other (is_told runs vs from to) (grade runs vs from to) (put_mark vs)
      (ap is_measured (sym m.grade_is) ∙ e))

  pub nothing_put : (a : amount_type.Amount) → IsMarked runs vs from to a → is_measured a.grade ≡ true
      → list_any (λ v. is_put v.source) vs ≡ false → IsGraded runs vs from to a
  nothing_put a m e nothing =
      let g : is_measured (grade runs vs from to) ≡ true = ap is_measured (sym m.grade_is) ∙ e in
      let all : told vs ≡ vs = filter_all (λ (v : Value). is_put v.source) vs nothing in
      let same : is_same (amount runs vs from to) (amount runs vs from to) ≡ true =
      same_itself (amount runs vs from to) (has_some runs vs from to g) in
      let t : is_told runs vs from to ≡ true =
      ap (λ (l : List Value). is_same (amount runs l from to) (amount runs vs from to) && is_measured (grade runs l from to)) all
      ∙ (ap (λ (b : Bool). b && is_measured (grade runs vs from to)) same ∙ g) in
      graded_as a m (unless_is (is_told runs vs from to) (grade runs vs from to) (put_mark vs) t)

  is_told_by : (a b : amount_type.Amount) → IsMarked runs vs from to a → is_measured a.grade ≡ true → IsMarked runs (told vs) from to b
      → (is_same b.amount a.amount && is_measured b.grade) ≡ is_told runs vs from to
  is_told_by a b m e n =
      let g : is_measured (grade runs vs from to) ≡ true = ap is_measured (sym m.grade_is) ∙ e in
      let here : a.amount ≡ amount runs vs from to = m.amount_is
      ∙ ap (λ (x : Bool). if x then amount runs vs from to else None) (numbered (grade runs vs from to) g) in
      ap (λ (x : Option ℕ). is_same b.amount x && is_measured b.grade) here
      ∙ (ap (λ (x : Option ℕ). is_same x (amount runs vs from to) && is_measured b.grade) n.amount_is
      ∙ (ap (λ (y : Grade). is_same (if has_number (grade runs (told vs) from to) then amount runs (told vs) from to else None) (amount runs vs from to)
      && is_measured y) n.grade_is
      ∙ same_number (grade runs (told vs) from to) (amount runs (told vs) from to) (amount runs vs from to)))

  pub told_same : (a b : amount_type.Amount) (r : Bool) → IsMarked runs vs from to a → is_measured a.grade ≡ true → IsMarked runs (told vs) from to b
      → r ≡ (is_same b.amount a.amount && is_measured b.grade) → r ≡ true → IsGraded runs vs from to a
  told_same a b r m e n is so = graded_as a m (unless_is (is_told runs vs from to) (grade runs vs from to) (put_mark vs)
      (sym (is_told_by a b m e n) ∙ (sym is ∙ so)))

  pub told_other : (a b : amount_type.Amount) (r : Bool) (g : Grade) → IsMarked runs vs from to a → is_measured a.grade ≡ true
      → IsMarked runs (told vs) from to b → r ≡ (is_same b.amount a.amount && is_measured b.grade) → r ≡ false → g ≡ put_mark vs
      → IsGraded runs vs from to (record { amount = a.amount; grade = g })
  told_other a b r g m e n is not_so put =
      let h : is_measured (grade runs vs from to) ≡ true = ap is_measured (sym m.grade_is) ∙ e in
      let there : mark runs vs from to ≡ put_mark vs = unless_not (is_told runs vs from to) (grade runs vs from to) (put_mark vs)
      (sym (is_told_by a b m e n) ∙ (sym is ∙ not_so)) h in (
        put ∙ sym there,
        m.amount_is ∙ (ap (λ (x : Bool). if x then amount runs vs from to else None) (numbered (grade runs vs from to) h
            ∙ sym (put_has (list_any (λ v. is_guess v.source) vs)))
            ∙ ap (λ (y : Grade). if has_number y then amount runs vs from to else None) (sym there)),
      )

-- ---- any value

any_if : (p : Value → Bool) (b : Bool) (k : Value) (ys : List Value) → list_any p ((if b then k ∷ [] else []) ++ ys) ≡ ((b && p k) || list_any p ys)
any_if p true k ys = refl
any_if p false k ys = refl

pub any_known : (g : Bool) (xs : List value_type.Value)
    → list_any (λ v. is_found v.found && is_so g (known_source v)) xs ≡ list_any (λ v. is_so g v.source) (known_in xs)
any_known g [] = refl
any_known g (v ∷ xs) = ap (λ (b : Bool). (is_found v.found && is_so g (known_source v)) || b) (any_known g xs)
    ∙ (sym (any_if (λ (u : Value). is_so g u.source) (is_found v.found) (know v) (known_in xs))
    ∙ ap (λ (l : List Value). list_any (λ u. is_so g u.source) (l ++ known_in xs)) (sym (known_is v)))
