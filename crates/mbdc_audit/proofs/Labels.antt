-- The label of a house: the month of a day.
use Rattle.std.proofs.Common.{arith, ◌≡◌, ◌<◌, ◌≤◌, ◌+◌, ◌++◌, ◌&&◌, ℕ, List, [], ◌∷◌, length, take, refl, sym, ◌∙◌, ap, subst, IsTrue, Bool, true, false, Option, Some, None}
use Rattle.std.specs.Prelude.{nat_le, if◌then◌else◌}
use Rattle.std.proofs.lemmas.List.{append_assoc, length-append, take_at}
use Rattle.std.proofs.lemmas.Bool.Decides.{nat_tests}
use Rattle.dc_units.proofs.DayTexts.{numbers_are_small}
use Rattle.dc_units.specs.Date.{Day, date_of, exists}
use Rattle.dc_units.specs.Text.{day_text, last_digits}
use Rattle.dc_units.proofs.Exact.{length-last_digits}
use Rattle.std.proofs.lemmas.Option.{none-some, same_Some}
use Rattle.mbdc_audit.specs.Moment.{number_of}
use Rattle.mbdc_audit.specs.Sound.{IsLabel}

front : ℕ → ℕ → List ℕ
front y m = last_digits 10 4 y ++ (45 ∷ last_digits 10 2 m)

text_is : (d : Day) → day_text d ≡ front d.year d.month ++ (45 ∷ last_digits 10 2 d.day)
unfolding front
text_is d = sym (append_assoc (last_digits 10 4 d.year) (45 ∷ last_digits 10 2 d.month) (45 ∷ last_digits 10 2 d.day))

front_long : (y m : ℕ) → length (front y m) ≡ 7
unfolding front
front_long y m =
    omega (arith, length-append (last_digits 10 4 y) (45 ∷ last_digits 10 2 m), length-last_digits 10 4 y, length-last_digits 10 2 m)

take_front : (d : Day) → take 7 (day_text d) ≡ front d.year d.month
take_front d =
    ap (λ (t : List ℕ). take 7 t) (text_is d) ∙ take_at (front d.year d.month) (45 ∷ last_digits 10 2 d.day) 7 (front_long d.year d.month)

first_digits : last_digits 10 2 1 ≡ 48 ∷ 49 ∷ []
unfolding last_digits
first_digits = refl

-- the first day of a month
abbrev first_of : Day → Day
first_of d = record { year = d.year; month = d.month; day = 1 }

-- the label with the first day is that day's text
pub first_text : (label : List ℕ) (d : Day) → label ≡ take 7 (day_text d) → label ++ 45 ∷ 48 ∷ 49 ∷ [] ≡ day_text (first_of d)
first_text label d is =
    ap (λ (t : List ℕ). t ++ 45 ∷ 48 ∷ 49 ∷ []) (is ∙ take_front d)
    ∙ (ap (λ (t : List ℕ). front d.year d.month ++ 45 ∷ t) (sym first_digits) ∙ sym (text_is (first_of d)))

pub label_of : (label : List ℕ) (a d : Day) → length label ≡ 7 → label ++ 45 ∷ 48 ∷ 49 ∷ [] ≡ day_text a → a.year ≡ d.year → a.month ≡ d.month
    → label ≡ take 7 (day_text d)
label_of label a d long text year month =
    sym (take_at label (45 ∷ 48 ∷ 49 ∷ []) 7 long) ∙ (ap (λ (t : List ℕ). take 7 t) text ∙ (take_front a
    ∙ (ap (λ (y : ℕ). front y a.month) year ∙ (ap (λ (m : ℕ). front d.year m) month ∙ sym (take_front d)))))

pub label_long : (label : List ℕ) (d : Day) → label ≡ take 7 (day_text d) → length label ≡ 7
label_long label d is = ap length is ∙ (ap length (take_front d) ∙ front_long d.year d.month)

abbrev there : ℕ → ℕ → ℕ → ℕ → Bool
there y m k n = nat_le y 9999 && (nat_le 1 m && nat_le m 12) && (nat_le 1 k && nat_le k n)

first_there : (y m k n : ℕ) → there y m k n ≡ true → there y m 1 n ≡ true
first_there y m k n e = grind (arith, nat_tests)

day_from : (y m k n : ℕ) → there y m k n ≡ true → 1 ≤ k
day_from y m k n e = grind (arith, nat_tests)

pub first_exists : (d : Day) → IsTrue (exists d.year d.month d.day) → IsTrue (exists d.year d.month 1)
first_exists d e = first_there d.year d.month d.day _ e

pub days_within : (d : Day) → IsTrue (exists d.year d.month d.day) → (1 ≤ d.day) × (d.day < 100)
days_within d e = (day_from d.year d.month d.day _ e, (numbers_are_small d e).2)

pub date_is : (d : Day) → IsTrue (exists d.year d.month d.day) → date_of d.year d.month d.day ≡ Some d
date_is d e = ap (λ (t : Bool). if t then Some d else None) e

pub at_month : (first d : Day) → first ≡ first_of d → IsTrue (exists d.year d.month d.day) → date_of first.year first.month d.day ≡ Some d
at_month first d is e = ap (λ (x : Day). date_of x.year x.month d.day) is ∙ date_is d e

-- what is there by its numbers
record Made (y m : ℕ) (d : Day) : Type 0 where
  there_is : IsTrue (exists d.year d.month d.day)
  year : d.year ≡ y
  month : d.month ≡ m

made_by : (y m k : ℕ) (d : Day) (t : Bool) → exists y m k ≡ t → (if t then Some (record { year = y; month = m; day = k }) else None) ≡ Some d → Made y m d
made_by y m k d true e is =
    let same : record { year = y; month = m; day = k } ≡ d = same_Some (record { year = y; month = m; day = k }) d is in
    record {
      there_is = subst (λ (x : Day). IsTrue (exists x.year x.month x.day)) same e;
      year = sym (ap (λ (x : Day). x.year) same);
      month = sym (ap (λ (x : Day). x.month) same);
    }
made_by y m k d false e is = absurd (none-some d is)

made : (y m k : ℕ) (d : Day) → date_of y m k ≡ Some d → Made y m d
made y m k d is = made_by y m k d (exists y m k) refl is

-- a label that a day was found for
pub found : (label : List ℕ) (first d : Day) (k day : ℕ) → length label ≡ 7 → label ++ 45 ∷ 48 ∷ 49 ∷ [] ≡ day_text first
    → date_of first.year first.month k ≡ Some d → number_of d ≡ day + 1 → IsLabel label day
found label first d k day long text is number =
    let m = made first.year first.month k d is in
    (d, m.there_is, number, label_of label first d long text (sym m.year) (sym m.month))

-- the first day of a label's month
pub first_is : (label : List ℕ) (first : Day) (day : ℕ)
    → ((date : Day) → IsTrue (exists date.year date.month date.day) → label ++ 45 ∷ 48 ∷ 49 ∷ [] ≡ day_text date → Some first ≡ Some date)
    → ((k : ℕ) → 1 ≤ k → k < 100 → (d : Day) → date_of first.year first.month k ≡ Some d → number_of d ≡ day + 1 → ⊥)
    → IsLabel label day → ⊥
first_is label first day only none l =
    let d : Day = l.0 in
    let same : first ≡ first_of d = same_Some first (first_of d) (only (first_of d) (first_exists d l.1) (first_text label d l.3)) in
    let within = days_within d l.1 in
    none d.day within.0 within.1 d (at_month first d same l.1) l.2

pub no_first : (label : List ℕ) (o : Option Day) (day : ℕ) → o ≡ None
    → ((date : Day) → IsTrue (exists date.year date.month date.day) → label ++ 45 ∷ 48 ∷ 49 ∷ [] ≡ day_text date → o ≡ Some date)
    → IsLabel label day → ⊥
no_first label o day none only l =
    none-some (first_of l.0) (sym none ∙ only (first_of l.0) (first_exists l.0 l.1) (first_text label l.0 l.3))
