-- A measured number is the one that telegrams alone give.
use Rattle.std.proofs.Common.{arith, ◌≡◌, ℕ, List, Bool, true, false, refl, sym, ap, ◌∙◌, Option, None, Some, if◌then◌else◌}
use Rattle.std.proofs.lemmas.Bool.{and_parts}
use Rattle.mbdc_audit.specs.House.{Run, Value}
use Rattle.mbdc_audit.specs.Amount.{amount, mark, told, unless_told, is_same, is_told, put_mark, grade, is_measured}
use Rattle.mbdc_audit.specs.declared.grade.Grade.{Grade}
use Rattle.mbdc_audit.specs.declared.grade.Grade.TheVariants.{Measured, Hand, Provisional, Estimated, Unclear, Disturbed, Missing}

same : (x y : Option ℕ) → is_same x y ≡ true → x ≡ y
same None y e = grind arith
same (Some x) None e = grind arith
same (Some x) (Some y) e = grind arith

not_measured : (b : Bool) → (if b then Estimated else Hand) ≡ Measured → ⊥
not_measured true e = grind arith
not_measured false e = grind arith

is_true : (b : Bool) (m other : Grade) → (other ≡ Measured → ⊥) → unless_told b m other ≡ Measured → b ≡ true
is_true true m other not_it e = refl
is_true false Measured other not_it e = absurd (not_it e)
is_true false Hand other not_it e = grind arith
is_true false Provisional other not_it e = grind arith
is_true false Estimated other not_it e = grind arith
is_true false Unclear other not_it e = grind arith
is_true false Disturbed other not_it e = grind arith
is_true false Missing other not_it e = grind arith

pub alone : (runs : List Run) (values : List Value) (from to : ℕ) → mark runs values from to ≡ Measured
    → amount runs values from to ≡ amount runs (told values) from to
alone runs values from to e = sym (same (amount runs (told values) from to) (amount runs values from to)
    (and_parts (is_same (amount runs (told values) from to) (amount runs values from to))
    (is_measured (grade runs (told values) from to))
    (is_true (is_told runs values from to) (grade runs values from to) (put_mark values) (not_measured _) e)).0)

pub free : (runs : List Run) (values others : List Value) (from to : ℕ) → mark runs values from to ≡ Measured
    → mark runs others from to ≡ Measured → told values ≡ told others
    → amount runs values from to ≡ amount runs others from to
free runs values others from to e e' one = alone runs values from to e
    ∙ (ap (λ (xs : List Value). amount runs xs from to) one ∙ sym (alone runs others from to e'))
