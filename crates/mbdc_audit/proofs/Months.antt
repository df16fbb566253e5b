-- The text of a month.
use Rattle.std.proofs.Common.{◌≡◌, ℕ, ◌/◌, ◌%◌, ◌<◌, ◌≤◌, List, ◌++◌, length, get_or, Bool, true, ap, sym, ◌∙◌, arith, Option, None, Some, length-append, is_some}
use Rattle.std.specs.Prelude.{IfSome, IsTrue, codes}
use Rattle.std.specs.Fmt.{digit_glyph}
use Rattle.std.specs.Prelude.{◌↔◌}
use Rattle.std.proofs.lemmas.Bool.{false≢true}
use Rattle.std.proofs.lemmas.List.{get_or-append_right}
use Rattle.std.proofs.lemmas.Option.{none-some}
use Rattle.std.proofs.lemmas.Bool.Decides.{nat_tests}
use Rattle.dc_units.specs.Date.{Day, exists}
use Rattle.dc_units.specs.Text.{day_text}
use Rattle.dc_units.proofs.DayTexts.{day_length, numbers_are_small, spelled, tens_digit, ones_digit}
use Rattle.mbdc_audit.specs.Line.{IsMonth}

pub month_length : (s : List ℕ) → IsMonth s → length s ≡ 7
month_length s is = omega (arith, length-append s (codes "-01"), ap length is.3, day_length is.0)

pub small : (d : Day) → IsTrue (exists d.year d.month d.day) → (d.year ≤ 9999) × (d.month < 100) × (d.day < 100)
small d there = numbers_are_small d there

one_of : (n : ℕ) → n < 100 → 48 ≡ digit_glyph true (n / 10) → 49 ≡ digit_glyph true (n % 10) → n ≡ 1
one_of n low zero_is one_is =
    let tens : n / 10 ≡ 0 = grind (arith, nat_tests, zero_is) in
    let ones : n % 10 ≡ 1 = grind (arith, nat_tests, one_is) in
    omega arith

first_day : (text : List ℕ) (d : Day) → IsTrue (exists d.year d.month d.day) → text ≡ day_text d → get_or text 8 0 ≡ 48 → get_or text 9 0 ≡ 49
    → d.day ≡ 1
first_day text d there is zero_is one_is =
    let low = (numbers_are_small d there).2 in
    let spells = spelled text d is in
    let tens = tens_digit _ _ d.day low spells.day in
    let ones = ones_digit _ _ d.day spells.day in
    one_of d.day low (sym zero_is ∙ tens) (sym one_is ∙ ones)

pub month_iff : (s text : List ℕ) (r : Option Day) (b : Bool) → length s ≡ 7 → text ≡ s ++ codes "-01" → b ≡ is_some r
    → IfSome r (λ d. IsTrue (exists d.year d.month d.day)) → IfSome r (λ d. text ≡ day_text d)
    → ((d : Day) → IsTrue (exists d.year d.month d.day) → text ≡ day_text d → r ≡ Some d) → IsTrue b ↔ IsMonth s
month_iff s text None b seven is test there found only =
    ((λ yes. absurd (false≢true (sym test ∙ yes))), (λ m. absurd (none-some m.0 (only m.0 m.1 (is ∙ m.3)))))
month_iff s text (Some d) b seven is test there found only =
    let zero_is : get_or text 8 0 ≡ 48 = ap (λ (t : List ℕ). get_or t 8 0) is ∙ get_or-append_right s (codes "-01") 7 8 0 seven (omega arith) in
    let one_is : get_or text 9 0 ≡ 49 = ap (λ (t : List ℕ). get_or t 9 0) is ∙ get_or-append_right s (codes "-01") 7 9 0 seven (omega arith) in
    ((λ yes. (d, there, first_day text d there found zero_is one_is, sym is ∙ found)), (λ m. test))
