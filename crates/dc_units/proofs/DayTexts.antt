-- The text of a day is ten bytes: pairs of digits, and two dashes.
use Rattle.std.proofs.Common.{◌≡◌, ℕ, ◌+◌, ◌*◌, ◌/◌, ◌%◌, ◌<◌, ◌≤◌, true, false, cond, Option, None, Some, List, [], ◌∷◌, ◌++◌, append_assoc, length, get_or, refl, ap, sym, subst, ◌∙◌, arith}
use Rattle.std.specs.Prelude.{IsTrue, IfSome, ℤ, pos}
use Rattle.jiff.specs.Words.{days_in_month}
use Rattle.std.proofs.lemmas.Bool.Decides.{nat_tests}
use Rattle.std.specs.Fmt.{digit_glyph}
use Rattle.dc_units.specs.Text.{last_digits, day_text}
use Rattle.dc_units.specs.Date.{Day, date_of, exists}

-- ---- two digits

abbrev glyph : ℕ → ℕ
glyph n = digit_glyph true (n % 10)

two_digits : (n : ℕ) → last_digits 10 2 n ≡ glyph (n / 10) ∷ glyph n ∷ []
unfolding last_digits
two_digits n = refl

first_of : (a b c d : ℕ) → a ∷ b ∷ [] ≡ c ∷ d ∷ [] → a ≡ c
first_of a b c d is = ap (λ (bytes : List ℕ). get_or bytes 0 0) is

second_of : (a b c d : ℕ) → a ∷ b ∷ [] ≡ c ∷ d ∷ [] → b ≡ d
second_of a b c d is = ap (λ (bytes : List ℕ). get_or bytes 1 0) is

pub tens_digit : (tens ones n : ℕ) → n < 100 → tens ∷ ones ∷ [] ≡ last_digits 10 2 n → tens ≡ digit_glyph true (n / 10)
tens_digit tens ones n low is =
    let whole : n / 10 % 10 ≡ n / 10 = omega arith in
    first_of tens ones _ _ (is ∙ two_digits n) ∙ ap (λ (d : ℕ). digit_glyph true d) whole

pub ones_digit : (tens ones n : ℕ) → tens ∷ ones ∷ [] ≡ last_digits 10 2 n → ones ≡ digit_glyph true (n % 10)
ones_digit tens ones n is = second_of tens ones _ _ (is ∙ two_digits n)

pub pair_of_digits : (tens ones t o : ℕ) → t < 10 → o < 10 → tens ≡ digit_glyph true t → ones ≡ digit_glyph true o → tens ∷ ones ∷ [] ≡ last_digits 10 2 (10 * t + o)
pair_of_digits tens ones t o low low_2 is is_2 =
    let front : (10 * t + o) / 10 % 10 ≡ t = omega arith in
    let back : (10 * t + o) % 10 ≡ o = omega arith in
    sym (two_digits (10 * t + o) ∙ ap (λ (d : ℕ). digit_glyph true d ∷ glyph (10 * t + o) ∷ []) front ∙ ap (λ (d : ℕ). digit_glyph true t ∷ digit_glyph true d ∷ []) back
    ∙ ap (λ (byte : ℕ). byte ∷ digit_glyph true o ∷ []) (sym is) ∙ ap (λ (byte : ℕ). tens ∷ byte ∷ []) (sym is_2))

pub none_read : {X : Type 0} (x : X) → None ≡ Some x → ⊥
none_read x is = cc

-- ---- a day

pub record IsDayText (text : List ℕ) (d : Day) : Type 0 where
  pub long : length text ≡ 10
  pub century : get_or text 0 0 ∷ get_or text 1 0 ∷ [] ≡ last_digits 10 2 (d.year / 100)
  pub year : get_or text 2 0 ∷ get_or text 3 0 ∷ [] ≡ last_digits 10 2 (d.year % 100)
  pub dash : get_or text 4 0 ≡ 45
  pub month : get_or text 5 0 ∷ get_or text 6 0 ∷ [] ≡ last_digits 10 2 d.month
  pub dash_2 : get_or text 7 0 ≡ 45
  pub day : get_or text 8 0 ∷ get_or text 9 0 ∷ [] ≡ last_digits 10 2 d.day

century_digits : (y : ℕ) → glyph (y / 10 / 10 / 10) ∷ glyph (y / 10 / 10) ∷ [] ≡ last_digits 10 2 (y / 100)
century_digits y =
    let hundreds : y / 10 / 10 ≡ y / 100 = omega arith in
    ap (λ (h : ℕ). glyph (h / 10) ∷ glyph h ∷ []) hundreds ∙ sym (two_digits (y / 100))

year_digits : (y : ℕ) → glyph (y / 10) ∷ glyph y ∷ [] ≡ last_digits 10 2 (y % 100)
year_digits y =
    let tens : y / 10 % 10 ≡ y % 100 / 10 % 10 = omega arith in
    let ones : y % 10 ≡ y % 100 % 10 = omega arith in
    ap (λ (d : ℕ). digit_glyph true d ∷ glyph y ∷ []) tens ∙ ap (λ (d : ℕ). glyph (y % 100 / 10) ∷ digit_glyph true d ∷ []) ones ∙ sym (two_digits (y % 100))

of_itself : (d : Day) → IsDayText (day_text d) d
unfolding last_digits
of_itself d = record {
  long = refl;
  century = century_digits d.year;
  year = year_digits d.year;
  dash = refl;
  month = refl;
  dash_2 = refl;
  day = refl;
}

pub spelled : (text : List ℕ) (d : Day) → text ≡ day_text d → IsDayText text d
spelled text d is = subst (λ (t : List ℕ). IsDayText t d) (sym is) (of_itself d)

month_ends : (y : ℤ) (m : ℕ) → days_in_month y m ≤ 31
month_ends y m = grind arith

pub day_length : (d : Day) → length (day_text d) ≡ 10
day_length d = (of_itself d).long

-- the numbers of a day that exists have two digits, but for its year
pub numbers_are_small : (d : Day) → IsTrue (exists d.year d.month d.day) → (d.year ≤ 9999) × (d.month < 100) × (d.day < 100)
numbers_are_small d there =
    let longest = month_ends (pos d.year) d.month in
    grind (arith, nat_tests, there, longest)

-- ---- what is read is the day of the text

some_of : {X : Type 0} (x y : X) → Some x ≡ Some y → x ≡ y
some_of x y is = cc

pub read_back : (d : Day) (century year month day y : ℕ) (read : Option Day) → IsTrue (exists d.year d.month d.day)
    → Some century ≡ Some (d.year / 100) → Some year ≡ Some (d.year % 100) → Some month ≡ Some d.month → Some day ≡ Some d.day
    → y ≡ 100 * century + year → read ≡ date_of y month day → read ≡ Some d
read_back d century year month day y read there is_century is_year is_month is_day is_y is =
    let whole : y ≡ d.year = omega (arith, some_of _ _ is_century, some_of _ _ is_year, is_y) in
    is ∙ ap (λ (n : ℕ). date_of n month day) whole ∙ ap (λ (n : ℕ). date_of d.year n day) (some_of _ _ is_month)
    ∙ ap (λ (n : ℕ). date_of d.year d.month n) (some_of _ _ is_day) ∙ rw there refl

-- ---- ten bytes with such digits and dashes are the text of the day

abbrev pair_at : List ℕ → ℕ → List ℕ
pair_at text place = get_or text place 0 ∷ get_or text (place + 1) 0 ∷ []

abbrev joined : List ℕ → List ℕ → ℕ → List ℕ → ℕ → List ℕ → List ℕ
joined century year dash month dash_2 day = century ++ (year ++ (dash ∷ (month ++ (dash_2 ∷ day))))

each_byte : (text : List ℕ) → length text ≡ 10 → text ≡ joined (pair_at text 0) (pair_at text 2) (get_or text 4 0) (pair_at text 5) (get_or text 7 0) (pair_at text 8)
each_byte ([]) long = absurd (omega (arith, long))
each_byte (a ∷ []) long = absurd (omega (arith, long))
each_byte (a ∷ b ∷ []) long = absurd (omega (arith, long))
each_byte (a ∷ b ∷ c ∷ []) long = absurd (omega (arith, long))
each_byte (a ∷ b ∷ c ∷ d ∷ []) long = absurd (omega (arith, long))
each_byte (a ∷ b ∷ c ∷ d ∷ e ∷ []) long = absurd (omega (arith, long))
each_byte (a ∷ b ∷ c ∷ d ∷ e ∷ f ∷ []) long = absurd (omega (arith, long))
each_byte (a ∷ b ∷ c ∷ d ∷ e ∷ f ∷ g ∷ []) long = absurd (omega (arith, long))
each_byte (a ∷ b ∷ c ∷ d ∷ e ∷ f ∷ g ∷ h ∷ []) long = absurd (omega (arith, long))
each_byte (a ∷ b ∷ c ∷ d ∷ e ∷ f ∷ g ∷ h ∷ i ∷ []) long = absurd (omega (arith, long))
each_byte (a ∷ b ∷ c ∷ d ∷ e ∷ f ∷ g ∷ h ∷ i ∷ j ∷ []) long = refl
each_byte (a ∷ b ∷ c ∷ d ∷ e ∷ f ∷ g ∷ h ∷ i ∷ j ∷ k ∷ more) long = absurd (omega (arith, long))

four_digits : (n : ℕ) → last_digits 10 4 n ≡ last_digits 10 2 (n / 100) ++ last_digits 10 2 (n % 100)
unfolding last_digits
four_digits n =
    ap (λ (front : List ℕ). front ++ (glyph (n / 10) ∷ glyph n ∷ [])) (century_digits n)
    ∙ ap (λ (back : List ℕ). last_digits 10 2 (n / 100) ++ back) (year_digits n)

written : (text : List ℕ) (d : Day) → IsDayText text d → text ≡ day_text d
written text d is =
    let century = last_digits 10 2 (d.year / 100) in
    let year = last_digits 10 2 (d.year % 100) in
    let month = last_digits 10 2 d.month in
    let day = last_digits 10 2 d.day in
    each_byte text is.long
    ∙ ap (λ (p : List ℕ). joined p (pair_at text 2) (get_or text 4 0) (pair_at text 5) (get_or text 7 0) (pair_at text 8)) is.century
    ∙ ap (λ (p : List ℕ). joined century p (get_or text 4 0) (pair_at text 5) (get_or text 7 0) (pair_at text 8)) is.year
    ∙ ap (λ (b : ℕ). joined century year b (pair_at text 5) (get_or text 7 0) (pair_at text 8)) is.dash
    ∙ ap (λ (p : List ℕ). joined century year 45 p (get_or text 7 0) (pair_at text 8)) is.month
    ∙ ap (λ (b : ℕ). joined century year 45 month b (pair_at text 8)) is.dash_2
    ∙ ap (λ (p : List ℕ). joined century year 45 month 45 p) is.day
    ∙ sym (ap (λ (front : List ℕ). front ++ (45 ∷ (month ++ (45 ∷ day)))) (four_digits d.year) ∙ append_assoc century year (45 ∷ (month ++ (45 ∷ day))))

pub text_found : (text : List ℕ) (century year month day y : ℕ) (read : Option Day) → read ≡ date_of y month day → y ≡ 100 * century + year → year < 100
    → IsDayText text (record { year = y; month = month; day = day }) → IfSome read (λ d. text ≡ day_text d)
text_found text century year month day y read is is_y low spells =
    let there = written text (record { year = y; month = month; day = day }) spells in
    rw is (elim (exists y month day) as (λ b. IfSome (cond b (Some (record { year = y; month = month; day = day })) None) (λ (d : Day). text ≡ day_text d)) [ true ↦ there | false ↦ tt ])

pub day_spelled : (text : List ℕ) (century year month day y : ℕ) → y ≡ 100 * century + year → year < 100 → length text ≡ 10 → get_or text 4 0 ≡ 45 → get_or text 7 0 ≡ 45
    → pair_at text 0 ≡ last_digits 10 2 century → pair_at text 2 ≡ last_digits 10 2 year → pair_at text 5 ≡ last_digits 10 2 month → pair_at text 8 ≡ last_digits 10 2 day
    → IsDayText text (record { year = y; month = month; day = day })
day_spelled text century year month day y is_y low long dash dash_2 is_century is_year is_month is_day =
    let front : century ≡ y / 100 = omega (arith, is_y) in
    let back : year ≡ y % 100 = omega (arith, is_y) in
    record {
      long = long;
      century = is_century ∙ ap (λ (n : ℕ). last_digits 10 2 n) front;
      year = is_year ∙ ap (λ (n : ℕ). last_digits 10 2 n) back;
      dash = dash;
      month = is_month;
      dash_2 = dash_2;
      day = is_day;
    }

-- ---- a text is that of one day

abbrev day_at : ℕ → ℕ → ℕ → Day
day_at year month day = record { year = year; month = month; day = day }

one_digit : (d e : ℕ) → d < 10 → e < 10 → digit_glyph true d ≡ digit_glyph true e → d ≡ e
one_digit d e low low_2 same = grind (arith, nat_tests, same)

one_number : (n m : ℕ) → n < 100 → m < 100 → last_digits 10 2 n ≡ last_digits 10 2 m → n ≡ m
one_number n m low low_2 same =
    let both : glyph (n / 10) ∷ glyph n ∷ [] ≡ last_digits 10 2 m = sym (two_digits n) ∙ same in
    let tens = tens_digit _ _ m low_2 both in
    let ones = ones_digit _ _ m both in
    let whole : n / 10 % 10 ≡ n / 10 = omega arith in
    let front : n / 10 ≡ m / 10 = one_digit (n / 10) (m / 10) (omega arith) (omega arith) (sym (ap (λ (d : ℕ). digit_glyph true d) whole) ∙ tens) in
    let back : n % 10 ≡ m % 10 = one_digit (n % 10) (m % 10) (omega arith) (omega arith) ones in
    omega (arith, front, back)

pub one_day : (d e : Day) → IsTrue (exists d.year d.month d.day) → IsTrue (exists e.year e.month e.day) → day_text d ≡ day_text e → d ≡ e
one_day d e there there_2 same =
    let text = of_itself d in
    let other = spelled (day_text d) e same in
    let small = numbers_are_small d there in
    let small_2 = numbers_are_small e there_2 in
    let centuries : d.year / 100 ≡ e.year / 100 = one_number _ _ (omega (arith, small.0)) (omega (arith, small_2.0)) (sym text.century ∙ other.century) in
    let years : d.year % 100 ≡ e.year % 100 = one_number _ _ (omega arith) (omega arith) (sym text.year ∙ other.year) in
    let year : d.year ≡ e.year = omega (arith, centuries, years) in
    let month = one_number _ _ small.1 small_2.1 (sym text.month ∙ other.month) in
    let day = one_number _ _ small.2 small_2.2 (sym text.day ∙ other.day) in
    ap (λ (n : ℕ). day_at n d.month d.day) year ∙ ap (λ (n : ℕ). day_at e.year n d.day) month ∙ ap (λ (n : ℕ). day_at e.year e.month n) day
