-- The days after 1 January 1970 are those of the calendar (jiff's day numbers).
use Rattle.std.proofs.Common.{◌≡◌, ℕ, zero, suc, ◌+◌, ◌<◌, ◌≤◌, inl, inr, refl, sym, ap, ◌∙◌, arith, rules, pos}
use Rattle.std.proofs.lemmas.Bool.{cases_order}
use Rattle.std.proofs.lemmas.Bool.Decides.{nat_tests}
use Rattle.jiff_core.specs.declared.civil.date.Date.{Date}
use Rattle.jiff_core.specs.Calendar.{days_from_civil, days_in_month}
use Rattle.jiff_core.specs.Date.{epoch_day}
use Rattle.jiff_core.proofs.SignedLemmas.{signed_arith}
use Rattle.jiff_core.proofs.CalendarLemmas.{days_from_civil-day_count, day_count-epoch, day_count-lt_year, days_in_month_bounds}
use Rattle.jiff_core.proofs.DateLemmas.{days_from_civil-day, days_from_civil-next_month, days_from_civil-next_year, days_from_civil-max, epoch_day_injective}
use Rattle.dc_units.specs.Date.{Day}
use Rattle.mbdc_shown.specs.Utc.{next_day, day_number, last_day}

-- a day of the calendar with this number
pub record IsDay (n : ℕ) (d : Day) : Type 0 where
  pub number : days_from_civil (pos d.year) d.month d.day ≡ pos n
  pub month : (1 ≤ d.month) × (d.month ≤ 12)
  pub day : (1 ≤ d.day) × (d.day ≤ days_in_month (pos d.year) d.month)

in_month : (n : ℕ) (d : Day) → IsDay n d → d.day < days_in_month (pos d.year) d.month → IsDay (suc n) (record d { day = d.day + 1 })
in_month n d is more = record {
  number = omega (arith, signed_arith, is.number, days_from_civil-day (pos d.year) d.month d.day (d.day + 1) is.day.0 (omega arith));
  month = is.month;
  day = (omega arith, omega (arith, more));
}

to_month : (n : ℕ) (d : Day) → IsDay n d → d.day ≡ days_in_month (pos d.year) d.month → d.month < 12 → IsDay (suc n) (record d { month = d.month + 1; day = 1 })
to_month n d is last more = record {
  number = omega (arith, signed_arith, is.number, days_from_civil-next_month (pos d.year) d.month d.day is.month.0 last);
  month = (omega arith, omega (arith, more));
  day = (omega arith, omega (arith, days_in_month_bounds (pos d.year) (d.month + 1)));
}

to_year : (n : ℕ) (d : Day) → IsDay n d → d.day ≡ days_in_month (pos d.year) d.month → d.month ≡ 12 → IsDay (suc n) (record { year = d.year + 1; month = 1; day = 1 })
to_year n d is last month =
    let long : days_in_month (pos d.year) 12 ≡ 31 = refl in
    let day : d.day ≡ 31 = last ∙ ap (days_in_month (pos d.year)) month ∙ long in
    let number : days_from_civil (pos d.year) 12 31 ≡ pos n = rw (sym month, sym day) is.number in
    record {
      number = omega (arith, signed_arith, number, days_from_civil-next_year (pos d.year) (pos (d.year + 1)) (search rules) (omega (arith, signed_arith)));
      month = (omega arith, omega arith);
      day = (omega arith, omega (arith, days_in_month_bounds (pos (d.year + 1)) 1));
    }

next_is : (n : ℕ) (d : Day) → IsDay n d → IsDay (suc n) (next_day d)
next_is n d is = elim (cases_order d.day (days_in_month (pos d.year) d.month)) [
  | inr (inl lt) ↦ grind (arith, nat_tests, in_month n d is lt)
  | inl last ↦ elim (cases_order d.month 12) [
    | inr (inl lt) ↦ grind (arith, nat_tests, to_month n d is last lt)
    | inl month ↦ grind (arith, nat_tests, to_year n d is last month)
    | inr (inr gt) ↦ absurd (omega (arith, gt, is.month))
  ]
  | inr (inr gt) ↦ absurd (omega (arith, gt, is.day))
]

pub counted : (n : ℕ) → IsDay n (day_number n)
unfolding day_number
counted zero = record {
  number = omega (arith, signed_arith, days_from_civil-day_count, day_count-epoch);
  month = (omega arith, omega arith);
  day = (omega arith, search rules);
}
counted (suc n) = next_is n (day_number n) (counted n)

-- no year beyond 9999 begins up to the last day
pub year_fits : (n : ℕ) → n ≤ last_day → (day_number n).year ≤ 9999
year_fits n fits =
    let d = day_number n in
    let is = counted n in
    elim (cases_order 9999 d.year) [
      | inr (inl lt) ↦ absurd (omega (arith, signed_arith, is.number, days_from_civil-max, days_from_civil-day_count, day_count-lt_year (pos 9999) 12 31 (pos d.year) d.month d.day (search rules) is.day.0 (omega (arith, signed_arith))))
      | inl same ↦ omega arith
      | inr (inr gt) ↦ omega arith
    ]

-- the date of jiff with this day number has its parts
pub same_parts : (n : ℕ) (found : Date) → n ≤ last_day → epoch_day found ≡ pos n
    → (found.year ≡ pos (day_number n).year) × (found.month ≡ (day_number n).month) × (found.day ≡ (day_number n).day)
same_parts n found fits is =
    let d = day_number n in
    let day = counted n in
    let here : Date = record { year = pos d.year; month = d.month; day = d.day; year_in = omega (arith, signed_arith, year_fits n fits); month_in = day.month; day_in = day.day } in
    epoch_day_injective found here (is ∙ sym day.number)
