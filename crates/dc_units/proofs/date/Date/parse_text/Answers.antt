use Rattle.std.proofs.Common.{◌≡◌, ◌+◌, ◌*◌, ◌/◌, ◌%◌, ◌<◌, length, get_or, arith}
use Rattle.std.proofs.lemmas.Bool.Decides.{nat_tests}
use Rattle.dc_units.proofs.DayTexts.{day_spelled, none_read, read_back, numbers_are_small, spelled, text_found}
use Rattle.dc_units.proofs.date.Date.parse_text.Goals as goal
use Rattle.dc_units.proofs.date.Date.parse_text.Goals.{then-text-ne10-via-then-text-ne10, then-text-ne10-via-else-text-ne10+then-text-ne45, then-text-ne10-via-else-text-ne10+else-text-ne45+then-text-ne45-2}

pub returns-then-text-ne10-clause-only : goal.returns-then-text-ne10-clause-only
returns-then-text-ne10-clause-only c = λ date there is.
    let text = spelled c.args.text.now date is in
    elim c.then-text-ne10.branch [
      | then-text-ne10-via-then-text-ne10 w ↦ (let long = text.long in absurd (grind (arith, nat_tests, w.if-text-ne10.true, long)))
      | then-text-ne10-via-else-text-ne10+then-text-ne45 w ↦ (let dash = text.dash in absurd (grind (arith, nat_tests, w.if-text-ne45.true, dash)))
      | then-text-ne10-via-else-text-ne10+else-text-ne45+then-text-ne45-2 w ↦ (let dash = text.dash_2 in absurd (grind (arith, nat_tests, w.if-text-ne45-2.true, dash)))
    ]

pub returns-in_err-century-clause-only : goal.returns-in_err-century-clause-only
returns-in_err-century-clause-only c = λ date there is.
    let low : date.year / 100 < 100 = omega (arith, (numbers_are_small date there).0) in
    absurd (none_read _ (c.in_err-century.ensures.only (date.year / 100) low (spelled c.args.text.now date is).century))

pub returns-in_err-year-clause-only : goal.returns-in_err-year-clause-only
returns-in_err-year-clause-only c = λ date there is.
    absurd (none_read _ (c.in_err-year.ensures.only (date.year % 100) (omega arith) (spelled c.args.text.now date is).year))

pub returns-in_err-month-clause-only : goal.returns-in_err-month-clause-only
returns-in_err-month-clause-only c = λ date there is.
    absurd (none_read _ (c.in_err-month.ensures.only date.month (numbers_are_small date there).1 (spelled c.args.text.now date is).month))

pub returns-in_err-day-clause-only : goal.returns-in_err-day-clause-only
returns-in_err-day-clause-only c = λ date there is.
    absurd (none_read _ (c.in_err-day.ensures.only date.day (numbers_are_small date there).2 (spelled c.args.text.now date is).day))

pub returns-clause-only : goal.returns-clause-only
returns-clause-only c = λ date there is.
    let text = spelled c.args.text.now date is in
    let small = numbers_are_small date there in
    let century = c.in_ok-century.ensures.only (date.year / 100) (let low : date.year / 100 < 100 = omega (arith, small.0) in low) text.century in
    let year = c.in_ok-year.ensures.only (date.year % 100) (omega arith) text.year in
    let month = c.in_ok-month.ensures.only date.month small.1 text.month in
    let day = c.in_ok-day.ensures.only date.day small.2 text.day in
    read_back date _ _ _ _ _ _ there century year month day (omega (arith, c.from.ensures, c.from-2.ensures)) c.new.ensures.exact

pub returns-clause-found : goal.returns-clause-found
returns-clause-found c =
    let century = c.in_ok-century.ensures.found in
    let year = c.in_ok-year.ensures.found in
    let month = c.in_ok-month.ensures.found in
    let day = c.in_ok-day.ensures.found in
    let whole : 100 * c.from.result + c.from-2.result ≡ 100 * c.in_ok-century.century + c.in_ok-year.year = omega (arith, c.from.ensures, c.from-2.ensures) in
    let long : length c.args.text.now ≡ 10 = grind (arith, nat_tests, c.if-text-ne10.false) in
    let dash : get_or c.args.text.now 4 0 ≡ 45 = grind (arith, nat_tests, c.if-text-ne45.false) in
    let dash_2 : get_or c.args.text.now 7 0 ≡ 45 = grind (arith, nat_tests, c.if-text-ne45-2.false) in
    text_found c.args.text.now _ _ _ _ _ _ c.new.ensures.exact whole year.0
    (day_spelled c.args.text.now _ _ _ _ _ whole year.0 long dash dash_2 century.1 year.1 month.1 day.1)
