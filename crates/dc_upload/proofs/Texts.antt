-- Each line of the office has a text of its own, and a short one.
use Rattle.std.proofs.Common.{◌≡◌, ℕ, ◌<◌, ◌≤◌, ◌^◌, List, ◌∷◌, ◌++◌, Option, Some, codes, length, length-append, drop, get_or, refl, sym, ap, ◌∙◌, arith}
use Rattle.std.specs.Fmt.{decimal}
use Rattle.std.proofs.lemmas.Fmt.{decimal_injective, decimal_is_IsNumeral, length-decimal-le}
use Rattle.std.proofs.lemmas.List.{get_or_append_left}
use Rattle.std.proofs.lemmas.Str.Parse.{digit_at}
use Rattle.mbdc_change.specs.Command.{line_of, command_text}
use Rattle.mbdc_change.specs.Fields.{IsNumber}
use Rattle.mbdc_change.specs.declared.command.Command.{Command as Order}
use Rattle.mbdc_change.specs.declared.command.Numbered.{Numbered}
use Rattle.mbdc_change.proofs.LineSpellings.{number_is_word, one_word}
use Rattle.mbdc_change.proofs.CommandSpellings.{one_line}
use Rattle.std.specs.Prelude.{IsTrue}
use Rattle.dc_units.specs.Date.{Day, exists}
use Rattle.dc_units.specs.Text.{day_text}
use Rattle.dc_units.proofs.DayTexts.{one_day}
use Rattle.dc_upload.specs.Line.{IsCount, IsOfficeLine, office_text}
use Rattle.dc_upload.specs.declared.line.OfficeLine.{OfficeLine}
use Rattle.dc_upload.specs.declared.line.OfficeLine.TheVariants.{Command, Window, Register, Report}

-- ---- a command's line begins with a digit, no other line does

abbrev first_of : List ℕ → ℕ
first_of text = get_or text 0 0

abbrev third_of : List ℕ → ℕ
third_of text = get_or text 2 0

digit_first : (number : ℕ) (behind : List ℕ) → number < 10 ^ 18 → first_of (decimal number ++ behind) < 58
digit_first number behind fits =
    let digits = decimal_is_IsNumeral number (omega arith) in
    let same : first_of (decimal number ++ behind) ≡ first_of (decimal number) = get_or_append_left (decimal number) behind 0 0 digits.0.0 in
    omega (arith, same, digit_at (decimal number) 0 digits.0.1 digits.0.0)

command_first : (number : ℕ) (order : Order) → IsNumber number → first_of (line_of number order) < 58
unfolding line_of
command_first number order is = digit_first number (32 ∷ command_text order) is.high

not_a_command : (text : List ℕ) (ordered : Numbered) → IsNumber ordered.number → text ≡ line_of ordered.number ordered.command → 58 ≤ first_of text → ⊥
not_a_command text ordered is spelled above =
    omega (arith, command_first ordered.number ordered.command is, ap first_of spelled)

-- ---- which line a text spells, by how it begins

pub only_register : (text : List ℕ) (line : OfficeLine) → text ≡ codes "REGISTER" → IsOfficeLine line → text ≡ office_text line → line ≡ Register
only_register text (Command ordered) whole is spelled = absurd (not_a_command text ordered is.0 spelled (omega (arith, ap first_of whole)))
only_register text (Window from count) whole is spelled = absurd (omega (arith, ap first_of whole, ap first_of spelled))
only_register text Register whole is spelled = refl
only_register text (Report date) whole is spelled = absurd (omega (arith, ap third_of whole, ap third_of spelled))

pub only_report : (text date : List ℕ) (line : OfficeLine) (read : Option OfficeLine) → text ≡ codes "REPORT" ++ 32 ∷ date
    → ((day : Day) → IsTrue (exists day.year day.month day.day) → date ≡ day_text day → read ≡ Some (Report day))
    → IsOfficeLine line → text ≡ office_text line → read ≡ Some line
only_report text date (Command ordered) read whole reads is spelled = absurd (not_a_command text ordered is.0 spelled (omega (arith, ap first_of whole)))
only_report text date (Window from count) read whole reads is spelled = absurd (omega (arith, ap first_of whole, ap first_of spelled))
only_report text date Register read whole reads is spelled = absurd (omega (arith, ap third_of whole, ap third_of spelled))
only_report text date (Report day) read whole reads is spelled = reads day is (ap (λ (back : List ℕ). drop 7 back) (sym whole ∙ spelled))

pub only_window : (text bounds : List ℕ) (line : OfficeLine) (read : Option OfficeLine) → text ≡ codes "WINDOW" ++ 32 ∷ bounds
    → ((from count : ℕ) → IsNumber from → IsCount count → bounds ≡ decimal from ++ 32 ∷ decimal count → read ≡ Some (Window from count))
    → IsOfficeLine line → text ≡ office_text line → read ≡ Some line
only_window text bounds (Command ordered) read whole reads is spelled = absurd (not_a_command text ordered is.0 spelled (omega (arith, ap first_of whole)))
only_window text bounds (Window from count) read whole reads is spelled = reads from count is.0 is.1 (ap (λ (back : List ℕ). drop 7 back) (sym whole ∙ spelled))
only_window text bounds Register read whole reads is spelled = absurd (omega (arith, ap first_of whole, ap first_of spelled))
only_window text bounds (Report date) read whole reads is spelled = absurd (omega (arith, ap first_of whole, ap first_of spelled))

pub only_command : (text : List ℕ) (line : OfficeLine) (read : Option OfficeLine) → ¬ (text ≡ codes "REGISTER")
    → ((date : List ℕ) → ¬ (text ≡ codes "REPORT" ++ 32 ∷ date)) → ((bounds : List ℕ) → ¬ (text ≡ codes "WINDOW" ++ 32 ∷ bounds))
    → ((ordered : Numbered) → IsOfficeLine (Command ordered) → text ≡ line_of ordered.number ordered.command → read ≡ Some (Command ordered))
    → IsOfficeLine line → text ≡ office_text line → read ≡ Some line
only_command text (Command ordered) read other reported apart reads is spelled = reads ordered is spelled
only_command text (Window from count) read other reported apart reads is spelled = absurd (apart (decimal from ++ 32 ∷ decimal count) spelled)
only_command text Register read other reported apart reads is spelled = absurd (other spelled)
only_command text (Report date) read other reported apart reads is spelled = absurd (reported (day_text date) spelled)

-- ---- a text spells one line

abbrev command : ℕ → Order → OfficeLine
command number order = Command (record { number = number; command = order })

pub one_text : (line other : OfficeLine) → IsOfficeLine line → IsOfficeLine other → office_text line ≡ office_text other → line ≡ other
one_text (Command ordered) (Command other) is is_other same =
    let both_are = one_line ordered.number other.number ordered.command other.command is.0 is.1 is.2 is_other.0 is_other.1 is_other.2 same in
    ap (λ (number : ℕ). command number ordered.command) both_are.0 ∙ ap (command other.number) both_are.1
one_text (Command ordered) (Window from count) is is_other same = absurd (not_a_command _ ordered is.0 (sym same) (omega arith))
one_text (Command ordered) Register is is_other same = absurd (not_a_command _ ordered is.0 (sym same) (omega arith))
one_text (Command ordered) (Report date) is is_other same = absurd (not_a_command _ ordered is.0 (sym same) (omega arith))
one_text (Window from count) (Command other) is is_other same = absurd (not_a_command _ other is_other.0 same (omega arith))
one_text (Window from count) (Window from_2 count_2) is is_other same =
    let bounds = one_word (decimal from) (decimal from_2) (decimal count) (decimal count_2) (number_is_word from is.0) (number_is_word from_2 is_other.0) (ap (λ (back : List ℕ). drop 7 back) same) in
    let froms : from ≡ from_2 = decimal_injective from from_2 (omega (arith, is.0.high)) (omega (arith, is_other.0.high)) bounds.0 in
    let counts : count ≡ count_2 = decimal_injective count count_2 (omega arith) (omega arith) bounds.1 in
    cc
one_text (Window from count) Register is is_other same = absurd (omega (arith, ap first_of same))
one_text (Window from count) (Report date) is is_other same = absurd (omega (arith, ap first_of same))
one_text Register (Command other) is is_other same = absurd (not_a_command _ other is_other.0 same (omega arith))
one_text Register (Window from count) is is_other same = absurd (omega (arith, ap first_of same))
one_text Register Register is is_other same = refl
one_text Register (Report date) is is_other same = absurd (omega (arith, ap third_of same))
one_text (Report date) (Command other) is is_other same = absurd (not_a_command _ other is_other.0 same (omega arith))
one_text (Report date) (Window from count) is is_other same = absurd (omega (arith, ap first_of same))
one_text (Report date) Register is is_other same = absurd (omega (arith, ap third_of same))
one_text (Report date) (Report date_2) is is_other same = ap (λ (d : Day). Report d) (one_day date date_2 is is_other (ap (λ (back : List ℕ). drop 7 back) same))

-- ---- lengths

pub bounds_fit : (bounds : List ℕ) (from count : ℕ) → IsNumber from → IsCount count → bounds ≡ decimal from ++ 32 ∷ decimal count → length bounds ≤ 22
bounds_fit bounds from count is_from is_count is =
    omega (arith, ap length is, length-append (decimal from) (32 ∷ decimal count), length-decimal-le 18 from (omega arith) is_from.high (omega arith), length-decimal-le 3 count (omega arith) (omega arith) (omega arith))
