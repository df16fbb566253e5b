-- The lines of a billing office (this product): words separated by single spaces.
use Rattle.std.specs.Prelude.{ℕ, ◌≤◌, IsTrue, List, [], ◌∷◌, codes}
use Rattle.std.specs.List.{join_with_byte}
use Rattle.std.specs.Fmt.{decimal}
use Rattle.mbdc_change.specs.Command.{line_of, NamesMeters}
use Rattle.mbdc_change.specs.Command.{IsCommand}
use Rattle.mbdc_change.specs.Fields.{IsNumber}
use Rattle.dc_units.specs.Date.{exists}
use Rattle.dc_units.specs.Text.{day_text}
use Rattle.dc_upload.specs.declared.line.OfficeLine.{OfficeLine}
use Rattle.dc_upload.specs.declared.line.OfficeLine.TheVariants.{Command, Window, Register, Report}

-- the number of readings asked for
pub record IsCount (count : ℕ) : Type 0 where
  pub low : 1 ≤ count
  pub high : count ≤ 100

-- The values in the line are valid: a command's number, its values and its meters, a window's first serial and its
-- count, and the date of a REPORT, which must exist.
abbrev pub IsOfficeLine : OfficeLine → Type 0
IsOfficeLine (Command ordered) = IsNumber ordered.number × IsCommand ordered.command
    × NamesMeters ordered.command
IsOfficeLine (Window from count) = IsNumber from × IsCount count
IsOfficeLine Register = Unit {0}
IsOfficeLine (Report date) = IsTrue (exists date.year date.month date.day)

-- the text that spells a line
abbrev pub office_text : OfficeLine → List ℕ
office_text (Command ordered) = line_of ordered.number ordered.command
office_text (Window from count) =
    join_with_byte 32 (codes "WINDOW" ∷ decimal from ∷ decimal count ∷ [])
office_text Register = codes "REGISTER"
office_text (Report date) = join_with_byte 32 (codes "REPORT" ∷ day_text date ∷ [])
