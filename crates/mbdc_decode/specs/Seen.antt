-- The end of a record's line: its data point, if the table of units has one (this product; the
-- units are those of EN 13757-3).
use Rattle.std.specs.Prelude.{ℕ, List, [], ◌++◌, codes}
use Rattle.dc_records.specs.Record.{Entry}
use Rattle.dc_units.specs.declared.point.Point.{Point}
use Rattle.dc_units.specs.declared.point.Seen.{Seen}
use Rattle.dc_units.specs.declared.point.Seen.TheVariants.{Point as Known, Other}
use Rattle.dc_units.specs.declared.quantity.Quantity.{Quantity}
use Rattle.dc_units.specs.declared.value.Value.{Value}
use Rattle.dc_units.specs.declared.value.Value.TheVariants.{Number, Flags, Day as OnDay, Minute}
use Rattle.dc_units.specs.declared.value.Value.TheVariants.{None as NoValue}
use Rattle.dc_units.specs.Point.{seen_of}
use Rattle.dc_units.specs.Quantity.{unit_of}
use Rattle.dc_units.specs.Text.{value_text}

-- a number and flags have a unit
abbrev pub unit_word : Value → Quantity → List ℕ
unit_word (Number decimal) quantity = codes " " ++ unit_of quantity
unit_word (Flags len bits) quantity = codes " " ++ unit_of quantity
unit_word (OnDay date) quantity = []
unit_word (Minute date hour minute) quantity = []
unit_word NoValue quantity = []

unfoldable pub point_text : Point → List ℕ
point_text p = value_text p.value ++ unit_word p.value p.quantity

abbrev pub seen_text : Seen → List ℕ
seen_text (Known p) = point_text p
seen_text Other = codes "other"

unfoldable pub seen_word : Entry → List ℕ
seen_word e = codes " = " ++ seen_text (seen_of e)
