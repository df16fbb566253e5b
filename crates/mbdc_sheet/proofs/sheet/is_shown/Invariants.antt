use Rattle.std.proofs.Common.{◌≡◌, option_map}
use Rattle.std.specs.List.{list_any}
use Rattle.mbdc_sheet.specs.Parts.{left_parts, parts_of}
use Rattle.mbdc_sheet.specs.Sheet.{is_line}
use Rattle.mbdc_sheet.proofs.Marks.{left_length}
use Rattle.mbdc_sheet.proofs.sheet.is_shown.Given as goal

abbrev pub decreases-parts : goal.decreases-parts
decreases-parts l = left_length l.left

abbrev pub invariant-parts : goal.invariant-parts
invariant-parts l = list_any (is_line l.number) (left_parts 60 (option_map (λ s. s.now) l.left)) ≡ list_any (is_line l.number) (parts_of 60 l.fn.page)
