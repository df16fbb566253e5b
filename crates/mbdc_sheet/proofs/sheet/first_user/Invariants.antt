use Rattle.std.proofs.Common.{◌≡◌, option_map}
use Rattle.mbdc_sheet.specs.Parts.{left_parts, parts_of}
use Rattle.mbdc_sheet.specs.Sheet.{first_user}
use Rattle.mbdc_sheet.proofs.Marks.{left_length}
use Rattle.mbdc_sheet.proofs.sheet.first_user.Given as goal

abbrev pub decreases-parts : goal.decreases-parts
decreases-parts l = left_length l.left

abbrev pub invariant-parts : goal.invariant-parts
invariant-parts l = first_user (left_parts 60 (option_map (λ s. s.now) l.left)) ≡ first_user (parts_of 60 l.fn.page)
