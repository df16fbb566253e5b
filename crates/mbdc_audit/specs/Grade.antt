-- How reliable a number is (this product), from the best grade to the worst.
use Rattle.std.specs.Prelude.{ℕ, Bool, nat_lt, if◌then◌else◌, List, codes}
use Rattle.mbdc_audit.specs.declared.grade.Grade.{Grade}
use Rattle.mbdc_audit.specs.declared.grade.Grade.TheVariants.{Measured, Hand, Provisional, Estimated}
use Rattle.mbdc_audit.specs.declared.grade.Grade.TheVariants.{Unclear, Disturbed, Missing}

abbrev pub grade_name : Grade → List ℕ
grade_name Measured = codes "measured"
grade_name Hand = codes "hand"
grade_name Provisional = codes "provisional"
grade_name Estimated = codes "estimated"
grade_name Unclear = codes "unclear"
grade_name Disturbed = codes "disturbed"
grade_name Missing = codes "missing"

abbrev pub rank : Grade → ℕ
rank Measured = 0
rank Hand = 1
rank Provisional = 2
rank Estimated = 3
rank Unclear = 4
rank Disturbed = 5
rank Missing = 6

abbrev pub worst : Grade → Grade → Grade
worst a b = if nat_lt (rank a) (rank b) then b else a

-- the last three have no number
abbrev pub has_number : Grade → Bool
has_number g = nat_lt (rank g) (rank Unclear)
