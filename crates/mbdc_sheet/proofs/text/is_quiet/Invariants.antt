use Rattle.std.proofs.Common.{◌≡◌, Some, take}
use Rattle.std.specs.Prelude.{fold}
use Rattle.mbdc_sheet.specs.Text.{quiet_on}
use Rattle.mbdc_sheet.proofs.text.is_quiet.Given as goal

abbrev pub invariant-bytes : goal.invariant-bytes
invariant-bytes l = l.before ≡ fold quiet_on (Some 0) (take l.byte-index l.text)
