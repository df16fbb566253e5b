-- what is left is the same exactly if all is
use Rattle.std.proofs.Common.{◌≡◌, length}
use Rattle.std.specs.Str.{bytes_eq}
use Rattle.mbdc_audit.specs.Evidence.{bare}
use Rattle.mbdc_audit.proofs.evidence.is_named.Given as goal

abbrev pub invariant-bytes : goal.invariant-bytes
invariant-bytes l = bytes_eq (bare l.left) l.asked ≡ bytes_eq (bare l.fn.vib) l.fn.named

abbrev pub decreases-bytes : goal.decreases-bytes
decreases-bytes l = length l.left
