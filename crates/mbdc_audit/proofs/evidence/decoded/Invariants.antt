-- the bodies so far, and those that are left, are all
use Rattle.std.proofs.Common.{◌≡◌, ◌++◌, length, map}
use Rattle.std.specs.Option.{option_map}
use Rattle.mbdc_audit.specs.Evidence.{bytes_in}
use Rattle.mbdc_audit.specs.Field.{fields_of, left_fields}
use Rattle.mbdc_audit.proofs.evidence.decoded.Given as goal

abbrev pub invariant-bodies : goal.invariant-bodies
invariant-bodies g l = map (λ b. b.items) l.all.items ++ map bytes_in (left_fields (option_map (λ s. s.now) l.left))
    ≡ map bytes_in (fields_of l.fn.bodies)

abbrev pub decreases-bodies : goal.decreases-bodies
decreases-bodies g l = length (left_fields (option_map (λ s. s.now) l.left))
