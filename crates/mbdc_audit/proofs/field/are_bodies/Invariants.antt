use Rattle.std.proofs.Common.{◌∷◌, length, option_map}
use Rattle.std.specs.Prelude.{◌↔◌, All}
use Rattle.mbdc_audit.specs.Field.{fields_of, left_fields}
use Rattle.mbdc_audit.specs.Line.{IsBody}
use Rattle.mbdc_audit.proofs.field.are_bodies.Given as goal

abbrev pub invariant-bodies : goal.invariant-bodies
invariant-bodies l = All IsBody (fields_of l.fn.fields) ↔ All IsBody (l.body ∷ left_fields (option_map (λ s. s.now) l.rest))

abbrev pub decreases-bodies : goal.decreases-bodies
decreases-bodies l = length (left_fields (option_map (λ s. s.now) l.rest))
