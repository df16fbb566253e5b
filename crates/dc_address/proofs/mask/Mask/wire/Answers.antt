-- The digits that a mask asks for fit halves of a byte, and so does F.
use Rattle.std.proofs.Common.{ap, ◌∙◌}
use Rattle.std.specs.List.{list_all}
use Rattle.dc_address.specs.Digits.{is_nibble}
use Rattle.dc_address.proofs.Masks.{nibbles_of_places}
use Rattle.dc_address.proofs.mask.Mask.wire.Goals as goal

pub packed-requires : goal.packed-requires
packed-requires c = ap (list_all is_nibble) c.nibbles_of.ensures ∙ nibbles_of_places c.self.inside.digits c.self.invariant.digits_are
