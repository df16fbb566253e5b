use Rattle.dc_address.proofs.Masks.{IsMask-with_digit}
use Rattle.dc_address.proofs.mask.Mask.with_digit.Goals as goal

pub invariant_of-self : goal.invariant_of-self
invariant_of-self c = IsMask-with_digit _ c.args.place c.args.digit c.requires.digit c.self.invariant
