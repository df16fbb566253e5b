use Rattle.dc_address.proofs.Masks.{IsMask-mask_of}
use Rattle.dc_address.proofs.mask.Mask.of.Goals as goal

pub invariant_of-result : goal.invariant_of-result
invariant_of-result c =
    rw (c.fixed.ensures, c.digits_of.ensures, c.value_or_wildcard.ensures, c.value_or_wildcard-2.ensures) (IsMask-mask_of c.args.identity.now)
