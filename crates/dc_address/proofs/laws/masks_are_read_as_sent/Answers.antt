use Rattle.dc_address.proofs.Masks.{mask_at-mask_wire, mask_at-wire_of}
use Rattle.dc_address.proofs.laws.masks_are_read_as_sent.Goals as goal

pub returns-clause-mask : goal.returns-clause-mask
returns-clause-mask c = mask_at-mask_wire

pub returns-clause-identity : goal.returns-clause-identity
returns-clause-identity c = mask_at-wire_of
