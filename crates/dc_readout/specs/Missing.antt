-- Which failures of a readout are failed tries (this product).
use Rattle.std.specs.Prelude.{Bool, true, false}
use Rattle.dc_readout.specs.declared.why.Why.{Why}
use Rattle.dc_readout.specs.declared.why.Why.TheVariants.{NoAnswer, WrongFrame, WrongAddress}
use Rattle.dc_readout.specs.declared.why.Why.TheVariants.{ApplicationError, Content, Stranger}
use Rattle.dc_readout.specs.declared.why.Why.TheVariants.{TooManyParts}

-- no byte, no frame, another frame, or another meter's: the meter's own answer didn't come
abbrev pub is_missing : Why → Bool
is_missing NoAnswer = true
is_missing WrongFrame = true
is_missing WrongAddress = true
is_missing ApplicationError = false
is_missing (Content fault) = false
is_missing Stranger = true
is_missing TooManyParts = false
