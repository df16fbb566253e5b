use Rattle.dc_core.proofs.Bits.{settling_toggles}
use Rattle.dc_core.proofs.laws.a_settled_telegram_toggles_the_bit.Goals as goal

pub returns : goal.returns
returns c = settling_toggles
