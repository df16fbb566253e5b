use Rattle.dc_readout.proofs.Taken.{taken}
use Rattle.dc_readout.proofs.laws.a_taken_telegram_was_asked_for.Goals as goal

pub returns : goal.returns
returns c = taken
