use Rattle.dc_core.proofs.Fronts.{promised_is_committed}
use Rattle.dc_core.proofs.laws.what_is_promised_is_committed.Goals as goal

pub returns : goal.returns
returns c = promised_is_committed
