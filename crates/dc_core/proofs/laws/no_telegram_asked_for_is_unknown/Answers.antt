use Rattle.dc_core.proofs.Followed.{none_is_unknown}
use Rattle.dc_core.proofs.laws.no_telegram_asked_for_is_unknown.Goals as goal

pub returns : goal.returns
returns c = none_is_unknown
