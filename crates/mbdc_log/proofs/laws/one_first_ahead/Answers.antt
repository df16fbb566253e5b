use Rattle.mbdc_log.proofs.Behinds.{one_behind}
use Rattle.mbdc_log.proofs.laws.one_first_ahead.Goals as goal

pub returns : goal.returns
returns g c = one_behind g.K.Language
