use Rattle.mbdc_log.proofs.Refusals.{one_refusal}
use Rattle.mbdc_log.proofs.laws.one_refusal.Goals as goal

pub returns : goal.returns
returns g c = one_refusal g.K.Language
