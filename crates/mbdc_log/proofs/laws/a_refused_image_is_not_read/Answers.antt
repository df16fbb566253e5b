use Rattle.mbdc_log.proofs.Refusals.{read_or_refused}
use Rattle.mbdc_log.proofs.laws.a_refused_image_is_not_read.Goals as goal

pub returns : goal.returns
returns g c = read_or_refused g.K.Language
