use Rattle.mbdc_log.proofs.Refusals.{read_is_read}
use Rattle.mbdc_log.proofs.laws.an_unread_image_is_not_read.Goals as goal

pub returns : goal.returns
returns g c = read_is_read g.K.Language
