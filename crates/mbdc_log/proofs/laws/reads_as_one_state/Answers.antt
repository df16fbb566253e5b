use Rattle.mbdc_log.proofs.Once.{reads_once}
use Rattle.mbdc_log.proofs.laws.reads_as_one_state.Goals as goal

pub returns : goal.returns
returns g c = reads_once g.K.Language
