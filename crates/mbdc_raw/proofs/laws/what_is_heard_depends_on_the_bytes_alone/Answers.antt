use Rattle.mbdc_raw.proofs.Steps.{heard_alone}
use Rattle.mbdc_raw.proofs.laws.what_is_heard_depends_on_the_bytes_alone.Goals as goal

pub returns : goal.returns
returns c = heard_alone
