use Rattle.mbdc_raw.proofs.Steps.{gives_heard}
use Rattle.mbdc_raw.proofs.laws.what_a_line_gives_is_heard.Goals as goal

pub returns : goal.returns
returns g c = gives_heard g.W.Wire
