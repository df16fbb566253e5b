use Rattle.mbdc_installer.proofs.Others.{closed_once}
use Rattle.mbdc_installer.proofs.laws.any_wildcard_may_be_closed.Goals as goal

pub returns : goal.returns
returns c = closed_once
