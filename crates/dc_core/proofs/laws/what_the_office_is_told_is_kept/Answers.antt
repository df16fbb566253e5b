use Rattle.dc_core.proofs.Told.{told_is_kept}
use Rattle.dc_core.proofs.laws.what_the_office_is_told_is_kept.Goals as goal

pub returns : goal.returns
returns c = told_is_kept
