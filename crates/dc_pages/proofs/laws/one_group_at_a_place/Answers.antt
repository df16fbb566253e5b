use Rattle.dc_pages.proofs.Agree.{one_group}
use Rattle.dc_pages.proofs.laws.one_group_at_a_place.Goals as goal

pub returns : goal.returns
returns c = one_group
