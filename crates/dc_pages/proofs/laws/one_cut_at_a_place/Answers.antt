use Rattle.dc_pages.proofs.Cut.{one_cut}
use Rattle.dc_pages.proofs.laws.one_cut_at_a_place.Goals as goal

pub returns : goal.returns
returns c = one_cut
