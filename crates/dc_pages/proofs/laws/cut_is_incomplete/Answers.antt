use Rattle.dc_pages.proofs.Cut.{cut_incomplete}
use Rattle.dc_pages.proofs.laws.cut_is_incomplete.Goals as goal

pub returns : goal.returns
returns c = cut_incomplete
