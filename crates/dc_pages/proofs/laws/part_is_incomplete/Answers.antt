use Rattle.dc_pages.proofs.OneSync.{complete_before}
use Rattle.dc_pages.proofs.laws.part_is_incomplete.Goals as goal

pub returns : goal.returns
returns c = complete_before
