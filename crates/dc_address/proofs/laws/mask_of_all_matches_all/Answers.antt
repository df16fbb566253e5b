use Rattle.dc_address.proofs.Masks.{matches-mask_of_all}
use Rattle.dc_address.proofs.laws.mask_of_all_matches_all.Goals as goal

pub returns : goal.returns
returns c = matches-mask_of_all
