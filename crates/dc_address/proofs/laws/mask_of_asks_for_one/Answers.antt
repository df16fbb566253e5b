use Rattle.dc_address.proofs.Masks.{mask_wire-mask_of, matches-mask_of, same_from_matches}
use Rattle.dc_address.proofs.laws.mask_of_asks_for_one.Goals as goal

pub returns-clause-own : goal.returns-clause-own
returns-clause-own c = matches-mask_of

pub returns-clause-alone : goal.returns-clause-alone
returns-clause-alone c = same_from_matches

pub returns-clause-sent : goal.returns-clause-sent
returns-clause-sent c = mask_wire-mask_of
