use Rattle.dc_readout.proofs.Requests.{requests_by_parity}
use Rattle.dc_readout.proofs.laws.requests_differ_by_the_parity_of_what_is_settled.Goals as goal

pub returns : goal.returns
returns c = requests_by_parity
