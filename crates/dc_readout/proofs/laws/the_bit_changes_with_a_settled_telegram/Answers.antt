use Rattle.dc_readout.proofs.Protocol.{parity, one_settled}
use Rattle.dc_readout.proofs.laws.the_bit_changes_with_a_settled_telegram.Goals as goal

pub returns-clause-parity : goal.returns-clause-parity
returns-clause-parity c = parity

pub returns-clause-between : goal.returns-clause-between
returns-clause-between c = one_settled
