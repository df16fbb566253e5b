use Rattle.dc_readout.proofs.Protocol.{while_it_waits, after_failure, after_the_last}
use Rattle.dc_readout.proofs.laws.nothing_more_is_asked.Goals as goal

pub returns-clause-while_it_waits : goal.returns-clause-while_it_waits
returns-clause-while_it_waits c = while_it_waits

pub returns-clause-after_failure : goal.returns-clause-after_failure
returns-clause-after_failure c = after_failure

pub returns-clause-after_the_last : goal.returns-clause-after_the_last
returns-clause-after_the_last c = after_the_last
