use Rattle.dc_readout.proofs.Protocol.{three_tries, third_try, anew}
use Rattle.dc_readout.proofs.laws.requests_are_repeated.Goals as goal

pub returns-clause-three : goal.returns-clause-three
returns-clause-three c past lawful = three_tries past.meter past.address past.calls lawful

pub returns-clause-third : goal.returns-clause-third
returns-clause-third c = third_try

pub returns-clause-anew : goal.returns-clause-anew
returns-clause-anew c = anew
