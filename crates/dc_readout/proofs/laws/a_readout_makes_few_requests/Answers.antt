use Rattle.dc_readout.proofs.Bound.{falls, rests, whole}
use Rattle.dc_readout.proofs.laws.a_readout_makes_few_requests.Goals as goal

pub returns-clause-falls : goal.returns-clause-falls
returns-clause-falls c = falls

pub returns-clause-rests : goal.returns-clause-rests
returns-clause-rests c = rests

pub returns-clause-whole : goal.returns-clause-whole
returns-clause-whole c past lawful = (whole past.meter past.address past.calls lawful).few
