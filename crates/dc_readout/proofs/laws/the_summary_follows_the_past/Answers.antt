use Rattle.dc_readout.proofs.Protocol.{heard_summary, settled_summary}
use Rattle.dc_readout.proofs.laws.the_summary_follows_the_past.Goals as goal

pub returns-clause-heard : goal.returns-clause-heard
returns-clause-heard c = heard_summary

pub returns-clause-settled : goal.returns-clause-settled
returns-clause-settled c past lawful = settled_summary past lawful.1 lawful.0
