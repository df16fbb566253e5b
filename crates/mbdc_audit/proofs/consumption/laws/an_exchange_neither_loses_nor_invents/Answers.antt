use Rattle.mbdc_audit.proofs.Consumed.Runs.{consumption_of_exchange}
use Rattle.mbdc_audit.proofs.consumption.laws.an_exchange_neither_loses_nor_invents.Goals as goal

pub returns : goal.returns
returns c = consumption_of_exchange
