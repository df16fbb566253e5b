use Rattle.mbdc_audit.proofs.Consumed.Turns.{turn-counted}
use Rattle.mbdc_audit.proofs.consumption.laws.a_turn_is_what_was_counted.Goals as goal

pub returns : goal.returns
returns c = turn-counted
