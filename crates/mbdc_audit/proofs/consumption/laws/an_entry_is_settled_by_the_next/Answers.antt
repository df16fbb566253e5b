use Rattle.mbdc_audit.proofs.Consumed.Known.{settled_last, settled_later, settled_exchanged}
use Rattle.mbdc_audit.proofs.consumption.laws.an_entry_is_settled_by_the_next.Goals as goal

pub returns : goal.returns
returns c = record { last = settled_last; later = settled_later; exchanged = settled_exchanged }
