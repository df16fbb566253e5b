use Rattle.mbdc_audit.specs.declared.consumption.entry.Entry.{Entry}
use Rattle.mbdc_audit.proofs.Consumed.Ordered.{IsOrderedTo}
use Rattle.mbdc_audit.proofs.consumption.order.is_in_order.Given as goal

abbrev pub invariant-loop-entry : goal.invariant-loop-entry
invariant-loop-entry l = IsOrderedTo (λ (e : Entry). e.moment) l.entries l.entry-index l.last
