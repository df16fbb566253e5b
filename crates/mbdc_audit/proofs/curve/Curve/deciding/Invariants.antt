-- the values so far that decide the moment
use Rattle.mbdc_audit.proofs.Decided.{IsDecided}
use Rattle.mbdc_audit.proofs.curve.Curve.deciding.Given as goal

abbrev pub invariant-values : goal.invariant-values
invariant-values g l = IsDecided l.moment l.self.values.items l.value-index l.last l.next
