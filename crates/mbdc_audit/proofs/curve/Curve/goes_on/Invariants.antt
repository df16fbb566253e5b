-- the values that are left rise after the last one exactly if all do
use Rattle.std.proofs.Common.{◌≡◌, None, drop}
use Rattle.mbdc_audit.specs.Kept.{rises_from}
use Rattle.mbdc_audit.proofs.curve.Curve.goes_on.Given as goal

abbrev pub invariant-values : goal.invariant-values
invariant-values g l = rises_from l.to l.first (drop l.value-index l.self.values.items) ≡ rises_from l.to None l.fn.self.values.items
