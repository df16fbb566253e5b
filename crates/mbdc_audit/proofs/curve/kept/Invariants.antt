-- the values kept so far, and those that are left, are those that are kept of all
use Rattle.std.proofs.Common.{◌≡◌, ◌++◌, drop, filter}
use Rattle.mbdc_audit.specs.Evidence.{list_of}
use Rattle.mbdc_audit.specs.Kept.{does_count, kept, lasting}
use Rattle.mbdc_audit.proofs.curve.kept.Given as goal

abbrev pub invariant-values : goal.invariant-values
invariant-values g l = l.kept.items ++ lasting (list_of l.last ++ filter (does_count l.is_told) (drop l.value-index l.values))
    ≡ kept l.is_told l.fn.values
