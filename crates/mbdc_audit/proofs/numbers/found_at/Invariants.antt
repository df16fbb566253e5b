use Rattle.std.proofs.Common.{◌≡◌, None, fold, take}
use Rattle.mbdc_audit.specs.Judged.{found_at}
use Rattle.mbdc_audit.proofs.numbers.found_at.Given as goal

-- the last one of the values so far
abbrev pub invariant-values : goal.invariant-values
invariant-values l = l.found ≡ fold (found_at l.run l.moment) None (take l.value-index l.values)
