use Rattle.std.proofs.Common.{◌≡◌}
use Rattle.mbdc_installer.proofs.bench.listing.list_over.Given as goal

abbrev pub invariant-loop-other : goal.invariant-loop-other
invariant-loop-other g l = l.done ≡ l.initial.done
