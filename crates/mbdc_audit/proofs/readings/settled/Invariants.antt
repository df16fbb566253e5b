-- the values so far are settled
use Rattle.std.proofs.Common.{◌≡◌, length, take}
use Rattle.std.specs.Prelude.{All, zip}
use Rattle.mbdc_audit.specs.Settled.{IsSettled}
use Rattle.mbdc_audit.proofs.readings.settled.Given as goal

abbrev pub invariant-values : goal.invariant-values
invariant-values g l = (length l.settled.items ≡ l.value-index)
    × All (λ p. IsSettled l.values p.0 p.1) (zip (take l.value-index l.values) l.settled.items)
