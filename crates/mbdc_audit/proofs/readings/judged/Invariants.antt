-- the values so far are judged
use Rattle.std.proofs.Common.{◌≡◌, length, map, take}
use Rattle.std.specs.Prelude.{All, zip}
use Rattle.mbdc_audit.specs.View.{run_of}
use Rattle.mbdc_audit.specs.Walk.{IsJudged}
use Rattle.mbdc_audit.proofs.readings.judged.Given as goal

abbrev pub invariant-values : goal.invariant-values
invariant-values g l = (length l.judged.items ≡ l.value-index)
    × All (λ p. IsJudged (map run_of l.runs) l.counted p.0 p.1) (zip (take l.value-index l.values) l.judged.items)
