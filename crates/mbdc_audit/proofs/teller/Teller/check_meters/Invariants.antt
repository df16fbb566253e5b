use Rattle.std.proofs.Common.{List, map, take}
use Rattle.mbdc_audit.specs.Sound.{Fitted, IsOnce}
use Rattle.mbdc_audit.specs.View.{run_of}
use Rattle.mbdc_audit.specs.Walk.{IsMet, Meets, fit, key_of}
use Rattle.mbdc_audit.proofs.teller.Teller.check_meters.Given as goal

abbrev pub invariant-runs : goal.invariant-runs
invariant-runs g l = (xs : List Fitted) → IsMet key_of fit l.initial.met xs → Meets key_of fit IsOnce l.initial.self.counts l.self.counts l.met xs
    (map (λ r. record { used = l.place.used; run = run_of r }) (take l.run-index l.place.runs.items))
