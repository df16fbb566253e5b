use Rattle.mbdc_audit.specs.House.{Run}
use Rattle.mbdc_audit.proofs.Runs.{declared_not, declared_there}
use Rattle.mbdc_audit.proofs.readings.size_in.Goals as goal

pub returns-in-Some : goal.returns-in-Some
returns-in-Some c = declared_there (λ (r : Run). r.size) c.args.runs.now c.args.run c.in-Some.run'.now c.in-Some.ensures.lookup.0
    c.in-Some.ensures.lookup.1

pub returns-in-None : goal.returns-in-None
returns-in-None c = declared_not (λ (r : Run). r.size) c.args.runs.now c.args.run c.in-None.ensures.lookup.0
