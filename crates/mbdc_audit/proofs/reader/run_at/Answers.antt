use Rattle.std.proofs.Common.{◌-◌, arith}
use Rattle.std.proofs.lemmas.Grind.{common_steps}
use Rattle.mbdc_audit.specs.View.{run_of}
use Rattle.mbdc_audit.proofs.Checks.{at_map}
use Rattle.mbdc_audit.proofs.reader.run_at.Goals as goal

pub returns-then-number-eq0-clause-err : goal.returns-then-number-eq0-clause-err
returns-then-number-eq0-clause-err c = grind (arith, common_steps)

pub returns-in-None-clause-err : goal.returns-in-None-clause-err
returns-in-None-clause-err c = grind (arith, common_steps)

pub returns-in-Some-clause-ok : goal.returns-in-Some-clause-ok
returns-in-Some-clause-ok c =
    let n = c.args.number - 1 in
    let look = c.in-Some.ensures.lookup in (
      omega (arith, c.if-number-eq0.false),
      at_map run_of c.args.runs.now n c.in-Some.run'.now look.3.0 (look.3.1 c.in-Some.run'.now),
    )
