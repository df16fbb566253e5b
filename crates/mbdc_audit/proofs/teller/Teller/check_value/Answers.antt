use Rattle.std.proofs.Common.{map}
use Rattle.mbdc_audit.proofs.Checks.{link, same}
use Rattle.mbdc_audit.proofs.Once.{timed}
use Rattle.mbdc_audit.specs.View.{run_of, seen_value}
use Rattle.mbdc_audit.proofs.Checks.{at_map, pair, triple}
use Rattle.std.proofs.lemmas.Result.{on_ok_weaker}
use Rattle.mbdc_audit.proofs.teller.Teller.check_value.Goals as goal

pub returns : goal.returns
returns g c = λ some.
    let lookup = c.in-Some.ensures.lookup in
    let at = at_map run_of c.args.runs.now c.args.value.now.run c.in-Some.run'.now lookup.3.0 (lookup.3.1 c.in-Some.run'.now) in
    on_ok_weaker c.unless-3.result (λ last. same (link (same c.in_ok-unless.ensures c.is_of_end.ensures)
    (link (same c.in_ok-unless-2.ensures c.lies_in.ensures) (same last c.is_restart.ensures) pair) triple)
    (timed (map run_of c.args.runs.now) (seen_value c.args.value.now) (run_of c.in-Some.run'.now) at)) c.unless-3.ensures
