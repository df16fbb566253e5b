use Rattle.std.proofs.Common.{◌≡◌, ◌+◌, map, arith, sym, ◌∙◌}
use Rattle.mbdc_audit.proofs.Checks.{at_map, through}
use Rattle.mbdc_audit.proofs.Once.{anew, if_anew, unless_anew}
use Rattle.mbdc_audit.specs.Sound.{IsAnew}
use Rattle.mbdc_audit.specs.View.{run_of, seen_value, source_of}
use Rattle.mbdc_audit.proofs.sound.is_restart.Goals as goal

pub returns : goal.returns
returns c =
    let rs = map run_of c.args.runs.now in
    let v = seen_value c.args.value.now in
    let one = c.in-Some-get.ensures.lookup in
    let two = c.in-Some-get-2.ensures.lookup in
    let next : v.run ≡ c.in-Some.before + 1 = omega (arith, c.in-Some.ensures) in
    if_anew (source_of c.args.value.now) c.is_one_counter.result (IsAnew rs v) (sym c.is_anew.ensures ∙ c.if-not-is_anew.false)
    (through c.is_one_counter.ensures (anew rs v c.in-Some.before (run_of c.in-Some-get.old.now) (run_of c.in-Some-get-2.new.now)
    next (at_map run_of c.args.runs.now c.in-Some.before c.in-Some-get.old.now one.3.0 (one.3.1 c.in-Some-get.old.now))
    (at_map run_of c.args.runs.now v.run c.in-Some-get-2.new.now two.3.0 (two.3.1 c.in-Some-get-2.new.now))))

pub returns-then-not-is_anew : goal.returns-then-not-is_anew
returns-then-not-is_anew c =
    unless_anew (source_of c.args.value.now) (IsAnew (map run_of c.args.runs.now) (seen_value c.args.value.now)) (sym c.is_anew.ensures ∙ c.if-not-is_anew.true)
