use Rattle.std.proofs.Common.{◌<◌, ◌≤◌, ℕ, ap, arith, get_or, length, ◌∙◌}
use Rattle.std.specs.Prelude.{IfSome, slice_get}
use Rattle.std.proofs.lemmas.Bool.Decides.{nat_tests}
use Rattle.mbdc_audit.specs.Index.{at}
use Rattle.mbdc_audit.specs.Sound.{IsOnce}
use Rattle.mbdc_audit.specs.Walk.{fit, key_of}
use Rattle.mbdc_audit.proofs.Checks.{all_at, all_full, all_of, link, nothing, same, through}
use Rattle.mbdc_audit.proofs.PairsMet.{by_key, not_there, there}
use Rattle.mbdc_audit.proofs.teller.Teller.check_meter.Goals as goal

pub numbers-preserved-in_default : goal.numbers-preserved-in_default
numbers-preserved-in_default g c = λ xs met.
    let below : c.numbers.number-index < length c.at-numbers.result.now = omega arith in
    let k : ℕ = get_or c.at-numbers.result.now c.numbers.number-index 0 in
    let past : length c.deref.result.now ≤ k = grind (arith, nat_tests, c.in_default.ensures.lookup.0) in
    link (c.numbers.invariant xs met) (nothing (not_there key_of fit (λ x. IsOnce x (fit c.args.one.now)) c.args.met.now c.deref.result.now xs k met
    c.deref.ensures.value past))
    (all_at (λ n. IfSome (slice_get xs n) (λ x. IsOnce x (fit c.args.one.now))) c.at-numbers.result.now c.numbers.number-index 0 below)

pub numbers-preserved : goal.numbers-preserved
numbers-preserved g c = λ xs met.
    let below : c.numbers.number-index < length c.at-numbers.result.now = omega arith in
    let look = c.in-Some.ensures.lookup in
    link (c.numbers.invariant xs met) (same (same c.in_ok-unless.ensures c.is_once.ensures)
    (there key_of fit (λ x. IsOnce x (fit c.args.one.now)) c.args.met.now c.deref.result.now xs _ c.in-Some.that.now met
    c.deref.ensures.value look.3.0 (look.3.1 c.in-Some.that.now)))
    (all_at (λ n. IfSome (slice_get xs n) (λ x. IsOnce x (fit c.args.one.now))) c.at-numbers.result.now c.numbers.number-index 0 below)

pub returns : goal.returns
returns g c = λ xs met.
    let past : length c.at-numbers.result.now ≤ c.numbers.number-index = omega arith in
    let at_once = λ (n : ℕ). IfSome (slice_get xs n) (λ x. IsOnce x (fit c.args.one.now)) in
    same (c.numbers.invariant xs met) (through (all_full at_once c.at-numbers.result.now c.numbers.number-index past)
    (through (all_of at_once (c.at-numbers.ensures ∙ ap (λ (k : ℕ). at c.args.met.now.index k) c.from.ensures)) (by_key key_of fit IsOnce (λ x y other one. absurd (other (ap (λ i. i.number) one)))
    c.args.met.now xs met (fit c.args.one.now))))
