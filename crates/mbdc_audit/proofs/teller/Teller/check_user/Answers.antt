use Rattle.std.proofs.Common.{◌<◌, ◌≤◌, ℕ, ap, arith, get_or, length, ◌∙◌}
use Rattle.std.specs.Prelude.{IfSome, slice_get}
use Rattle.std.proofs.lemmas.Bool.Decides.{nat_tests}
use Rattle.mbdc_audit.specs.Index.{at, flat_key}
use Rattle.mbdc_audit.specs.Sound.{IsOneTenancy}
use Rattle.mbdc_audit.specs.Walk.{key_lived, live}
use Rattle.mbdc_audit.proofs.Checks.{all_at, all_full, all_of, link, nothing, same, through}
use Rattle.mbdc_audit.proofs.PairsMet.{by_key, not_there, there}
use Rattle.mbdc_audit.proofs.teller.Teller.check_user.Goals as goal

pub numbers-preserved-in_default : goal.numbers-preserved-in_default
numbers-preserved-in_default g c = λ xs met.
    let below : c.numbers.number-index < length c.at-numbers.result.now = omega arith in
    let k : ℕ = get_or c.at-numbers.result.now c.numbers.number-index 0 in
    let past : length c.deref.result.now ≤ k = grind (arith, nat_tests, c.in_default.ensures.lookup.0) in
    link (c.numbers.invariant xs met) (nothing (not_there key_lived live (λ x. IsOneTenancy x (live c.args.one.now)) c.args.met.now c.deref.result.now xs k met
    c.deref.ensures.value past))
    (all_at (λ n. IfSome (slice_get xs n) (λ x. IsOneTenancy x (live c.args.one.now))) c.at-numbers.result.now c.numbers.number-index 0 below)

pub numbers-preserved : goal.numbers-preserved
numbers-preserved g c = λ xs met.
    let below : c.numbers.number-index < length c.at-numbers.result.now = omega arith in
    let look = c.in-Some.ensures.lookup in
    link (c.numbers.invariant xs met) (same (same c.in_ok-unless.ensures c.is_one_tenancy.ensures)
    (there key_lived live (λ x. IsOneTenancy x (live c.args.one.now)) c.args.met.now c.deref.result.now xs _ c.in-Some.that.now met
    c.deref.ensures.value look.3.0 (look.3.1 c.in-Some.that.now)))
    (all_at (λ n. IfSome (slice_get xs n) (λ x. IsOneTenancy x (live c.args.one.now))) c.at-numbers.result.now c.numbers.number-index 0 below)

pub returns : goal.returns
returns g c = λ xs met.
    let past : length c.at-numbers.result.now ≤ c.numbers.number-index = omega arith in
    let at_a_time = λ (n : ℕ). IfSome (slice_get xs n) (λ x. IsOneTenancy x (live c.args.one.now)) in
    same (c.numbers.invariant xs met) (through (all_full at_a_time c.at-numbers.result.now c.numbers.number-index past)
    (through (all_of at_a_time (c.at-numbers.ensures ∙ ap (λ (k : ℕ). at c.args.met.now.index k) c.flat_key.ensures)) (by_key key_lived live IsOneTenancy (λ x y other one. absurd (other (ap flat_key one)))
    c.args.met.now xs met (live c.args.one.now))))
