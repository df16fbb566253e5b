use Rattle.std.proofs.Common.{arith, ◌≡◌, ◌+◌, take, List, sym, subst}
use Rattle.std.specs.Prelude.{All, zip}
use Rattle.std.proofs.lemmas.Grind.{common_steps}
use Rattle.mbdc_audit.specs.Settled.{IsSettled}
use Rattle.mbdc_audit.specs.declared.house.Value as value_type
use Rattle.mbdc_audit.proofs.Zips.{all_more}
use Rattle.mbdc_audit.proofs.readings.settled.Goals as goal

pub values-preserved : goal.values-preserved
values-preserved g c = (
  grind (arith, common_steps),
  subst (λ (l : List value_type.Value). All (λ p. IsSettled c.args.values.now p.0 p.1)
      (zip (take (c.values.value-index + 1) c.args.values.now) l)) (sym c.in_ok-push.ensures.items)
      (all_more (λ p. IsSettled c.args.values.now p.0 p.1) c.args.values.now c.values.settled.items
      c.values.value-index _ c.settle-it.result c.values-test.true c.values.invariant.0 c.values.invariant.1 c.settle-it.ensures),
)

pub returns : goal.returns
returns g c =
    let over = c.values-test.false in
    let there = c.values.auto.value-index-end in
    let all : take c.values.value-index c.args.values.now ≡ c.args.values.now = grind (arith, common_steps) in (
      omega (arith, c.values.invariant.0),
      subst (λ (l : List value_type.Value). All (λ p. IsSettled c.args.values.now p.0 p.1) (zip l c.values.settled.items)) all c.values.invariant.1,
    )
