use Rattle.std.proofs.Common.{arith, ◌≡◌, ◌+◌, map, take, List, sym, subst}
use Rattle.std.specs.Prelude.{All, zip}
use Rattle.std.proofs.lemmas.Grind.{common_steps}
use Rattle.mbdc_audit.specs.View.{run_of}
use Rattle.mbdc_audit.specs.Walk.{IsJudged}
use Rattle.mbdc_audit.specs.declared.house.Value as value_type
use Rattle.mbdc_audit.proofs.Zips.{all_more}
use Rattle.mbdc_audit.proofs.readings.judged.Goals as goal

pub values-preserved : goal.values-preserved
values-preserved g c = (
  grind (arith, common_steps),
  subst (λ (l : List value_type.Value). All (λ p. IsJudged (map run_of c.args.runs.now) c.args.counted p.0 p.1)
      (zip (take (c.values.value-index + 1) c.args.values.now) l)) (sym c.in_ok-push.ensures.items)
      (all_more (λ p. IsJudged (map run_of c.args.runs.now) c.args.counted p.0 p.1) c.args.values.now c.values.judged.items
      c.values.value-index _ c.in_ok-it.it c.values-test.true c.values.invariant.0 c.values.invariant.1 c.in_ok-it.ensures),
)

pub returns : goal.returns
returns g c =
    let over = c.values-test.false in
    let there = c.values.auto.value-index-end in
    let all : take c.values.value-index c.args.values.now ≡ c.args.values.now = grind (arith, common_steps) in (
      omega (arith, c.values.invariant.0),
      subst (λ (l : List value_type.Value). All (λ p. IsJudged (map run_of c.args.runs.now) c.args.counted p.0 p.1) (zip l c.values.judged.items)) all c.values.invariant.1,
    )
