use Rattle.std.proofs.Common.{arith, ◌≡◌, ◌≤◌, ◌+◌, List, map, take, refl, sym, subst}
use Rattle.std.specs.Prelude.{All}
use Rattle.std.proofs.lemmas.Grind.{common_steps}
use Rattle.mbdc_audit.specs.Consumption.Order.{IsInOrder}
use Rattle.mbdc_audit.specs.Amount.{entries}
use Rattle.mbdc_audit.specs.View.{known_in, part_of, run_of}
use Rattle.mbdc_audit.specs.Walk.{AreGraded, IsGraded}
use Rattle.mbdc_audit.specs.declared.house.Part as part_type
use Rattle.mbdc_audit.proofs.Counted.{same_more, told_more}
use Rattle.mbdc_audit.proofs.readings.counted.Goals as goal

pub parts-preserved : goal.parts-preserved
parts-preserved g c =
    let rs = map run_of c.args.runs.now in
    let known = known_in c.args.values.now in
    subst (λ (l : List part_type.Part). (map part_of l ≡ map part_of (take (c.parts.part-index + 1) c.args.parts.now))
    × (IsInOrder (entries rs known) → All (λ x. x.from ≤ x.to) l → AreGraded rs known l)) (sym c.in_ok-push.ensures.items) (
      same_more c.parts.counted.items c.args.parts.now c.parts.part-index _ _ c.parts-test.true c.parts.invariant.0 refl,
      told_more (IsInOrder (entries rs known)) (λ x. x.from ≤ x.to) (λ x. IsGraded rs known x.from x.to x.amount) c.parts.counted.items _
          c.parts.invariant.1 c.in_ok-amount.ensures,
    )

pub returns-clause-same : goal.returns-clause-same
returns-clause-same g c =
    let over = c.parts-test.false in
    let there = c.parts.auto.part-index-end in
    let all : take c.parts.part-index c.args.parts.now ≡ c.args.parts.now = grind (arith, common_steps) in
    subst (λ (l : List part_type.Part). map part_of c.parts.counted.items ≡ map part_of l) all c.parts.invariant.0
