use Rattle.std.proofs.Common.{ℕ, ◌+◌, inl, inr, ap, ◌∙◌, arith}
use Rattle.mbdc_audit.proofs.Consumed.Walks.{on_walk_more, after_any}
use Rattle.mbdc_audit.proofs.consumption.walk.walk.Goals as goal
use Rattle.mbdc_audit.proofs.consumption.walk.walk.Goals.{then-count-gt0, else-count-gt0, then-loop-count-test+else-entries-count, else-loop-count-test}

pub loop-count-init : goal.loop-count-init
loop-count-init c =
    let before = c.requires.before in
    record { within = before.within; before = before.before; sum_is = before.sum_is; fits = c.args.from.fits }

pub loop-count-preserved : goal.loop-count-preserved
loop-count-preserved c =
    let on = c.loop-count.invariant in
    let more = on_walk_more c.args.moment c.args.entries.now c.loop-count.count c.loop-count.sum on c.loop-count-test.true _ c.if-entries-count.true c.if-count-gt0.sum in
    let fits = on.fits in
    elim c.if-count-gt0.branch [
      | then-count-gt0 w ↦
          more (omega (arith, fits, w.sum-is, w.from-sum.ensures, w.step_to.type_inv))
          (inr (w.if-count-gt0.true, w.sum-is ∙ ap (λ (n : ℕ). c.loop-count.sum + n) (w.from-sum.ensures ∙ w.step_to.ensures)))
      | else-count-gt0 w ↦ more (omega (arith, fits, w.sum-is)) (inl (omega (arith, w.if-count-gt0.false), w.sum-is))
    ]

pub returns : goal.returns
returns c =
    let on = c.loop-count.invariant in
    record {
      within = on.within;
      before = on.before;
      after = elim c.loop-count-test.branch [
        | then-loop-count-test+else-entries-count w ↦ after_any c.args.moment c.args.entries.now c.loop-count.count _ w.if-entries-count.false
        | else-loop-count-test w ↦ λ d more. absurd (omega (arith, more, w.loop-count-test.false))
      ];
      sum_is = on.sum_is;
    }
