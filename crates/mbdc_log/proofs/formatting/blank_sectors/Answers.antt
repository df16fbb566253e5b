use Rattle.std.proofs.Common.{⊎_elim, ◌≡◌, ◌⊎◌, ◌<◌, ◌≤◌, ℕ, ap, subst, sym, ◌∙◌, refl, arith}
use Rattle.std.proofs.lemmas.Bool.{cases_eq}
use Rattle.dc_sectors.specs.Disk.{Image, Choices}
use Rattle.dc_sectors.specs.Images.{put_here, put_elsewhere}
use Rattle.dc_sectors.proofs.Moments.{started, goes_on}
use Rattle.mbdc_log.specs.Stands.{IsWiped}
use Rattle.mbdc_log.proofs.Wiped.{WipedChoices, wiped_settled, wiped_added}
use Rattle.mbdc_log.proofs.formatting.blank_sectors.Goals as goal

pub loop-n-init : goal.loop-n-init
loop-n-init g c =
    let disk = c.args.disk.now in
    let old = g.D.Disk.reads disk in
    record {
      blanks = λ k low lt. absurd (omega arith);
      choices = λ is_settled. wiped_settled old (g.D.Disk.choices disk) is_settled;
      any_moment = λ is_settled. started g.D.Disk disk (IsWiped old)
          (λ image left k. wiped_settled old (g.D.Disk.choices disk) is_settled k (image k) (g.met.D.Disk.only_now disk image left k));
      elsewhere = λ m out. refl;
      before = λ kept. kept;
      count = refl;
      failures = refl;
    }

pub returns-in_err-write-clause-any_moment : goal.returns-in_err-write-clause-any_moment
returns-in_err-write-clause-any_moment g c is_settled =
    let so_far = c.loop-n.invariant in
    let old = g.D.Disk.reads c.args.disk.now in
    goes_on g.D.Disk c.args.disk.now c.loop-n.disk c.write.new.self (IsWiped old) _ (so_far.any_moment is_settled) (c.write.ensures.time)
    (λ image is k. wiped_added old (g.D.Disk.choices c.loop-n.disk) c.loop-n.n _ refl (so_far.choices is_settled) k (image k) (is k))

pub returns-in_err-write-clause-elsewhere : goal.returns-in_err-write-clause-elsewhere
returns-in_err-write-clause-elsewhere g c m out =
    c.write.ensures.elsewhere m (⊎_elim (λ (first : m < 1) (same : m ≡ c.loop-n.n). absurd (omega arith)) (λ (after : c.args.end ≤ m) (same : m ≡ c.loop-n.n). absurd (omega arith)) out) ∙ c.loop-n.invariant.elsewhere m out

pub loop-n-preserved : goal.loop-n-preserved
loop-n-preserved g c =
    let so_far = c.loop-n.invariant in
    let n = c.loop-n.n in
    let old = g.D.Disk.reads c.args.disk.now in
    let before = g.D.Disk.reads c.loop-n.disk in
    record {
      blanks = λ k low lt.
          let wrote = ap (λ (i : Image). i k) (c.in_ok-write.ensures.reads) in
          ⊎_elim (λ here. wrote ∙ put_here before n _ k here) (λ not. wrote ∙ put_elsewhere before n _ k not ∙ so_far.blanks k low (grind (arith, not, lt))) (cases_eq k n);
      choices = λ is_settled. subst (λ (d : Choices). WipedChoices old d) (sym (c.in_ok-write.ensures.choices)) (wiped_added old (g.D.Disk.choices c.loop-n.disk) n _ refl (so_far.choices is_settled));
      any_moment = λ is_settled. goes_on g.D.Disk c.args.disk.now c.loop-n.disk c.write.new.self (IsWiped old) _ (so_far.any_moment is_settled) (c.write.ensures.time)
          (λ image is k. wiped_added old (g.D.Disk.choices c.loop-n.disk) n _ refl (so_far.choices is_settled) k (image k) (is k));
      elsewhere = λ m out. c.write.ensures.elsewhere m (⊎_elim (λ (first : m < 1) (same : m ≡ c.loop-n.n). absurd (omega arith)) (λ (after : c.args.end ≤ m) (same : m ≡ c.loop-n.n). absurd (omega arith)) out) ∙ so_far.elsewhere m out;
      before = λ kept. so_far.before (c.write.ensures.before kept);
      count = c.write.ensures.counts.count ∙ so_far.count;
      failures = c.in_ok-write.ensures.counts.passed (λ is. cc is) ∙ so_far.failures;
    }
