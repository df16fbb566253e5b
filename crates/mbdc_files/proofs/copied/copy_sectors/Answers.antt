use Rattle.std.proofs.Common.{⊎_elim, ◌≡◌, ◌<◌, ℕ, ap, subst, sym, ◌∙◌, refl, arith}
use Rattle.std.proofs.lemmas.Bool.{cases_eq}
use Rattle.dc_sectors.specs.Disk.{Image, settled}
use Rattle.dc_sectors.specs.Images.{put_here, put_elsewhere}
use Rattle.mbdc_files.proofs.copied.copy_sectors.Goals as goal

pub loop-n-preserved : goal.loop-n-preserved
loop-n-preserved g c =
    let so_far = c.loop-n.invariant in
    let n = c.loop-n.n in
    let old = g.C.Disk.reads c.args.copy.now in
    let before = g.D.Disk.reads c.loop-n.new in
    record {
      same = λ h k lt.
          let wrote = ap (λ (i : Image). i k) c.in-Ok-write.ensures.reads in
          let read = c.in-Ok.ensures.answer h in
          ⊎_elim
          (λ (here : k ≡ n). wrote ∙ put_here before n _ k here ∙ sym read ∙ ap (λ (i : Image). i n) so_far.reads ∙ ap old (sym here))
          (λ not. wrote ∙ put_elsewhere before n _ k not ∙ so_far.same (c.read.ensures.before h) k (grind (arith, not, lt)))
          (cases_eq k n);
      reads = c.read.ensures.reads ∙ so_far.reads;
      before = λ h. so_far.before (c.read.ensures.before h);
      count = c.read.ensures.counts.count ∙ so_far.count;
      size = c.write.ensures.counts.count ∙ so_far.size;
    }

pub returns-in-Ok-sync-clause-copied : goal.returns-in-Ok-sync-clause-copied
returns-in-Ok-sync-clause-copied g c =
    let so_far = c.loop-n.invariant in
    let reads = c.sync.ensures.reads in
    record {
      size = c.sync.ensures.counts.count ∙ so_far.size ∙ c.requires;
      durable = c.in-Ok-sync.ensures.choices ∙ ap settled (sym reads);
      before = so_far.before;
      same = λ h k lt. ap (λ (i : Image). i k) reads ∙ so_far.same h k (omega (arith, lt));
    }
