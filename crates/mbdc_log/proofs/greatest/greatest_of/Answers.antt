use Rattle.std.proofs.Common.{◌≡◌, ◌+◌, ◌*◌, ℕ, arith, subst, sym, refl}
use Rattle.dc_sectors.specs.Disk.{Image}
use Rattle.dc_sectors.proofs.Moments.{counted_on}
use Rattle.dc_pages.specs.Stamp.{IsStampOf}
use Rattle.mbdc_log.specs.Greatest.{IsGreatestBefore, OfSession, OfSequence}
use Rattle.mbdc_log.proofs.Peaks.{no_peak}
use Rattle.mbdc_log.proofs.ReadMoments.{looked_never, looked_on}
use Rattle.mbdc_log.proofs.greatest.greatest_of.Goals as goal

pub loop-n-init : goal.loop-n-init
loop-n-init g c = record {
  from = omega arith;
  greatest = λ h. record { session = no_peak OfSession _ _ refl; sequence = no_peak OfSequence _ _ refl };
  looked = looked_never g.D.Disk c.args.disk.now (g.met.D.Disk.only_now c.args.disk.now);
  counts = record { count = refl; later = omega arith; passed = λ _. refl; failed = λ is. absurd is };
}

pub returns-in_err-stamp-clause-looked : goal.returns-in_err-stamp-clause-looked
returns-in_err-stamp-clause-looked g c =
    looked_on g.D.Disk c.args.disk.now c.loop-n.disk c.stamp_at.new.disk c.loop-n.invariant.looked c.stamp_at.ensures.looked

pub loop-n-preserved : goal.loop-n-preserved
loop-n-preserved g c =
    let so_far = c.loop-n.invariant in
    let disk = c.args.disk.now in
    let image : Image = g.D.Disk.reads disk in
    record {
      from = omega arith;
      greatest = λ h.
          let stamp = subst (λ (i : Image). IsStampOf (i c.loop-n.n) c.in_ok-stamp.stamp) so_far.looked.reads_same (c.in_ok-stamp.ensures.stamp h) in
          c.with-greatest.ensures image stamp (so_far.greatest (c.stamp_at.ensures.looked.before h));
      looked = looked_on g.D.Disk disk c.loop-n.disk c.stamp_at.new.disk so_far.looked c.stamp_at.ensures.looked;
      counts = counted_on g.D.Disk disk c.loop-n.disk c.stamp_at.new.disk ⊥ _ ⊥ so_far.counts (λ is. is) c.in_ok-stamp.ensures.counts (λ is. cc is) (λ is. absurd is);
    }

pub returns-clause-greatest : goal.returns-clause-greatest
returns-clause-greatest g c h =
    let image = g.D.Disk.reads c.args.disk.now in
    let end : c.loop-n.n ≡ 3 + 2 * c.args.half_len = omega arith in
    subst (λ (n : ℕ). IsGreatestBefore n c.loop-n.greatest image) end (c.loop-n.invariant.greatest h)
