use Rattle.std.proofs.Common.{◌≡◌, ◌∙◌, ◌+◌, ◌*◌, ℕ, Bool, true, false, arith, subst, sym, refl}
use Rattle.dc_sectors.specs.Disk.{Image}
use Rattle.dc_sectors.proofs.Moments.{counted_on}
use Rattle.mbdc_log.specs.Stands.{IsAhead}
use Rattle.mbdc_log.proofs.Ahead.{NoneBefore, none_before_more, none_is_fresh}
use Rattle.mbdc_log.proofs.ReadMoments.{looked_never, looked_on}
use Rattle.mbdc_log.proofs.freshness.first_ahead_of.Goals as goal

apart : (b : Bool) → b ≡ true → b ≡ false → ⊥
apart b is not = (let both : true ≡ false = sym is ∙ not in absurd (cc both))

pub loop-n-init : goal.loop-n-init
loop-n-init g c = record {
  from = omega arith;
  none = λ h k low lt. absurd (omega arith);
  looked = looked_never g.D.Disk c.args.disk.now (g.met.D.Disk.only_now c.args.disk.now);
  counts = record { count = refl; later = omega arith; passed = λ _. refl; failed = λ is. absurd is };
}

pub returns-in_err-reads_ahead-clause-looked : goal.returns-in_err-reads_ahead-clause-looked
returns-in_err-reads_ahead-clause-looked g c =
    looked_on g.D.Disk c.args.disk.now c.loop-n.disk c.reads_ahead.new.disk c.loop-n.invariant.looked c.reads_ahead.ensures.looked

pub returns-then-branch-clause-looked : goal.returns-then-branch-clause-looked
returns-then-branch-clause-looked g c =
    looked_on g.D.Disk c.args.disk.now c.loop-n.disk c.reads_ahead.new.disk c.loop-n.invariant.looked c.reads_ahead.ensures.looked

pub returns-then-branch-clause-first : goal.returns-then-branch-clause-first
returns-then-branch-clause-first g c h =
    let so_far = c.loop-n.invariant in
    let told = c.in_ok-reads_ahead.ensures.ahead h in
    record {
      from = so_far.from;
      within = omega arith;
      here = subst (λ (i : Image). IsAhead c.args.session (c.args.last + 1) (i c.loop-n.n)) so_far.looked.reads_same (told.0 c.if-branch.true);
      before = so_far.none (c.reads_ahead.ensures.looked.before h);
    }

pub loop-n-preserved : goal.loop-n-preserved
loop-n-preserved g c =
    let so_far = c.loop-n.invariant in
    let disk = c.args.disk.now in
    record {
      from = omega arith;
      none = λ h.
          let told = c.in_ok-reads_ahead.ensures.ahead h in
          none_before_more c.args.session (c.args.last + 1) c.loop-n.n (g.D.Disk.reads disk) (so_far.none (c.reads_ahead.ensures.looked.before h))
          (λ is. apart _ (told.1 (subst (λ (i : Image). IsAhead c.args.session (c.args.last + 1) (i c.loop-n.n)) (sym so_far.looked.reads_same) is)) c.if-branch.false);
      looked = looked_on g.D.Disk disk c.loop-n.disk c.reads_ahead.new.disk so_far.looked c.reads_ahead.ensures.looked;
      counts = counted_on g.D.Disk disk c.loop-n.disk c.reads_ahead.new.disk ⊥ _ ⊥ so_far.counts (λ is. is) c.in_ok-reads_ahead.ensures.counts (λ is. cc is) (λ is. absurd is);
    }

pub returns-clause-first : goal.returns-clause-first
returns-clause-first g c h =
    let image = g.D.Disk.reads c.args.disk.now in
    let end : c.loop-n.n ≡ 3 + 2 * c.args.half_len = omega arith in
    none_is_fresh c.args.half_len c.args.session (c.args.last + 1) image
    (subst (λ (n : ℕ). NoneBefore c.args.session (c.args.last + 1) n image) end (c.loop-n.invariant.none h))
