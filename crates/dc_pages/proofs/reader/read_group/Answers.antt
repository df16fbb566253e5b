use Rattle.std.proofs.Common.{◌≡◌, ◌+◌, Bool, false, Ok, Err, arith, subst, ap, ◌∙◌, refl}
use Rattle.std.specs.Prelude.{if◌then◌else◌}
use Rattle.std.proofs.lemmas.Result.{err_from_is_err_and}
use Rattle.std.proofs.lemmas.Grind.{common_steps}
use Rattle.dc_sectors.proofs.Moments.{looked_next, counts_pass, counts_none}
use Rattle.dc_pages.specs.Group.{site_of}
use Rattle.dc_pages.specs.Judging.{IsStep}
use Rattle.dc_pages.specs.declared.fault.GroupFault.{GroupFault}
use Rattle.dc_pages.specs.declared.fault.GroupFault.TheVariants.{Incomplete, Device}
use Rattle.dc_pages.proofs.Collected.{step_read}
use Rattle.dc_pages.proofs.reader.read_group.Goals as goal

pub returns-in_err-read_next-clause-incomplete : goal.returns-in_err-read_next-clause-incomplete
returns-in_err-read_next-clause-incomplete g c h n e =
    let so_far = c.loop-at.invariant in
    let reading = c.loop-at.reading in
    let after = c.read_next.new.self in
    let step = step_read reading.site (site_of c.args.place c.args.limit c.args.kind c.args.version c.args.sequence) (g.D.Disk.reads c.loop-at.disk) (g.D.Disk.reads c.args.disk.now)
    c.loop-at.at reading.session reading.pages after.session after.pages reading.payload.items after.payload.items (Err c.in_err-read_next.field-0.0) so_far.site so_far.looked.reads_same
    (c.in_err-read_next.ensures.step h) so_far.at (omega arith) (so_far.begun (c.in_err-read_next.ensures.before h)) in
    let p = err_from_is_err_and c.from_residual.result c.from_residual.ensures.1 in
    let same : c.in_err-read_next.field-0.0 ≡ Incomplete n = cc (p.1, p.2, e) in
    subst (λ (f : GroupFault). IsStep (site_of c.args.place c.args.limit c.args.kind c.args.version c.args.sequence) (g.D.Disk.reads c.args.disk.now) after.session after.pages after.payload.items (Err f)) same step

pub returns-then-branch-clause-group : goal.returns-then-branch-clause-group
returns-then-branch-clause-group g c h =
    let so_far = c.loop-at.invariant in
    let reading = c.loop-at.reading in
    let after = c.read_next.new.self in
    let step = step_read reading.site (site_of c.args.place c.args.limit c.args.kind c.args.version c.args.sequence) (g.D.Disk.reads c.loop-at.disk) (g.D.Disk.reads c.args.disk.now)
    c.loop-at.at reading.session reading.pages after.session after.pages reading.payload.items after.payload.items (Ok c.in_ok-read_next.field-0) so_far.site so_far.looked.reads_same
    (c.in_ok-read_next.ensures.step h) so_far.at (omega arith) (so_far.begun (c.in_ok-read_next.ensures.before h)) in
    let whole = subst (λ (b : Bool). IsStep (site_of c.args.place c.args.limit c.args.kind c.args.version c.args.sequence) (g.D.Disk.reads c.args.disk.now) after.session after.pages after.payload.items (Ok b)) c.if-branch.true step in
    (after.session, after.pages, whole, refl)

pub returns-in_err-read_next-clause-looked : goal.returns-in_err-read_next-clause-looked
returns-in_err-read_next-clause-looked g c =
    let next = c.in_err-read_next.ensures in
    looked_next g.D.Disk c.args.disk.now c.loop-at.disk c.read_next.new.disk c.loop-at.invariant.looked next.reads next.choices next.time next.before

pub returns-then-branch-clause-looked : goal.returns-then-branch-clause-looked
returns-then-branch-clause-looked g c =
    let next = c.in_ok-read_next.ensures in
    looked_next g.D.Disk c.args.disk.now c.loop-at.disk c.read_next.new.disk c.loop-at.invariant.looked next.reads next.choices next.time next.before

pub returns-in_err-read_next-clause-counts : goal.returns-in_err-read_next-clause-counts
returns-in_err-read_next-clause-counts g c =
    let p = err_from_is_err_and c.from_residual.result c.from_residual.ensures.1 in
    counts_pass g.D.Disk c.args.disk.now c.loop-at.disk c.read_next.new.disk c.from_residual.result c.in_err-read_next.field-0.0 Device
    c.loop-at.invariant.counts c.in_err-read_next.ensures.counts (cc (p.1, p.2))

pub returns-then-branch-clause-counts : goal.returns-then-branch-clause-counts
returns-then-branch-clause-counts g c =
    counts_none g.D.Disk c.args.disk.now c.loop-at.disk c.read_next.new.disk _ _ c.loop-at.invariant.counts c.in_ok-read_next.ensures.counts (λ is. cc is) (λ is. cc is)

pub loop-at-preserved : goal.loop-at-preserved
loop-at-preserved g c =
    let so_far = c.loop-at.invariant in
    let next = c.in_ok-read_next.ensures in
    let reading = c.loop-at.reading in
    let after = c.read_next.new.self in
    let not_done : c.in_ok-read_next.field-0 ≡ false = c.if-branch.false in
    let pages : after.pages ≡ reading.pages + 1 = next.pages ∙ ap (λ (b : Bool). if b then reading.pages else reading.pages + 1) not_done in
    record {
      at = omega arith;
      site = next.site ∙ so_far.site;
      begun = λ h.
          let step = step_read reading.site (site_of c.args.place c.args.limit c.args.kind c.args.version c.args.sequence) (g.D.Disk.reads c.loop-at.disk) (g.D.Disk.reads c.args.disk.now)
          c.loop-at.at reading.session reading.pages after.session after.pages reading.payload.items after.payload.items (Ok c.in_ok-read_next.field-0) so_far.site so_far.looked.reads_same
          (next.step h) so_far.at (omega arith) (so_far.begun (next.before h)) in
          subst (λ (b : Bool). IsStep (site_of c.args.place c.args.limit c.args.kind c.args.version c.args.sequence) (g.D.Disk.reads c.args.disk.now) after.session after.pages after.payload.items (Ok b)) not_done step;
      looked = looked_next g.D.Disk c.args.disk.now c.loop-at.disk c.read_next.new.disk so_far.looked next.reads next.choices next.time next.before;
      counts = counts_none g.D.Disk c.args.disk.now c.loop-at.disk c.read_next.new.disk _ ⊥ so_far.counts next.counts (λ is. cc is) (λ is. is);
    }

pub loop-at-init : goal.loop-at-init
loop-at-init g c = grind (arith, common_steps)

pub returns-in_err-read_next-clause-group : goal.returns-in_err-read_next-clause-group
returns-in_err-read_next-clause-group g c = grind (arith, common_steps)

pub returns-clause-counts : goal.returns-clause-counts
returns-clause-counts g c = grind (arith, common_steps)
