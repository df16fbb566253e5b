use Rattle.std.proofs.Common.{arith, ap, subst, sym, ◌∙◌, ◌≡◌, Ok, Err}
use Rattle.std.proofs.lemmas.Result.{err_from_is_err_and}
use Rattle.std.proofs.lemmas.Grind.{common_steps}
use Rattle.dc_sectors.specs.Disk.{Image}
use Rattle.dc_pages.specs.Group.{IsComplete}
use Rattle.mbdc_log.specs.Sites.{change_site}
use Rattle.mbdc_log.specs.Stands.{IsReached}
use Rattle.mbdc_log.specs.Refusal.{IsUnread}
use Rattle.mbdc_log.specs.declared.fault.OpenFault.TheVariants.{Device}
use Rattle.mbdc_log.proofs.ReadMoments.{looked_on}
use Rattle.mbdc_log.proofs.Steps.{all_read}
use Rattle.dc_sectors.proofs.Moments.{counted_on, counts_pass, counts_none}
use Rattle.mbdc_log.proofs.reading.read_groups.Goals as goal

pub returns-clause-all : goal.returns-clause-all
returns-clause-all g c h budget reached =
    let H = c.args.half_len in
    let so_far = c.groups.invariant.reached (c.in_ok-read_next.ensures.looked.before h) budget reached in
    let same = c.groups.invariant.looked.reads_same in
    let found = c.groups.found in
    let now = c.read_next.new.found in
    let before = subst (λ (i : Image). IsReached g.K.Language H found.root found.place found.last (g.K.Language.state found.house) i) (sym same) so_far in
    let after = subst (λ (i : Image). IsReached g.K.Language H now.root now.place now.last (g.K.Language.state now.house) i) same (c.in_ok-read_next.ensures.more h (c.groups.invariant.budget ∙ budget) before) in
    all_read g.K.Language H now.root now.place now.last (g.K.Language.state now.house) (g.D.Disk.reads c.args.disk.now) after
    (λ sequence next small complete. c.in_ok-read_next.ensures.none h (ap Ok c.if-branch.false) sequence next small
    (subst (λ (i : Image). IsComplete (change_site H now.root sequence now.place) i) (sym same) complete))

pub returns-clause-looked : goal.returns-clause-looked
returns-clause-looked g c =
    looked_on g.D.Disk c.args.disk.now c.groups.disk c.read_next.new.disk c.groups.invariant.looked c.in_ok-read_next.ensures.looked

pub returns-in_err-read_next-clause-looked : goal.returns-in_err-read_next-clause-looked
returns-in_err-read_next-clause-looked g c =
    looked_on g.D.Disk c.args.disk.now c.groups.disk c.read_next.new.disk c.groups.invariant.looked c.in_err-read_next.ensures.looked

pub returns-clause-counts : goal.returns-clause-counts
returns-clause-counts g c =
    counts_none g.D.Disk c.args.disk.now c.groups.disk c.read_next.new.disk _ _ c.groups.invariant.counts c.in_ok-read_next.ensures.counts (λ is. cc is) (λ is. cc is)

pub returns-in_err-read_next-clause-counts : goal.returns-in_err-read_next-clause-counts
returns-in_err-read_next-clause-counts g c =
    let p = err_from_is_err_and c.from_residual.result c.from_residual.ensures.1 in
    counts_pass g.D.Disk c.args.disk.now c.groups.disk c.read_next.new.disk c.from_residual.result c.in_err-read_next.field-0.0 Device
    c.groups.invariant.counts c.in_err-read_next.ensures.counts (cc (p.1, p.2))

pub returns-in_err-read_next-clause-refused : goal.returns-in_err-read_next-clause-refused
returns-in_err-read_next-clause-refused g c h budget reached =
    let so_far = c.groups.invariant.reached (c.in_err-read_next.ensures.looked.before h) budget reached in
    let same = c.groups.invariant.looked.reads_same in
    let found = c.groups.found in
    let before = subst (λ (i : Image). IsReached g.K.Language c.args.half_len found.root found.place found.last (g.K.Language.state found.house) i) (sym same) so_far in
    let p = err_from_is_err_and c.from_residual.result c.from_residual.ensures.1 in
    let fault = c.in_err-read_next.field-0.0 in
    let told : c.from_residual.result ≡ Err fault = cc (p.1, p.2) in
    rw told (subst (λ (i : Image). IsUnread g.K.Language c.args.half_len i fault) same (c.in_err-read_next.ensures.refused h (c.groups.invariant.budget ∙ budget) before))

pub groups-preserved : goal.groups-preserved
groups-preserved g c =
    let H = c.args.half_len in
    let so_far = c.groups.invariant in
    let next = c.in_ok-read_next.ensures in
    let found = c.groups.found in
    let now = c.read_next.new.found in
    record {
      reached = λ h budget reached.
          let same = so_far.looked.reads_same in
          let before = subst (λ (i : Image). IsReached g.K.Language H found.root found.place found.last (g.K.Language.state found.house) i) (sym same) (so_far.reached (next.looked.before h) budget reached) in
          subst (λ (i : Image). IsReached g.K.Language H now.root now.place now.last (g.K.Language.state now.house) i) same (next.more h (so_far.budget ∙ budget) before);
      root = next.kept.0 ∙ so_far.root;
      budget = next.kept.1 ∙ so_far.budget;
      from = (let first = so_far.from in let second = next.from in omega arith);
      within = next.within;
      looked = looked_on g.D.Disk c.args.disk.now c.groups.disk c.read_next.new.disk so_far.looked next.looked;
      counts = counted_on g.D.Disk c.args.disk.now c.groups.disk c.read_next.new.disk ⊥ _ ⊥ so_far.counts (λ is. is) next.counts (λ is. cc is) (λ is. absurd is);
    }

pub groups-init : goal.groups-init
groups-init g c = grind (arith, common_steps)
