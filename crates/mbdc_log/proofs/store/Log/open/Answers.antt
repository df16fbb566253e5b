use Rattle.std.proofs.Common.{◌≡◌, ◌≤◌, ◌+◌, ℕ, ap, subst, sym, ◌∙◌, refl, arith}
use Rattle.std.proofs.lemmas.Grind.{common_steps}
use Rattle.dc_sectors.specs.Runs.{LeavesOnly}
use Rattle.mbdc_log.specs.Halves.{half_of, half_len_of, SparesRest}
use Rattle.dc_roots.specs.declared.root.Root.{Root}
use Rattle.mbdc_log.specs.Roots.{IsOpenedRoot}
use Rattle.mbdc_log.specs.Stands.{EachStands, Stands, StandsForOne, IsReady, ReadsBy}
use Rattle.mbdc_log.specs.Refusal.{IsRefused, IsWorn}
use Rattle.mbdc_log.proofs.Refusals.{stands_or_refused}
use Rattle.mbdc_log.proofs.ReadMoments.{not_read}
use Rattle.mbdc_log.proofs.Opened.{before_writing}
use Rattle.mbdc_log.proofs.store.Log.open.Goals as goal

pub returns-in-Ok-clause-keeps : goal.returns-in-Ok-clause-keeps
returns-in-Ok-clause-keeps g c was stands h =
    let found = c.in-Ok.found in
    let disk = c.open_on.new.disk in
    let at : c.half_len_of.result ≡ half_of g.D.Disk c.args.disk = c.half_len_of.ensures.exact ∙ ap half_len_of c.count-count.ensures in
    let same : c.half_len_of.result ≡ half_of g.D.Disk disk = at ∙ ap half_len_of (sym c.open_on.ensures.counts.count) in
    let ready = c.in-Ok.ensures.ready h was (subst (λ (n : ℕ). Stands g.S.Value.Language n was (g.D.Disk.reads c.args.disk)) (sym at) stands) in
    record {
      running = refl;
      version = c.in-Ok.ensures.version;
      is_settled = c.in-Ok.ensures.durable;
      m = ready.m;
      ready = subst (λ (n : ℕ). IsReady g.S.Value.Language n found.root ready.m found.place (g.S.Value.Language.state found.house) (g.D.Disk.reads disk)) same ready.ready;
      last_is = ready.last_is;
    }

pub returns-in-Ok-clause-kept : goal.returns-in-Ok-clause-kept
returns-in-Ok-clause-kept g c each h =
    let found = c.in-Ok.found in
    let disk = c.open_on.new.disk in
    let at : c.half_len_of.result ≡ half_of g.D.Disk c.args.disk = c.half_len_of.ensures.exact ∙ ap half_len_of c.count-count.ensures in
    let same : c.half_len_of.result ≡ half_of g.D.Disk disk = at ∙ ap half_len_of (sym c.open_on.ensures.counts.count) in
    let one = each (g.D.Disk.reads c.args.disk) (g.met.D.Disk.reads_a_choice c.args.disk) in
    let ready = c.in-Ok.ensures.ready h one.0 (subst (λ (n : ℕ). Stands g.S.Value.Language n one.0 (g.D.Disk.reads c.args.disk)) (sym at) one.1) in
    record {
      running = refl;
      version = c.in-Ok.ensures.version;
      is_settled = c.in-Ok.ensures.durable;
      m = ready.m;
      ready = subst (λ (n : ℕ). IsReady g.S.Value.Language n found.root ready.m found.place (g.S.Value.Language.state found.house) (g.D.Disk.reads disk)) same ready.ready;
      last_is = ready.last_is;
    }

pub returns-in-Ok-clause-any_moment : goal.returns-in-Ok-clause-any_moment
returns-in-Ok-clause-any_moment g c each h =
    let at : c.half_len_of.result ≡ half_of g.D.Disk c.args.disk = c.half_len_of.ensures.exact ∙ ap half_len_of c.count-count.ensures in
    subst (λ (n : ℕ). LeavesOnly g.D.Disk c.args.disk c.open_on.new.disk (StandsForOne g.S.Value.Language n (g.D.Disk.choices c.args.disk))) at
    (c.open_on.ensures.any_moment h (subst (λ (n : ℕ). EachStands g.S.Value.Language n (g.D.Disk.choices c.args.disk)) (sym at) each))

pub returns-in-Err-clause-any_moment : goal.returns-in-Err-clause-any_moment
returns-in-Err-clause-any_moment g c each h =
    let at : c.half_len_of.result ≡ half_of g.D.Disk c.args.disk = c.half_len_of.ensures.exact ∙ ap half_len_of c.count-count.ensures in
    subst (λ (n : ℕ). LeavesOnly g.D.Disk c.args.disk c.open_on.new.disk (StandsForOne g.S.Value.Language n (g.D.Disk.choices c.args.disk))) at
    (c.open_on.ensures.any_moment h (subst (λ (n : ℕ). EachStands g.S.Value.Language n (g.D.Disk.choices c.args.disk)) (sym at) each))

pub returns-in-Ok-clause-not_worn : goal.returns-in-Ok-clause-not_worn
returns-in-Ok-clause-not_worn g c h worn =
    let at : c.half_len_of.result ≡ half_of g.D.Disk c.args.disk = c.half_len_of.ensures.exact ∙ ap half_len_of c.count-count.ensures in
    c.in-Ok.ensures.not_worn h (subst (λ (n : ℕ). IsWorn g.S.Value.Language n (g.D.Disk.reads c.args.disk)) (sym at) worn)

pub returns-in-Err-clause-premise : goal.returns-in-Err-clause-premise
returns-in-Err-clause-premise g c enough each h tells =
    let disk = c.args.disk in
    let at : c.half_len_of.result ≡ half_of g.D.Disk disk = c.half_len_of.ensures.exact ∙ ap half_len_of c.count-count.ensures in
    let one = each (g.D.Disk.reads disk) (g.met.D.Disk.reads_a_choice disk) in
    stands_or_refused g.S.Value.Language (half_of g.D.Disk disk) (subst (λ (n : ℕ). n ≤ 65536) at c.half_len_of.ensures.most) (g.D.Disk.reads disk) one.0 c.in-Err.fault tells
    (subst (λ (n : ℕ). IsRefused g.S.Value.Language n (g.D.Disk.reads disk) c.in-Err.fault) at (c.in-Err.ensures.refused h)) one.1

pub returns-in-Ok-clause-root : goal.returns-in-Ok-clause-root
returns-in-Ok-clause-root g c h =
    let found = c.in-Ok.found in
    let at : c.half_len_of.result ≡ half_of g.D.Disk c.args.disk = c.half_len_of.ensures.exact ∙ ap half_len_of c.count-count.ensures in
    subst (λ (n : ℕ). (root : Root) × (m : ℕ) × (place : ℕ) × ReadsBy g.S.Value.Language n root m place (g.S.Value.Language.state found.house) (g.D.Disk.reads c.args.disk) × IsOpenedRoot root (root.base_sequence + m) found.root) at
    (c.in-Ok.ensures.root h)

pub returns-in-Ok-clause-elsewhere : goal.returns-in-Ok-clause-elsewhere
returns-in-Ok-clause-elsewhere g c =
    let at : c.half_len_of.result ≡ half_of g.D.Disk c.args.disk = c.half_len_of.ensures.exact ∙ ap half_len_of c.count-count.ensures in
    subst (λ (n : ℕ). SparesRest n (g.D.Disk.reads c.args.disk) (g.D.Disk.reads c.open_on.new.disk)) at c.open_on.ensures.elsewhere

pub returns-in-Err-clause-elsewhere : goal.returns-in-Err-clause-elsewhere
returns-in-Err-clause-elsewhere g c =
    let at : c.half_len_of.result ≡ half_of g.D.Disk c.args.disk = c.half_len_of.ensures.exact ∙ ap half_len_of c.count-count.ensures in
    subst (λ (n : ℕ). SparesRest n (g.D.Disk.reads c.args.disk) (g.D.Disk.reads c.open_on.new.disk)) at c.open_on.ensures.elsewhere

pub returns-then-count-lt-FEWEST_SECTORS-clause-any_moment : goal.returns-then-count-lt-FEWEST_SECTORS-clause-any_moment
returns-then-count-lt-FEWEST_SECTORS-clause-any_moment g c each h =
    let disk = c.args.disk in
    before_writing g.S.Value.Language g.D.Disk (half_of g.D.Disk disk) disk each disk (not_read g.D.Disk disk (g.met.D.Disk.only_now disk))

pub returns-in-Err-clause-refused : goal.returns-in-Err-clause-refused
returns-in-Err-clause-refused g c enough h =
    let disk = c.args.disk in
    let at : c.half_len_of.result ≡ half_of g.D.Disk disk = c.half_len_of.ensures.exact ∙ ap half_len_of c.count-count.ensures in
    subst (λ (n : ℕ). IsRefused g.S.Value.Language n (g.D.Disk.reads disk) c.in-Err.fault) at (c.in-Err.ensures.refused h)

pub returns-in-Ok-clause-reads : goal.returns-in-Ok-clause-reads
returns-in-Ok-clause-reads g c = grind (arith, common_steps)

pub returns-in-Ok-clause-counts : goal.returns-in-Ok-clause-counts
returns-in-Ok-clause-counts g c = grind (arith, common_steps)

pub returns-in-Err-clause-spares_images : goal.returns-in-Err-clause-spares_images
returns-in-Err-clause-spares_images g c = grind (arith, common_steps)

pub returns-in-Err-clause-counts : goal.returns-in-Err-clause-counts
returns-in-Err-clause-counts g c = grind (arith, common_steps)
