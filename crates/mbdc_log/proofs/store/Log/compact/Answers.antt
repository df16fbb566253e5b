use Rattle.std.proofs.Common.{◌≡◌, ◌+◌, ℕ, zero, arith, ap, subst, sym, ◌∙◌, refl}
use Rattle.std.proofs.lemmas.Grind.{common_steps}
use Rattle.dc_sectors.specs.Disk.{Image, settled}
use Rattle.dc_sectors.specs.Runs.{IsSettled}
use Rattle.dc_sectors.proofs.Moments.{started}
use Rattle.dc_roots.specs.declared.root.Root.{Root}
use Rattle.mbdc_log.specs.Halves.{half_of, half_len_of, SparesRest}
use Rattle.mbdc_log.specs.Roots.{compacted}
use Rattle.mbdc_log.specs.Stands.{IsReady}
use Rattle.mbdc_log.specs.Store.{Opened}
use Rattle.mbdc_log.proofs.Life.{keeps_stands, keeps_compacted}
use Rattle.mbdc_log.proofs.store.Log.compact.Given.{Over}
use Rattle.mbdc_log.proofs.store.Log.compact.Goals.{After-compact_into_other_half}
use Rattle.mbdc_log.proofs.store.Log.compact.Goals as goal

pub returns-then-self-2-clause-any_moment : goal.returns-then-self-2-clause-any_moment
returns-then-self-2-clause-any_moment g c was kept =
    let store = c.args.self.now in
    started g.D.Disk store.disk _
    (λ image left. keeps_stands g.K.Language g.D.Disk store was (g.K.Language.state c.args.kept.now) image kept (g.met.D.Disk.only_now store.disk image left))

pub returns-in-Ok-clause-kept : goal.returns-in-Ok-clause-kept
returns-in-Ok-clause-kept g c was kept =
    let store = c.args.self.now in
    let inside = c.self.inside in
    let state = (g.K.Language.state c.args.kept.now) in
    let root : inside.root ≡ store.root = ap (λ (s : Opened (g.row.D.Denot)). s.root) c.self.view_is in
    let place : inside.place ≡ store.place = ap (λ (s : Opened (g.row.D.Denot)). s.place) c.self.view_is in
    let last : inside.last ≡ store.last = ap (λ (s : Opened (g.row.D.Denot)). s.last) c.self.view_is in
    let disk : inside.disk ≡ store.disk = ap (λ (s : Opened (g.row.D.Denot)). s.disk) c.self.view_is in
    let H = half_of g.D.Disk store.disk in
    let at_half : c.half_len_of-half_len.result ≡ H = c.half_len_of-half_len.ensures.exact ∙ ap half_len_of (c.count.ensures ∙ ap g.D.Disk.sectors disk) in
    let settled_inside : IsSettled g.D.Disk inside.disk = ap g.D.Disk.choices disk ∙ kept.is_settled ∙ ap (λ (d : g.row.D.Denot). settled (g.D.Disk.reads d)) (sym disk) in
    let at_disk = subst (λ (i : Image). IsReady g.K.Language H store.root kept.m store.place was i) (ap g.D.Disk.reads (sym disk)) kept.ready in
    let at_root = subst (λ (r : Root). IsReady g.K.Language H r kept.m store.place was (g.D.Disk.reads inside.disk)) (sym root) at_disk in
    let before = subst (λ (n : ℕ). IsReady g.K.Language n inside.root kept.m store.place was (g.D.Disk.reads inside.disk)) (sym at_half) at_root in
    let base : inside.root.base_sequence ≡ store.root.base_sequence = ap (λ (r : Root). r.base_sequence) root in
    let last_is = kept.last_is in
    let ready = c.in-Ok.ensures.ready settled_inside kept.m store.place was before (omega (arith, last, last_is, base)) in
    let ready' = subst (λ (n : ℕ). IsReady g.K.Language n c.in-Ok.root zero c.in-Ok.place state (g.D.Disk.reads c.compact_into_other_half.new.disk)) at_half ready in
    let new : Opened (g.row.D.Denot) = record { disk = c.compact_into_other_half.new.disk; root = c.in-Ok.root; place = c.in-Ok.place; last = inside.last + 1; is_stopped = inside.is_stopped } in
    keeps_compacted g.K.Language g.D.Disk store new state (inside.last + 1) c.if-self.false
    (c.in-Ok.ensures.root ∙ ap (λ (r : Root). compacted r (inside.last + 1)) root) refl
    (c.compact_into_other_half.ensures.counts.count ∙ ap g.D.Disk.sectors disk) (c.in-Ok.ensures.durable) ready'

-- the sectors outside stay, whatever the compaction answers
spares : (g : Over) (c : After-compact_into_other_half g)
    → SparesRest (half_of g.D.Disk c.args.self.now.disk) (g.D.Disk.reads c.args.self.now.disk) (g.D.Disk.reads c.compact_into_other_half.new.disk)
spares g c =
    let store = c.args.self.now in
    let inside = c.self.inside in
    let disk : inside.disk ≡ store.disk = ap (λ (s : Opened (g.row.D.Denot)). s.disk) c.self.view_is in
    let at_half : c.half_len_of-half_len.result ≡ half_of g.D.Disk inside.disk = c.half_len_of-half_len.ensures.exact ∙ ap half_len_of c.count.ensures in
    subst (λ (d : g.row.D.Denot). SparesRest (half_of g.D.Disk d) (g.D.Disk.reads d) (g.D.Disk.reads c.compact_into_other_half.new.disk)) disk
    (subst (λ (n : ℕ). SparesRest n (g.D.Disk.reads inside.disk) (g.D.Disk.reads c.compact_into_other_half.new.disk)) at_half c.compact_into_other_half.ensures.elsewhere)

pub returns-in-Ok-clause-elsewhere : goal.returns-in-Ok-clause-elsewhere
returns-in-Ok-clause-elsewhere g c = spares g (goal.at.returns-in-Ok-clause-elsewhere g c).After-compact_into_other_half

pub returns-in-Err-clause-elsewhere : goal.returns-in-Err-clause-elsewhere
returns-in-Err-clause-elsewhere g c = spares g (goal.at.returns-in-Err-clause-elsewhere g c).After-compact_into_other_half

pub returns-then-self-clause-worn : goal.returns-then-self-clause-worn
returns-then-self-clause-worn g c = grind (arith, common_steps)

pub returns-then-self-clause-any_moment : goal.returns-then-self-clause-any_moment
returns-then-self-clause-any_moment g c = grind (arith, common_steps)

pub invariant_of-self : goal.invariant_of-self
invariant_of-self g c = grind (arith, common_steps)

pub invariant_of-self-in-Err : goal.invariant_of-self-in-Err
invariant_of-self-in-Err g c = grind (arith, common_steps)

pub returns-in-Ok-clause-worn : goal.returns-in-Ok-clause-worn
returns-in-Ok-clause-worn g c = grind (arith, common_steps)

pub returns-in-Ok-clause-counts : goal.returns-in-Ok-clause-counts
returns-in-Ok-clause-counts g c = grind (arith, common_steps)

pub returns-in-Err-clause-worn : goal.returns-in-Err-clause-worn
returns-in-Err-clause-worn g c = grind (arith, common_steps)

pub returns-in-Err-clause-counts : goal.returns-in-Err-clause-counts
returns-in-Err-clause-counts g c = grind (arith, common_steps)
