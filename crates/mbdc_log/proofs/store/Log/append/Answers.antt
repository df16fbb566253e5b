use Rattle.std.proofs.Common.{◌≡◌, ◌+◌, ℕ, suc, arith, ap, subst, sym, ◌∙◌}
use Rattle.std.proofs.lemmas.Grind.{common_steps}
use Rattle.dc_sectors.specs.Disk.{Image, settled}
use Rattle.dc_sectors.specs.Runs.{IsSettled}
use Rattle.dc_sectors.proofs.Moments.{started}
use Rattle.dc_roots.specs.declared.root.Root.{Root}
use Rattle.dc_pages.specs.declared.site.Site.{Site}
use Rattle.mbdc_log.specs.Halves.{half_of, half_len_of, SparesRest}
use Rattle.mbdc_log.specs.Sites.{change_site}
use Rattle.mbdc_log.specs.Store.{Opened}
use Rattle.mbdc_log.specs.Stands.{IsAppendable, IsReady}
use Rattle.mbdc_log.proofs.Life.{keeps_stands, keeps_appendable, keeps_after}
use Rattle.mbdc_log.proofs.Spared.{spared_site}
use Rattle.mbdc_log.proofs.store.Log.append.Given.{Over}
use Rattle.mbdc_log.proofs.store.Log.append.Goals.{After-append_group}
use Rattle.mbdc_log.proofs.store.Log.append.Goals as goal

pub returns-then-self-2-clause-any_moment : goal.returns-then-self-2-clause-any_moment
returns-then-self-2-clause-any_moment g c was changes kept spells accepted =
    let store = c.args.self.now in
    started g.D.Disk store.disk _
    (λ image left. keeps_stands g.S.Any.Language g.D.Disk store was (g.S.Any.Language.after was changes) image kept (g.met.D.Disk.only_now store.disk image left))

pub returns-in-Ok-clause-kept : goal.returns-in-Ok-clause-kept
returns-in-Ok-clause-kept g c was changes kept spells accepted =
    let store = c.args.self.now in
    let inside = c.self.inside in
    let root : inside.root ≡ store.root = ap (λ (s : Opened (g.row.D.Denot)). s.root) c.self.view_is in
    let place : inside.place ≡ store.place = ap (λ (s : Opened (g.row.D.Denot)). s.place) c.self.view_is in
    let last : inside.last ≡ store.last = ap (λ (s : Opened (g.row.D.Denot)). s.last) c.self.view_is in
    let disk : inside.disk ≡ store.disk = ap (λ (s : Opened (g.row.D.Denot)). s.disk) c.self.view_is in
    let H = half_of g.D.Disk store.disk in
    let at_half : c.half_len_of-half_len.result ≡ H = c.half_len_of-half_len.ensures.exact ∙ ap half_len_of (c.count.ensures ∙ ap g.D.Disk.sectors disk) in
    let may = keeps_appendable g.S.Any.Language g.D.Disk store was c.args.bytes.now changes kept (omega (arith, last)) spells accepted in
    let settled_inside : IsSettled g.D.Disk inside.disk = ap g.D.Disk.choices disk ∙ kept.is_settled ∙ ap (λ (d : g.row.D.Denot). settled (g.D.Disk.reads d)) (sym disk) in
    let site_is : change_site H store.root (store.last + 1) store.place ≡ c.change_site-site.result
    = ap (λ (s : Opened (g.row.D.Denot)). change_site H s.root (s.last + 1) s.place) (sym c.self.view_is) ∙ ap (λ (n : ℕ). change_site n inside.root (inside.last + 1) inside.place) (sym at_half) ∙ sym c.change_site-site.ensures.exact in
    let at_disk = subst (λ (i : Image). IsAppendable g.S.Any.Language H store.root kept.m (change_site H store.root (store.last + 1) store.place) was c.args.bytes.now changes i) (ap g.D.Disk.reads (sym disk)) may in
    let at_site = subst (λ (s : Site). IsAppendable g.S.Any.Language H store.root kept.m s was c.args.bytes.now changes (g.D.Disk.reads inside.disk)) site_is at_disk in
    let at_root = subst (λ (r : Root). IsAppendable g.S.Any.Language H r kept.m c.change_site-site.result was c.args.bytes.now changes (g.D.Disk.reads inside.disk)) (sym root) at_site in
    let first : c.change_site-site.result.first ≡ inside.place = ap (λ (s : Site). s.first) c.change_site-site.ensures.exact in
    let ready = c.in-Ok.ensures.ready settled_inside H kept.m was changes at_root in
    let ready' = subst (λ (r : Root). IsReady g.S.Any.Language H r (suc kept.m) (c.change_site-site.result.first + c.in-Ok.count) (g.S.Any.Language.after was changes) (g.D.Disk.reads c.append_group.new.disk)) root ready in
    let ready'' = subst (λ (p : ℕ). IsReady g.S.Any.Language H store.root (suc kept.m) (p + c.in-Ok.count) (g.S.Any.Language.after was changes) (g.D.Disk.reads c.append_group.new.disk)) (first ∙ place) ready' in
    let new : Opened (g.row.D.Denot) = record { disk = c.append_group.new.disk; root = inside.root; place = inside.place + c.in-Ok.count; last = inside.last + 1; is_stopped = inside.is_stopped } in
    keeps_after g.S.Any.Language g.D.Disk store new was c.in-Ok.count (store.last + 1) (g.S.Any.Language.after was changes) kept c.if-self.false root (ap (λ (p : ℕ). p + c.in-Ok.count) place) (ap (λ (n : ℕ). n + 1) last)
    (c.append_group.ensures.counts.count ∙ ap g.D.Disk.sectors disk) (c.in-Ok.ensures.durable) ready''

-- the sectors outside stay, whatever the append answers
spares : (g : Over) (c : After-append_group g) → SparesRest (half_of g.D.Disk c.args.self.now.disk) (g.D.Disk.reads c.args.self.now.disk) (g.D.Disk.reads c.append_group.new.disk)
spares g c =
    let store = c.args.self.now in
    let inside = c.self.inside in
    let half_len = c.half_len_of-half_len.result in
    let disk : inside.disk ≡ store.disk = ap (λ (s : Opened (g.row.D.Denot)). s.disk) c.self.view_is in
    let at_half : half_len ≡ half_of g.D.Disk inside.disk = c.half_len_of-half_len.ensures.exact ∙ ap half_len_of c.count.ensures in
    let site = c.change_site-site.result in
    let first : site.first ≡ inside.place = ap (λ (s : Site). s.first) c.change_site-site.ensures.exact in
    let from = c.self.invariant.from in
    subst (λ (d : g.row.D.Denot). SparesRest (half_of g.D.Disk d) (g.D.Disk.reads d) (g.D.Disk.reads c.append_group.new.disk)) disk
    (subst (λ (n : ℕ). SparesRest n (g.D.Disk.reads inside.disk) (g.D.Disk.reads c.append_group.new.disk)) at_half
    (spared_site half_len site (g.D.Disk.reads inside.disk) (g.D.Disk.reads c.append_group.new.disk) (omega (arith, first, from)) c.change_site-site.ensures.within c.append_group.ensures.elsewhere))

pub returns-in-Ok-clause-elsewhere : goal.returns-in-Ok-clause-elsewhere
returns-in-Ok-clause-elsewhere g c = spares g (goal.at.returns-in-Ok-clause-elsewhere g c).After-append_group

pub returns-in-Err-clause-elsewhere : goal.returns-in-Err-clause-elsewhere
returns-in-Err-clause-elsewhere g c = spares g (goal.at.returns-in-Err-clause-elsewhere g c).After-append_group

pub returns-then-self-clause-any_moment : goal.returns-then-self-clause-any_moment
returns-then-self-clause-any_moment g c = grind (arith, common_steps)

pub returns-then-self-clause-counts : goal.returns-then-self-clause-counts
returns-then-self-clause-counts g c = grind (arith, common_steps)

pub append_group-requires-clause-room : goal.append_group-requires-clause-room
append_group-requires-clause-room g c = grind (arith, common_steps)

pub overflow_add-self : goal.overflow_add-self
overflow_add-self g c = grind (arith, common_steps)

pub invariant_of-self : goal.invariant_of-self
invariant_of-self g c = grind (arith, common_steps)

pub invariant_of-self-in-Err : goal.invariant_of-self-in-Err
invariant_of-self-in-Err g c = grind (arith, common_steps)

pub returns-in-Ok-clause-unchanged : goal.returns-in-Ok-clause-unchanged
returns-in-Ok-clause-unchanged g c = grind (arith, common_steps)

pub returns-in-Ok-clause-last : goal.returns-in-Ok-clause-last
returns-in-Ok-clause-last g c = grind (arith, common_steps)

pub returns-in-Ok-clause-counts : goal.returns-in-Ok-clause-counts
returns-in-Ok-clause-counts g c = grind (arith, common_steps)

pub returns-in-Err-clause-counts : goal.returns-in-Err-clause-counts
returns-in-Err-clause-counts g c = grind (arith, common_steps)
