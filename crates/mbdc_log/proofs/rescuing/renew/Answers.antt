use Rattle.std.proofs.Common.{◌≡◌, ◌≤◌, ◌∙◌, Err, arith, ap, subst, sym}
use Rattle.dc_sectors.specs.Disk.{Image, Choices, IsImage}
use Rattle.dc_sectors.specs.Runs.{IsSettled}
use Rattle.dc_sectors.specs.Images.{settled_image}
use Rattle.mbdc_io.specs.Failures.{has_risen-after}
use Rattle.mbdc_log.specs.Halves.{fewest_sectors, half_of}
use Rattle.mbdc_log.specs.Rescue.{IsStoreRefused}
use Rattle.mbdc_log.specs.Stands.{Stands}
use Rattle.mbdc_log.specs.Store.{Keeps}
use Rattle.mbdc_log.proofs.Renewed.{open_refused, format_refused, store_refused, not_small, opened_root}
use Rattle.mbdc_log.proofs.rescuing.renew.Given.{Over}
use Rattle.mbdc_log.proofs.rescuing.renew.Goals.{In-Ok-compact}
use Rattle.mbdc_log.proofs.rescuing.renew.Goals as goal

-- the store keeps the state once it is compacted
keeps : (g : Over) (c : In-Ok-compact g) → g.D.Disk.keeps c.compact.new.self.disk → Keeps g.K.Language g.D.Disk c.compact.new.self (g.K.Language.state c.args.kept.now)
keeps g c h =
    let empty = g.K.Language.empty in
    let opened = c.in-Ok-open.ensures.kept (λ image is. (empty, c.in-Ok.ensures.formatted image is)) (c.compact.ensures.before h) in
    c.in-Ok-compact.ensures.kept _ opened

pub returns-in-Ok-compact-clause-durable : goal.returns-in-Ok-compact-clause-durable
returns-in-Ok-compact-clause-durable g c h =
    let closed : c.close.result ≡ c.compact.new.self.disk = c.close.ensures in
    subst (λ (d : g.row.D.Denot). IsSettled g.D.Disk d) (sym closed) (keeps g (goal.at.returns-in-Ok-compact-clause-durable g c).In-Ok-compact (subst g.D.Disk.keeps closed h)).is_settled

pub returns-in-Ok-compact-clause-stands : goal.returns-in-Ok-compact-clause-stands
returns-in-Ok-compact-clause-stands g c h image is =
    let closed : c.close.result ≡ c.compact.new.self.disk = c.close.ensures in
    let disk = c.compact.new.self.disk in
    let kept = keeps g (goal.at.returns-in-Ok-compact-clause-stands g c).In-Ok-compact (subst g.D.Disk.keeps closed h) in
    let choices = subst (λ (d : g.row.D.Denot). IsImage (g.D.Disk.choices d) image) closed is in
    let one : image ≡ g.D.Disk.reads disk = settled_image (g.D.Disk.reads disk) image (subst (λ (cs : Choices). IsImage cs image) kept.is_settled choices) in
    let state = g.K.Language.state c.args.kept.now in
    let stands : Stands g.K.Language (half_of g.D.Disk disk) state (g.D.Disk.reads disk) = record { root = c.compact.new.self.root; m = kept.m; place = c.compact.new.self.place; by = kept.ready.stands } in
    subst (λ (d : g.row.D.Denot). Stands g.K.Language (half_of g.D.Disk d) state image) (sym closed)
    (subst (λ (i : Image). Stands g.K.Language (half_of g.D.Disk disk) state i) (sym one) stands)

pub returns-in-Err-clause-refused : goal.returns-in-Err-clause-refused
returns-in-Err-clause-refused g c =
    format_refused g.K.Language g.D.Disk c.args.disk c.in-Err.disk c.in-Err.fault c.in-Err.ensures.too_small c.in-Err.ensures.already c.in-Err.ensures.counts.failed

pub returns-in-Err-open-clause-refused : goal.returns-in-Err-open-clause-refused
returns-in-Err-open-clause-refused g c =
    let empty = g.K.Language.empty in
    let formatted = c.in-Ok.disk in
    let enough = not_small (g.D.Disk.sectors c.args.disk) c.format.result formatted _ c.in-Ok.is c.format.ensures.small in
    let count = c.in-Ok.ensures.counts.count in
    let many : fewest_sectors ≤ g.D.Disk.sectors formatted = omega (arith, enough, count) in
    open_refused g.K.Language g.D.Disk c.args.disk c.in-Err-open.disk c.in-Err-open.fault (half_of g.D.Disk formatted) (g.D.Disk.reads formatted) c.in-Ok.ensures.root
    (c.in-Err-open.ensures.premise many (λ image is. (empty, c.in-Ok.ensures.formatted image is)))
    (c.in-Err-open.ensures.refused many)
    (λ failed. has_risen-after _ _ _ c.in-Ok.ensures.counts.later (c.in-Err-open.ensures.counts.failed failed))

pub returns-in-Err-compact-clause-refused : goal.returns-in-Err-compact-clause-refused
returns-in-Err-compact-clause-refused g c =
    let empty = g.K.Language.empty in
    let formatted = c.in-Ok.disk in
    let store = c.in-Ok-open.store in
    let disk = c.compact.new.self.disk in
    let closed : c.close-in-Err-compact.result ≡ disk = c.close-in-Err-compact.ensures in
    let later = c.in-Ok.ensures.counts.later in
    let then = c.in-Ok-open.ensures.counts.later in
    subst (λ (d : g.row.D.Denot). IsStoreRefused g.D.Disk c.args.disk d c.in-Err-compact.fault) (sym closed)
    (store_refused g.K.Language g.D.Disk c.args.disk disk c.in-Err-compact.fault store _ (half_of g.D.Disk formatted)
    (λ h. c.in-Ok-open.ensures.kept (λ image is. (empty, c.in-Ok.ensures.formatted image is)) (c.compact.ensures.before h))
    (λ h. opened_root g.K.Language (half_of g.D.Disk formatted) (g.D.Disk.reads formatted) _ store.root c.in-Ok.ensures.root (c.in-Ok-open.ensures.root (c.compact.ensures.before h)))
    (λ e. (c.compact.ensures.worn.0 (c.in-Err-compact.is ∙ ap (λ f. Err f) e)).1)
    (λ e. let stopped = c.compact.ensures.stopped.0 (c.in-Err-compact.is ∙ ap (λ f. Err f) e) in let running = c.in-Ok-open.ensures.running in cc)
    (λ e. has_risen-after _ _ _ (omega (arith, later, then)) (c.compact.ensures.counts.failed (c.in-Err-compact.is ∙ ap (λ f. Err f) e))))
