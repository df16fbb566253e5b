use Rattle.std.proofs.Common.{◌∙◌, ◌+◌, ℕ, List, suc, ap, subst, sym}
use Rattle.dc_sectors.specs.Disk.{Image}
use Rattle.dc_sectors.specs.Runs.{LeavesOnly, IsSettled}
use Rattle.dc_sectors.proofs.Moments.{weakened}
use Rattle.mbdc_log.specs.Stands.{IsAppendable, IsReady, StandsForEither}
use Rattle.mbdc_log.proofs.Appended.{appending_stands, appended_ready}
use Rattle.mbdc_log.proofs.ReadMoments.{synced_behind}
use Rattle.mbdc_log.proofs.appending.append_group.Given.{Over}
use Rattle.mbdc_log.proofs.appending.append_group.Goals.{After-write_group}
use Rattle.mbdc_log.proofs.appending.append_group.Goals as goal

-- while the group is written
written : (g : Over) (c : After-write_group g) → IsSettled g.D.Disk c.args.disk.now → (half_len m : ℕ) (was : g.K.Language.State) (changes : List g.K.Language.Change)
    → IsAppendable g.K.Language half_len c.args.root.now m c.args.site was c.args.bytes.now changes (g.D.Disk.reads c.args.disk.now)
    → LeavesOnly g.D.Disk c.args.disk.now c.write_group.new.disk (StandsForEither g.K.Language half_len was (g.K.Language.after was changes))
written g c is_settled half_len m was changes may =
    weakened g.D.Disk c.args.disk.now c.write_group.new.disk _ _ (c.write_group.ensures.any_moment is_settled)
    (appending_stands g.K.Language half_len c.args.root.now m c.args.site was c.args.bytes.now changes (g.D.Disk.reads c.args.disk.now) may)

pub returns-in_err-count-clause-any_moment : goal.returns-in_err-count-clause-any_moment
returns-in_err-count-clause-any_moment g c is_settled half_len m was changes may = written g (goal.at.returns-in_err-count-clause-any_moment g c).After-write_group is_settled half_len m was changes may

pub returns-in_err-sync-clause-any_moment : goal.returns-in_err-sync-clause-any_moment
returns-in_err-sync-clause-any_moment g c is_settled half_len m was changes may =
    synced_behind g.D.Disk c.args.disk.now c.write_group.new.disk c.sync.new.self _ (g.met.D.Disk.counts_now c.write_group.new.disk)
    (written g (goal.at.returns-in_err-sync-clause-any_moment g c).After-write_group is_settled half_len m was changes may) (c.sync.ensures.time)

pub returns-clause-any_moment : goal.returns-clause-any_moment
returns-clause-any_moment g c is_settled half_len m was changes may =
    synced_behind g.D.Disk c.args.disk.now c.write_group.new.disk c.sync.new.self _ (g.met.D.Disk.counts_now c.write_group.new.disk)
    (written g (goal.at.returns-clause-any_moment g c).After-write_group is_settled half_len m was changes may) (c.sync.ensures.time)

pub returns-clause-ready : goal.returns-clause-ready
returns-clause-ready g c is_settled half_len m was changes may =
    subst (λ (i : Image). IsReady g.K.Language half_len c.args.root.now (suc m) (c.args.site.first + c.in_ok-count.count) (g.K.Language.after was changes) i) (sym (c.in_ok-sync.ensures.reads))
    (appended_ready g.K.Language half_len c.args.root.now m c.args.site was c.args.bytes.now changes (g.D.Disk.reads c.args.disk.now) may c.in_ok-count.count (g.D.Disk.reads c.write_group.new.disk) (c.in_ok-count.ensures.written is_settled))

pub returns-in_err-sync-clause-elsewhere : goal.returns-in_err-sync-clause-elsewhere
returns-in_err-sync-clause-elsewhere g c m out = ap (λ (image : Image). image m) c.sync.ensures.reads ∙ c.write_group.ensures.elsewhere m out

pub returns-clause-elsewhere : goal.returns-clause-elsewhere
returns-clause-elsewhere g c m out = ap (λ (image : Image). image m) c.sync.ensures.reads ∙ c.write_group.ensures.elsewhere m out
