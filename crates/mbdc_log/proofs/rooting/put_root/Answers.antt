use Rattle.std.proofs.Common.{◌∙◌, ap, ◌<◌, ◌-◌, ◌^◌, arith}
use Rattle.dc_sectors.specs.Disk.{Image}
use Rattle.dc_sectors.specs.Runs.{LeavesOnly, IsSettled}
use Rattle.dc_sectors.proofs.Moments.{started, weakened}
use Rattle.dc_roots.specs.Choice.{IsRootWrite}
use Rattle.dc_roots.specs.Root.{next_of, root_bytes}
use Rattle.mbdc_log.proofs.ReadMoments.{synced_behind}
use Rattle.mbdc_log.proofs.RootWrite.{root_write, unwritten_root}
use Rattle.mbdc_log.proofs.rooting.put_root.Given.{Over}
use Rattle.mbdc_log.proofs.rooting.put_root.Goals.{After-write_next}
use Rattle.mbdc_log.proofs.rooting.put_root.Goals as goal

pub returns-then-root-clause-any_moment : goal.returns-then-root-clause-any_moment
returns-then-root-clause-any_moment g c is_settled =
    let disk = c.args.disk.now in
    started g.D.Disk disk _
    (λ image left. unwritten_root (next_of c.args.root.now) (g.D.Disk.reads disk) image (g.D.Disk.choices disk) is_settled (g.met.D.Disk.only_now disk image left))

-- whatever the write answers
written : (g : Over) (c : After-write_next g) → IsSettled g.D.Disk c.args.disk.now
    → LeavesOnly g.D.Disk c.args.disk.now c.write_next.new.disk (IsRootWrite (next_of c.args.root.now) (g.D.Disk.reads c.args.disk.now))
written g c is_settled =
    let disk = c.args.disk.now in
    let next = next_of c.args.root.now in
    let lt : c.args.root.now.generation < 2 ^ 64 - 1 = omega arith in
    weakened g.D.Disk disk c.write_next.new.disk _ _ (c.write_next.ensures.any_moment)
    (λ image is. root_write next (root_bytes next) (g.D.Disk.reads disk) image (g.D.Disk.choices disk) (c.write_next.ensures.is_root lt) is_settled is)

pub returns-in_err-next-clause-any_moment : goal.returns-in_err-next-clause-any_moment
returns-in_err-next-clause-any_moment g c is_settled = written g (goal.at.returns-in_err-next-clause-any_moment g c).After-write_next is_settled

pub returns-in-Ok-clause-any_moment : goal.returns-in-Ok-clause-any_moment
returns-in-Ok-clause-any_moment g c is_settled =
    synced_behind g.D.Disk c.args.disk.now c.write_next.new.disk c.sync.new.self _ (g.met.D.Disk.counts_now c.write_next.new.disk)
    (written g (goal.at.returns-in-Ok-clause-any_moment g c).After-write_next is_settled) (c.sync.ensures.time)

pub returns-in-Err-clause-any_moment : goal.returns-in-Err-clause-any_moment
returns-in-Err-clause-any_moment g c is_settled =
    synced_behind g.D.Disk c.args.disk.now c.write_next.new.disk c.sync.new.self _ (g.met.D.Disk.counts_now c.write_next.new.disk)
    (written g (goal.at.returns-in-Err-clause-any_moment g c).After-write_next is_settled) (c.sync.ensures.time)

pub returns-in-Ok-clause-elsewhere : goal.returns-in-Ok-clause-elsewhere
returns-in-Ok-clause-elsewhere g c m other = ap (λ (image : Image). image m) c.sync.ensures.reads ∙ c.write_next.ensures.elsewhere m other

pub returns-in-Err-clause-elsewhere : goal.returns-in-Err-clause-elsewhere
returns-in-Err-clause-elsewhere g c m other = ap (λ (image : Image). image m) c.sync.ensures.reads ∙ c.write_next.ensures.elsewhere m other
