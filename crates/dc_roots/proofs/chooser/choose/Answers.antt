use Rattle.std.proofs.Common.{subst}
use Rattle.dc_sectors.specs.Disk.{Image, Choices, IsImage}
use Rattle.dc_sectors.proofs.Moments.{started, goes_on}
use Rattle.dc_roots.specs.Held.{IsHeld}
use Rattle.dc_roots.proofs.chooser.choose.Goals as goal

pub returns-clause-choice : goal.returns-clause-choice
returns-clause-choice g c h =
    let image = g.D.Disk.reads c.args.disk.now in
    c.newer.ensures.choice image (c.in-Ok.ensures.held (c.in-Ok-read_slot.ensures.before h))
    (subst (λ (i : Image). IsHeld 2 (i 2) c.in-Ok-read_slot.held) c.in-Ok.ensures.reads (c.in-Ok-read_slot.ensures.held h))

pub returns-clause-any_moment : goal.returns-clause-any_moment
returns-clause-any_moment g c =
    let disk = c.args.disk.now in
    let P = IsImage (g.D.Disk.choices disk) in
    let first = goes_on g.D.Disk disk disk c.read_slot.new.disk P _ (started g.D.Disk disk P (g.met.D.Disk.only_now disk)) (c.read_slot.ensures.time) (λ image is. is) in
    goes_on g.D.Disk disk c.read_slot.new.disk c.read_slot-2.new.disk P _ first (c.read_slot-2.ensures.time)
    (λ image is. subst (λ (d : Choices). IsImage d image) (c.in-Ok.ensures.choices) is)
