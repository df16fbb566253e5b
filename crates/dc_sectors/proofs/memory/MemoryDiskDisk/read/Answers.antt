use Rattle.std.proofs.Common.{ap}
use Rattle.dc_sectors.specs.Memory.{Memory}
use Rattle.dc_sectors.proofs.Kept.{elapses_kept}
use Rattle.dc_sectors.proofs.memory.MemoryDiskDisk.read.Goals as goal

pub returns-then-not-begin-clause-time : goal.returns-then-not-begin-clause-time
returns-then-not-begin-clause-time g c =
    let was = c.args.self.now in
    elapses_kept was.start c.self.inside.start.items was.events c.self.inside.events.items _ (ap (λ (d : Memory). d.start) c.self.view_is) (ap (λ (d : Memory). d.events) c.self.view_is)

pub returns-clause-time : goal.returns-clause-time
returns-clause-time g c =
    let was = c.args.self.now in
    elapses_kept was.start c.self.inside.start.items was.events c.self.inside.events.items _ (ap (λ (d : Memory). d.start) c.self.view_is) (ap (λ (d : Memory). d.events) c.self.view_is)
