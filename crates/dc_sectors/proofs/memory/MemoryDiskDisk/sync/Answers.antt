use Rattle.std.proofs.Common.{ap, rules, arith}
use Rattle.std.proofs.lemmas.Grind.{common_steps}
use Rattle.dc_sectors.specs.Memory.{Memory}
use Rattle.dc_sectors.specs.Disk.{settled}
use Rattle.dc_sectors.specs.Images.{image_within, settled_within}
use Rattle.dc_sectors.specs.Record.{image_of, reads_after, choices_after, reads_a_choice}
use Rattle.dc_sectors.specs.declared.event.Event.TheVariants.{Sync}
use Rattle.dc_sectors.proofs.Kept.{elapses_kept, elapses_pushed, reads_pushed, choices_pushed, kept_synced}
use Rattle.dc_sectors.proofs.memory.MemoryDiskDisk.sync.Goals as goal

pub returns-then-not-begin-clause-time : goal.returns-then-not-begin-clause-time
returns-then-not-begin-clause-time g c =
    let was = c.args.self.now in
    elapses_kept was.start c.self.inside.start.items was.events c.self.inside.events.items _ (ap (λ (d : Memory). d.start) c.self.view_is) (ap (λ (d : Memory). d.events) c.self.view_is)

pub returns-then-is_err-clause-time : goal.returns-then-is_err-clause-time
returns-then-is_err-clause-time g c =
    let was = c.args.self.now in
    elapses_kept was.start c.self.inside.start.items was.events c.push.new.self.items _ (ap (λ (d : Memory). d.start) c.self.view_is) (search rules)

pub invariant_of-self-2 : goal.invariant_of-self-2
invariant_of-self-2 g c =
    kept_synced c.self.inside.start.items c.self.inside.reads.items c.self.inside.writes.items c.self.inside.events.items c.push.new.self.items c.fill.new.self.items (search rules) (search rules) c.self.invariant

pub returns-clause-reads : goal.returns-clause-reads
returns-clause-reads g c =
    let was = c.args.self.now in
    reads_pushed was.start c.self.inside.start.items was.events c.push.new.self.items Sync (ap (λ (d : Memory). d.start) c.self.view_is) (search rules)

pub returns-clause-choices : goal.returns-clause-choices
returns-clause-choices g c =
    let was = c.args.self.now in
    choices_pushed was.start c.self.inside.start.items was.events c.push.new.self.items Sync (ap (λ (d : Memory). d.start) c.self.view_is) (search rules)

pub returns-clause-time : goal.returns-clause-time
returns-clause-time g c =
    let was = c.args.self.now in
    let start = image_of was.start in
    elapses_pushed was.start c.self.inside.start.items was.events c.push.new.self.items Sync _ (ap (λ (d : Memory). d.start) c.self.view_is) (search rules)
    (image_within (settled (reads_after start was.events)) (choices_after start was.events) (settled_within (choices_after start was.events) (reads_after start was.events) (reads_a_choice start was.events)))

pub returns-then-is_err-clause-exact : goal.returns-then-is_err-clause-exact
returns-then-is_err-clause-exact g c = grind (arith, common_steps)

pub returns-clause-counts : goal.returns-clause-counts
returns-clause-counts g c = grind (arith, common_steps)
