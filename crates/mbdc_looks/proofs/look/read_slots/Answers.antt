use Rattle.dc_sectors.proofs.Moments.{looked_next}
use Rattle.mbdc_log.proofs.ReadMoments.{looked_never}
use Rattle.mbdc_looks.proofs.look.read_slots.Goals as goal

pub returns-in_err-first-clause-looked : goal.returns-in_err-first-clause-looked
returns-in_err-first-clause-looked g c =
    let disk = c.args.disk.now in
    let first = c.in_err-first.ensures in
    looked_next g.D.Disk disk disk c.read_slot.new.disk (looked_never g.D.Disk disk (g.met.D.Disk.only_now disk)) first.reads first.choices first.time first.before

pub returns-in_err-second-clause-looked : goal.returns-in_err-second-clause-looked
returns-in_err-second-clause-looked g c =
    let disk = c.args.disk.now in
    let first = c.in_ok-first.ensures in
    let second = c.in_err-second.ensures in
    looked_next g.D.Disk disk c.read_slot.new.disk c.read_slot-2.new.disk
    (looked_next g.D.Disk disk disk c.read_slot.new.disk (looked_never g.D.Disk disk (g.met.D.Disk.only_now disk)) first.reads first.choices first.time first.before)
    second.reads second.choices second.time second.before

pub returns-clause-looked : goal.returns-clause-looked
returns-clause-looked g c =
    let disk = c.args.disk.now in
    let first = c.in_ok-first.ensures in
    let second = c.in_ok-second.ensures in
    looked_next g.D.Disk disk c.read_slot.new.disk c.read_slot-2.new.disk
    (looked_next g.D.Disk disk disk c.read_slot.new.disk (looked_never g.D.Disk disk (g.met.D.Disk.only_now disk)) first.reads first.choices first.time first.before)
    second.reads second.choices second.time second.before
