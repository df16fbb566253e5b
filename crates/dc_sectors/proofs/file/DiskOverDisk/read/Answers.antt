use Rattle.std.proofs.Common.{◌≡◌, List, sym, subst}
use Rattle.dc_sectors.specs.declared.sector.Sector.{Sector}
use Rattle.dc_sectors.specs.Disk.{IsImage, Elapses}
use Rattle.dc_sectors.specs.Record.{image_of}
use Rattle.dc_sectors.specs.File.{start_of, reads_in, choices_in, moment_in, images_in, KeepsRule}
use Rattle.dc_sectors.proofs.Filed.{reads_at, choices_at, images_at}
use Rattle.dc_sectors.proofs.Filed.{read_kept, read_before, read_reads, read_choices, read_time}
use Rattle.dc_sectors.proofs.file.DiskOverDisk.read.Goals as goal

pub returns-clause-answer : goal.returns-clause-answer
returns-clause-answer g c keeps =
    let old = c.args.self.now in
    let new = c.read_sector.new.self in
    let same : new.start ≡ old.start = c.read_sector.ensures.start in
    read_kept (start_of old) old new c.args.n c.read_sector.result c.read_sector.ensures.made (subst (λ (s : List Sector). KeepsRule (image_of s) new.calls) same keeps)

pub returns-clause-before : goal.returns-clause-before
returns-clause-before g c keeps =
    let old = c.args.self.now in
    let new = c.read_sector.new.self in
    let same : new.start ≡ old.start = c.read_sector.ensures.start in
    read_before (start_of old) old new c.args.n c.read_sector.result c.read_sector.ensures.made (subst (λ (s : List Sector). KeepsRule (image_of s) new.calls) same keeps)

pub returns-clause-reads : goal.returns-clause-reads
returns-clause-reads g c =
    let old = c.args.self.now in
    let new = c.read_sector.new.self in
    let same : new.start ≡ old.start = c.read_sector.ensures.start in
    subst (λ (s : List Sector). reads_at (image_of s) new ≡ reads_in old) (sym same) (read_reads (start_of old) old new c.args.n c.read_sector.result c.read_sector.ensures.made)

pub returns-clause-choices : goal.returns-clause-choices
returns-clause-choices g c =
    let old = c.args.self.now in
    let new = c.read_sector.new.self in
    let same : new.start ≡ old.start = c.read_sector.ensures.start in
    subst (λ (s : List Sector). choices_at (image_of s) new ≡ choices_in old) (sym same) (read_choices (start_of old) old new c.args.n c.read_sector.result c.read_sector.ensures.made)

pub returns-clause-time : goal.returns-clause-time
returns-clause-time g c =
    let old = c.args.self.now in
    let new = c.read_sector.new.self in
    let same : new.start ≡ old.start = c.read_sector.ensures.start in
    subst (λ (s : List Sector). Elapses (moment_in old) (moment_in new) (images_in old) (images_at (image_of s) new) (IsImage (choices_in old))) (sym same) (read_time (start_of old) old new c.args.n c.read_sector.result c.read_sector.ensures.made)
