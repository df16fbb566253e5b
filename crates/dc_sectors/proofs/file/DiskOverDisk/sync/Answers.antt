use Rattle.std.proofs.Common.{◌≡◌, List, sym, subst}
use Rattle.std.specs.Prelude.{OnOk, OnErr}
use Rattle.dc_sectors.specs.declared.sector.Sector.{Sector}
use Rattle.dc_sectors.specs.Disk.{IsImage, Elapses, settled}
use Rattle.dc_sectors.specs.Record.{image_of}
use Rattle.dc_sectors.specs.File.{start_of, reads_in, choices_in, moment_in, images_in, KeepsRule}
use Rattle.dc_sectors.proofs.Filed.{reads_at, choices_at, images_at}
use Rattle.dc_sectors.proofs.Filed.{sync_before, sync_reads, sync_choices, sync_choices_err, sync_time}
use Rattle.dc_sectors.proofs.file.DiskOverDisk.sync.Goals as goal

pub returns-clause-before : goal.returns-clause-before
returns-clause-before g c keeps =
    let old = c.args.self.now in
    let new = c.sync_sectors.new.self in
    let same : new.start ≡ old.start = c.sync_sectors.ensures.start in
    sync_before (start_of old) old new c.sync_sectors.result c.sync_sectors.ensures.made (subst (λ (s : List Sector). KeepsRule (image_of s) new.calls) same keeps)

pub returns-clause-reads : goal.returns-clause-reads
returns-clause-reads g c =
    let old = c.args.self.now in
    let new = c.sync_sectors.new.self in
    let same : new.start ≡ old.start = c.sync_sectors.ensures.start in
    subst (λ (s : List Sector). reads_at (image_of s) new ≡ reads_in old) (sym same) (sync_reads (start_of old) old new c.sync_sectors.result c.sync_sectors.ensures.made)

pub returns-clause-choices : goal.returns-clause-choices
returns-clause-choices g c =
    let old = c.args.self.now in
    let new = c.sync_sectors.new.self in
    let same : new.start ≡ old.start = c.sync_sectors.ensures.start in
    subst (λ (s : List Sector). OnOk c.sync_sectors.result (choices_at (image_of s) new ≡ settled (reads_in old))) (sym same) (sync_choices (start_of old) old new c.sync_sectors.result c.sync_sectors.ensures.made)

pub returns-clause-choices_err : goal.returns-clause-choices_err
returns-clause-choices_err g c =
    let old = c.args.self.now in
    let new = c.sync_sectors.new.self in
    let same : new.start ≡ old.start = c.sync_sectors.ensures.start in
    subst (λ (s : List Sector). OnErr c.sync_sectors.result (choices_at (image_of s) new ≡ choices_in old)) (sym same) (sync_choices_err (start_of old) old new c.sync_sectors.result c.sync_sectors.ensures.made)

pub returns-clause-time : goal.returns-clause-time
returns-clause-time g c =
    let old = c.args.self.now in
    let new = c.sync_sectors.new.self in
    let same : new.start ≡ old.start = c.sync_sectors.ensures.start in
    subst (λ (s : List Sector). Elapses (moment_in old) (moment_in new) (images_in old) (images_at (image_of s) new) (IsImage (choices_in old))) (sym same) (sync_time (start_of old) old new c.sync_sectors.result c.sync_sectors.ensures.made)
