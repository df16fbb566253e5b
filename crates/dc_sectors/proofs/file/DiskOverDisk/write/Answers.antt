use Rattle.std.proofs.Common.{◌≡◌, List, sym, subst}
use Rattle.std.specs.Prelude.{OnOk, OnErr, ◌⊎◌}
use Rattle.dc_sectors.specs.declared.sector.Sector.{Sector}
use Rattle.dc_sectors.specs.Disk.{IsImage, Elapses, put, added}
use Rattle.dc_sectors.specs.Record.{image_of}
use Rattle.dc_sectors.specs.File.{start_of, reads_in, choices_in, moment_in, images_in, KeepsRule}
use Rattle.dc_sectors.proofs.Filed.{reads_at, choices_at, images_at}
use Rattle.dc_sectors.proofs.Filed.{write_before, write_reads, write_elsewhere, write_choices, write_choices_err, write_time}
use Rattle.dc_sectors.proofs.file.DiskOverDisk.write.Goals as goal

pub returns-clause-before : goal.returns-clause-before
returns-clause-before g c keeps =
    let old = c.args.self.now in
    let new = c.write_sector.new.self in
    let same : new.start ≡ old.start = c.write_sector.ensures.start in
    let bytes = c.args.bytes.now in
    write_before (start_of old) old new c.args.n bytes c.write_sector.result c.write_sector.ensures.made (subst (λ (s : List Sector). KeepsRule (image_of s) new.calls) same keeps)

pub returns-clause-reads : goal.returns-clause-reads
returns-clause-reads g c =
    let old = c.args.self.now in
    let new = c.write_sector.new.self in
    let same : new.start ≡ old.start = c.write_sector.ensures.start in
    let bytes = c.args.bytes.now in
    subst (λ (s : List Sector). OnOk c.write_sector.result (reads_at (image_of s) new ≡ put (reads_in old) c.args.n bytes)) (sym same) (write_reads (start_of old) old new c.args.n bytes c.write_sector.result c.write_sector.ensures.made)

pub returns-clause-elsewhere : goal.returns-clause-elsewhere
returns-clause-elsewhere g c m other =
    let old = c.args.self.now in
    let new = c.write_sector.new.self in
    let same : new.start ≡ old.start = c.write_sector.ensures.start in
    let bytes = c.args.bytes.now in
    subst (λ (s : List Sector). reads_at (image_of s) new m ≡ reads_in old m) (sym same) (write_elsewhere (start_of old) old new c.args.n bytes c.write_sector.result c.write_sector.ensures.made m other)

pub returns-clause-choices : goal.returns-clause-choices
returns-clause-choices g c =
    let old = c.args.self.now in
    let new = c.write_sector.new.self in
    let same : new.start ≡ old.start = c.write_sector.ensures.start in
    let bytes = c.args.bytes.now in
    subst (λ (s : List Sector). OnOk c.write_sector.result (choices_at (image_of s) new ≡ added (choices_in old) c.args.n bytes)) (sym same) (write_choices (start_of old) old new c.args.n bytes c.write_sector.result c.write_sector.ensures.made)

pub returns-clause-choices_err : goal.returns-clause-choices_err
returns-clause-choices_err g c =
    let old = c.args.self.now in
    let new = c.write_sector.new.self in
    let same : new.start ≡ old.start = c.write_sector.ensures.start in
    let bytes = c.args.bytes.now in
    subst (λ (s : List Sector). OnErr c.write_sector.result ((choices_at (image_of s) new ≡ added (choices_in old) c.args.n bytes) ⊎ (choices_at (image_of s) new ≡ choices_in old))) (sym same) (write_choices_err (start_of old) old new c.args.n bytes c.write_sector.result c.write_sector.ensures.made)

pub returns-clause-time : goal.returns-clause-time
returns-clause-time g c =
    let old = c.args.self.now in
    let new = c.write_sector.new.self in
    let same : new.start ≡ old.start = c.write_sector.ensures.start in
    let bytes = c.args.bytes.now in
    subst (λ (s : List Sector). Elapses (moment_in old) (moment_in new) (images_in old) (images_at (image_of s) new) (IsImage (added (choices_in old) c.args.n bytes))) (sym same) (write_time (start_of old) old new c.args.n bytes c.write_sector.result c.write_sector.ensures.made)
