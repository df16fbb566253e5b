use Rattle.std.proofs.Common.{◌≡◌, sym, subst}
use Rattle.dc_sectors.specs.Disk.{Image, IsImage}
use Rattle.mbdc_log.specs.Halves.{half_of}
use Rattle.dc_core.specs.PendingImages.{Stands, Reads}
use Rattle.mbdc_log.proofs.Life.{close_open}
use Rattle.dc_meters.specs.Language.{register}
use Rattle.dc_core.proofs.concentrator.Concentrator.close.Goals as goal

pub returns-clause-holds : goal.returns-clause-holds
returns-clause-holds g c origin h core at runs =
    let disk : c.close.result ≡ c.args.self.store.disk = cc in
    subst (λ (d : g.row.D.Denot). (image : Image) → IsImage (g.D.Disk.choices d) image → Stands (half_of g.D.Disk d) core.committed image) (sym disk) (at.stands h runs)

pub returns-clause-reads : goal.returns-clause-reads
returns-clause-reads g c origin h core at runs state read =
    let disk : c.close.result ≡ c.args.self.store.disk = cc in
    let there = subst (λ (d : g.row.D.Denot). Reads (half_of g.D.Disk d) state (g.D.Disk.reads d)) disk read in
    close_open register g.D.Disk c.args.self.store core.committed state (at.keeps h runs) there
