use Rattle.std.proofs.Common.{◌≡◌, ◌+◌}
use Rattle.dc_sectors.specs.Runs.{OnlyLooked, Counts}
use Rattle.dc_pages.specs.Group.{site_of}
use Rattle.dc_pages.specs.Reading.{IsBegun}
use Rattle.dc_pages.proofs.reader.read_group.Given as goal

abbrev pub invariant-loop-at : goal.invariant-loop-at
invariant-loop-at g l = record {
  at : l.at ≡ l.place + l.reading.pages;
  site : l.reading.site ≡ site_of l.place l.limit l.kind l.version l.sequence;
  begun : g.D.Disk.keeps l.disk → IsBegun (site_of l.place l.limit l.kind l.version l.sequence) l.reading.session l.reading.payload.items l.reading.pages (g.D.Disk.reads l.fn.disk);
  looked : OnlyLooked g.D.Disk l.fn.disk l.disk;
  counts : Counts g.D.Disk l.fn.disk l.disk ⊥;
}
