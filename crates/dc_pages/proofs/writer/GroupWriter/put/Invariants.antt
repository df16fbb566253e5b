use Rattle.std.proofs.Common.{◌≡◌, ◌<◌, ◌≤◌, ◌+◌, ◌-◌, ◌++◌, ℕ, List, length, take}
use Rattle.dc_pages.specs.Draft.{draft_len}
use Rattle.dc_pages.specs.PagesWriting.{SameOutside, IsGoing}
use Rattle.dc_pages.proofs.writer.GroupWriter.put.Given as goal

abbrev pub invariant-loop-at : goal.invariant-loop-at
invariant-loop-at g l = record {
  within : l.at ≤ length l.bytes;
  some : 0 < length l.fn.self.buffer + l.at → 0 < length l.self.buffer;
  length : draft_len l.self ≡ draft_len l.fn.self + l.at;
  same : l.self ≡ record l.fn.self { pages = l.self.pages; buffer = l.self.buffer };
  going : (start : g.row.D.Denot) (payload : List ℕ) → IsGoing g.D.Disk start l.fn.disk l.fn.self payload
      → IsGoing g.D.Disk start l.disk l.self (payload ++ take l.at l.bytes);
  elsewhere : SameOutside l.fn.self.site (g.D.Disk.reads l.fn.disk) (g.D.Disk.reads l.disk);
  before : g.D.Disk.keeps l.disk → g.D.Disk.keeps l.fn.disk;
  count : g.D.Disk.sectors l.disk ≡ g.D.Disk.sectors l.fn.disk;
  failures : g.D.Disk.failures l.disk ≡ g.D.Disk.failures l.fn.disk;
}

abbrev pub decreases-loop-at : goal.decreases-loop-at
decreases-loop-at g l = length l.bytes - l.at
