use Rattle.std.proofs.Common.{◌≡◌, ◌<◌, ℕ}
use Rattle.mbdc_files.proofs.copied.copy_sectors.Given as goal

-- the sectors so far have their copies
abbrev pub invariant-loop-n : goal.invariant-loop-n
invariant-loop-n g l = record {
  same : g.C.Disk.keeps l.copy → (k : ℕ) → k < l.n → g.D.Disk.reads l.new k ≡ g.C.Disk.reads l.fn.copy k;
  reads : g.C.Disk.reads l.copy ≡ g.C.Disk.reads l.fn.copy;
  before : g.C.Disk.keeps l.copy → g.C.Disk.keeps l.fn.copy;
  count : g.C.Disk.sectors l.copy ≡ g.C.Disk.sectors l.fn.copy;
  size : g.D.Disk.sectors l.new ≡ g.D.Disk.sectors l.fn.new;
}
