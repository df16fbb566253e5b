use Rattle.std.proofs.Common.{◌≡◌, ◌⊎◌, ◌<◌, ◌≤◌, ℕ}
use Rattle.dc_sectors.specs.Runs.{LeavesOnly, IsSettled}
use Rattle.mbdc_log.specs.Stands.{blank, IsWiped}
use Rattle.mbdc_log.proofs.Wiped.{WipedChoices}
use Rattle.mbdc_log.proofs.formatting.blank_sectors.Given as goal

abbrev pub invariant-loop-n : goal.invariant-loop-n
invariant-loop-n g l = record {
  blanks : (k : ℕ) → 1 ≤ k → k < l.n → g.D.Disk.reads l.disk k ≡ blank;
  choices : IsSettled g.D.Disk l.fn.disk → WipedChoices (g.D.Disk.reads l.fn.disk) (g.D.Disk.choices l.disk);
  any_moment : IsSettled g.D.Disk l.fn.disk → LeavesOnly g.D.Disk l.fn.disk l.disk (IsWiped (g.D.Disk.reads l.fn.disk));
  elsewhere : (m : ℕ) → (m < 1) ⊎ (l.end ≤ m) → g.D.Disk.reads l.disk m ≡ g.D.Disk.reads l.fn.disk m;
  before : g.D.Disk.keeps l.disk → g.D.Disk.keeps l.fn.disk;
  count : g.D.Disk.sectors l.disk ≡ g.D.Disk.sectors l.fn.disk;
  failures : g.D.Disk.failures l.disk ≡ g.D.Disk.failures l.fn.disk;
}
