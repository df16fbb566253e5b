use Rattle.std.proofs.Common.{◌≡◌}
use Rattle.mbdc_files.proofs.copied.read_all.Given as goal

-- the disk has as many sectors as it had
abbrev pub invariant-sectors : goal.invariant-sectors
invariant-sectors g l = g.D.Disk.sectors l.disk ≡ g.D.Disk.sectors l.fn.disk
