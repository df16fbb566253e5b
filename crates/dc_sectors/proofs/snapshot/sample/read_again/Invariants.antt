use Rattle.std.proofs.Common.{◌≡◌, ◌≤◌, take}
use Rattle.dc_sectors.specs.Readings.{calls_after}
use Rattle.dc_sectors.proofs.snapshot.sample.read_again.Given as goal

-- the readings so far were made again, and gave the same
abbrev pub invariant-readings : goal.invariant-readings
invariant-readings g l = record {
  calls : l.disk.calls ≡ calls_after (take l.i l.kept) l.fn.disk.calls;
  sectors : l.disk.sectors ≡ l.fn.disk.sectors;
  failures : l.fn.disk.failures ≤ l.disk.failures;
}
