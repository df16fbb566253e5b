use Rattle.std.proofs.Common.{◌≤◌, ◌+◌}
use Rattle.dc_sectors.specs.Runs.{OnlyLooked, Counts}
use Rattle.mbdc_log.proofs.Ahead.{NoneBefore}
use Rattle.mbdc_log.proofs.freshness.first_ahead_of.Given as goal

abbrev pub invariant-loop-n : goal.invariant-loop-n
invariant-loop-n g l = record {
  from : 3 ≤ l.n;
  none : g.D.Disk.keeps l.disk → NoneBefore l.session (l.last + 1) l.n (g.D.Disk.reads l.fn.disk);
  looked : OnlyLooked g.D.Disk l.fn.disk l.disk;
  counts : Counts g.D.Disk l.fn.disk l.disk ⊥;
}
