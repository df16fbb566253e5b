use Rattle.std.proofs.Common.{◌≤◌}
use Rattle.dc_sectors.specs.Runs.{OnlyLooked, Counts}
use Rattle.mbdc_log.specs.Greatest.{IsGreatestBefore}
use Rattle.mbdc_log.proofs.greatest.greatest_of.Given as goal

abbrev pub invariant-loop-n : goal.invariant-loop-n
invariant-loop-n g l = record {
  from : 3 ≤ l.n;
  greatest : g.D.Disk.keeps l.disk → IsGreatestBefore l.n l.greatest (g.D.Disk.reads l.fn.disk);
  looked : OnlyLooked g.D.Disk l.fn.disk l.disk;
  counts : Counts g.D.Disk l.fn.disk l.disk ⊥;
}
