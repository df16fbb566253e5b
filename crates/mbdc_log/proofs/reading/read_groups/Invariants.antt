use Rattle.std.proofs.Common.{◌-◌, ◌≡◌, ◌≤◌}
use Rattle.dc_sectors.specs.Runs.{OnlyLooked, Counts}
use Rattle.mbdc_log.specs.Halves.{half_end, budget_of}
use Rattle.mbdc_log.specs.Stands.{IsReached}
use Rattle.mbdc_log.proofs.reading.read_groups.Given as goal

abbrev pub invariant-groups : goal.invariant-groups
invariant-groups g l = record {
  reached : g.D.Disk.keeps l.disk → (g.K.Language.limit l.fn.found.house) ≡ budget_of l.half_len
      → IsReached g.K.Language l.half_len l.fn.found.root l.fn.found.place l.fn.found.last (g.K.Language.state l.fn.found.house) (g.D.Disk.reads l.fn.disk)
      → IsReached g.K.Language l.half_len l.found.root l.found.place l.found.last (g.K.Language.state l.found.house) (g.D.Disk.reads l.fn.disk);
  root : l.found.root ≡ l.fn.found.root;
  budget : (g.K.Language.limit l.found.house) ≡ (g.K.Language.limit l.fn.found.house);
  from : l.fn.found.place ≤ l.found.place;
  within : l.found.place ≤ half_end l.half_len l.found.root.half;
  looked : OnlyLooked g.D.Disk l.fn.disk l.disk;
  counts : Counts g.D.Disk l.fn.disk l.disk ⊥;
}

abbrev pub decreases-groups : goal.decreases-groups
decreases-groups g l = half_end l.half_len l.fn.found.root.half - l.found.place
