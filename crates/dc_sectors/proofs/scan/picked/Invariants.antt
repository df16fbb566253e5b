use Rattle.std.proofs.Common.{◌≡◌, ◌≤◌, ℕ, take}
use Rattle.dc_sectors.specs.declared.sector.Sector.{Sector}
use Rattle.dc_sectors.specs.Record.{reads_after, choices_after, writes_after}
use Rattle.dc_sectors.specs.Scan.{IsScan}
use Rattle.dc_sectors.proofs.scan.picked.Given as goal

abbrev pub invariant-loop-event : goal.invariant-loop-event
invariant-loop-event l =
    let before = take l.event-index l.events in
    record {
      is : (image : ℕ → Sector) → image l.n ≡ l.fn.start → IsScan (reads_after image before) (choices_after image before) (writes_after before) l.n l.pick l.scan;
      small : l.scan.writes ≤ l.event-index;
    }
