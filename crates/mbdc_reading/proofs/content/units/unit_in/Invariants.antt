use Rattle.std.proofs.Common.{◌≡◌, length, map}
use Rattle.mbdc_reading.specs.Units.{AreNarrow, row_of, unit_in}
use Rattle.mbdc_reading.proofs.content.units.unit_in.Given as goal

-- the rows that are left are narrow, too, and have the code's unit
abbrev pub invariant-loop-rows : goal.invariant-loop-rows
invariant-loop-rows l = AreNarrow (map (λ r. row_of r.0 r.1 r.2.now r.3.now r.4) l.rows)
    × (unit_in (map (λ r. row_of r.0 r.1 r.2.now r.3.now r.4) l.rows) l.code ≡ unit_in (map (λ r. row_of r.0 r.1 r.2.now r.3.now r.4) l.initial.rows) l.code)

abbrev pub decreases-loop-rows : goal.decreases-loop-rows
decreases-loop-rows l = length l.rows
