use Rattle.std.proofs.Common.{◌≡◌, length, map}
use Rattle.mbdc_reading.specs.Vifes.{AreShort, row_of, vife_in}
use Rattle.mbdc_reading.proofs.vifes.vife_in.Given as goal

-- the rows that are left are short, too, and have the number's VIFE
abbrev pub invariant-loop-rows : goal.invariant-loop-rows
invariant-loop-rows l = AreShort (map (λ r. row_of r.0 r.1.now r.2 r.3.now) l.rows)
    × (vife_in (map (λ r. row_of r.0 r.1.now r.2 r.3.now) l.rows) l.number ≡ vife_in (map (λ r. row_of r.0 r.1.now r.2 r.3.now) l.initial.rows) l.number)

abbrev pub decreases-loop-rows : goal.decreases-loop-rows
decreases-loop-rows l = length l.rows
