use Rattle.std.proofs.Common.{◌≡◌, length, map}
use Rattle.mbdc_reading.specs.Codes.{AreNarrow, row_of, code_in}
use Rattle.mbdc_reading.proofs.codes.code_in.Given as goal

-- the rows that are left are narrow, too, and have the number's code
abbrev pub invariant-loop-rows : goal.invariant-loop-rows
invariant-loop-rows l = AreNarrow (map (λ r. row_of r.0 r.1 r.2.now r.3.now r.4 r.5) l.rows)
    × (code_in (map (λ r. row_of r.0 r.1 r.2.now r.3.now r.4 r.5) l.rows) l.number ≡ code_in (map (λ r. row_of r.0 r.1 r.2.now r.3.now r.4 r.5) l.initial.rows) l.number)

abbrev pub decreases-loop-rows : goal.decreases-loop-rows
decreases-loop-rows l = length l.rows
