use Rattle.std.proofs.Common.{◌≡◌, length, map}
use Rattle.dc_records.specs.Codes.{name_in}
use Rattle.dc_records.proofs.names.codes.name_in.Given as goal

-- the rows that are left have the code's name
abbrev pub invariant-loop-rows : goal.invariant-loop-rows
invariant-loop-rows l = name_in (map (λ r. (r.0, r.1.now)) l.rows) l.code ≡ name_in (map (λ r. (r.0, r.1.now)) l.initial.rows) l.code

abbrev pub decreases-loop-rows : goal.decreases-loop-rows
decreases-loop-rows l = length l.rows
