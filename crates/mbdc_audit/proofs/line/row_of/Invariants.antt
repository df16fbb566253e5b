use Rattle.std.proofs.Common.{◌≡◌, length, map}
use Rattle.std.specs.Prelude.{find}
use Rattle.std.specs.Str.{bytes_eq}
use Rattle.mbdc_audit.specs.Line.{rule_of, rules}
use Rattle.mbdc_audit.proofs.line.row_of.Given as goal

-- the rows that are left have the word's row, too
abbrev pub invariant-rows : goal.invariant-rows
invariant-rows l = find (λ r. bytes_eq l.word r.word) (map (λ r. rule_of r.0.now r.1 r.2 r.3.now) l.rows)
    ≡ find (λ r. bytes_eq l.word r.word) rules

abbrev pub decreases-rows : goal.decreases-rows
decreases-rows l = length l.rows
