-- the parts so far are the same but for what they say, which is so
use Rattle.std.proofs.Common.{◌≡◌, ◌≤◌, map, take}
use Rattle.std.specs.Prelude.{All}
use Rattle.mbdc_audit.specs.Consumption.Order.{IsInOrder}
use Rattle.mbdc_audit.specs.Amount.{entries}
use Rattle.mbdc_audit.specs.View.{known_in, part_of, run_of}
use Rattle.mbdc_audit.specs.Walk.{AreGraded}
use Rattle.mbdc_audit.proofs.readings.counted.Given as goal

abbrev pub invariant-parts : goal.invariant-parts
invariant-parts g l = (map part_of l.counted.items ≡ map part_of (take l.part-index l.parts))
    × (IsInOrder (entries (map run_of l.runs) (known_in l.values)) → All (λ x. x.from ≤ x.to) l.counted.items
    → AreGraded (map run_of l.runs) (known_in l.values) l.counted.items)
