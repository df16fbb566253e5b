use Rattle.std.proofs.Common.{◌≡◌, ◌++◌}
use Rattle.std.specs.Prelude.{map}
use Rattle.std.specs.Map.{keys_of}
use Rattle.mbdc_poll.proofs.image.asked_for.Given as goal

-- those so far, and those that are left, make the whole
abbrev pub invariant-meters : goal.invariant-meters
invariant-meters g l = record {
  can : (goal.iterator-meters g).can_next l.meter-iterator;
  ends : (goal.iterator-meters g).is_finite l.meter-iterator;
  all : l.all.items ++ map (λ row. row.0) l.meter-iterator ≡ keys_of l.house.state.meters;
}
