use Rattle.std.proofs.Common.{◌≡◌, ◌++◌}
use Rattle.std.specs.Prelude.{map, filter}
use Rattle.dc_meters.specs.Means.{has_number, having}
use Rattle.dc_meters.proofs.named.meaning.having.Given as goal

-- those so far, and those that are left, make the whole
abbrev pub invariant-meters : goal.invariant-meters
invariant-meters g l = record {
  can : (goal.iterator-meters g).can_next l.meter-iterator;
  ends : (goal.iterator-meters g).is_finite l.meter-iterator;
  all : l.meters.items ++ filter (has_number l.digits) (map (λ row. row.0) l.meter-iterator) ≡ having l.digits l.house.state;
}
