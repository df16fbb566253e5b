use Rattle.std.proofs.Common.{◌≡◌, ℕ}
use Rattle.std.specs.Option.{option_or}
use Rattle.std.specs.Ordering.{nat_cmp}
use Rattle.std.specs.BTreeMap.{get}
use Rattle.dc_meters.specs.Points.{points_of}
use Rattle.dc_meters.specs.Due.{dated}
use Rattle.dc_meters.proofs.due.StorageDates.of.Given as goal

-- a storage number's day is what is kept of the points so far, or else what those that are left say
abbrev pub invariant-points : goal.invariant-points
invariant-points g l = record {
  can : (goal.iterator-points g).can_next l.point-iterator;
  ends : (goal.iterator-points g).is_finite l.point-iterator;
  days : (storage : ℕ) → option_or (get nat_cmp l.days storage) (dated storage l.point-iterator) ≡ dated storage (points_of l.parts);
}
