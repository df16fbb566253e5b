use Rattle.std.proofs.Common.{◌≡◌, ◌++◌}
use Rattle.std.specs.List.{flat_map}
use Rattle.dc_report.specs.Written.{so_far, IsAtLine}
use Rattle.dc_meters.specs.Places.{by_flat}
use Rattle.dc_report.specs.RegisterTable.{line_at}
use Rattle.dc_report.proofs.register.put_meters.Given as goal

-- the lines so far, and those of the places that are left, make the whole
abbrev pub invariant-loop-place : goal.invariant-loop-place
invariant-loop-place g l = record {
  can : (goal.iterator-loop-place g).can_next l.place-iterator;
  ends : (goal.iterator-loop-place g).is_finite l.place-iterator;
  ready : IsAtLine l.table;
  text : so_far (λ v. v.items) l.table ++ flat_map (line_at l.house.state) l.place-iterator ≡ so_far (λ v. v.items) l.initial.table ++ flat_map (line_at l.house.state) (by_flat l.house.state.meters);
}
