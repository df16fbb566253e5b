use Rattle.std.proofs.Common.{◌≡◌}
use Rattle.mbdc_fit.specs.Plan.{holder_in}
use Rattle.mbdc_fit.proofs.list.verdict.holder.Given as goal

-- none of those so far
abbrev pub invariant-meters : goal.invariant-meters
invariant-meters g l = record {
  can : (goal.iterator-meters g).can_next l.meter-iterator;
  ends : (goal.iterator-meters g).is_finite l.meter-iterator;
  rest : holder_in l.line l.address l.meter-iterator ≡ holder_in l.line l.address l.house.state.meters;
}
