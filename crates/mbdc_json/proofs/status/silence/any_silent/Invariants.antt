use Rattle.std.proofs.Common.{◌≡◌}
use Rattle.std.specs.List.{list_any}
use Rattle.dc_meters.specs.declared.place.Place.{Place}
use Rattle.mbdc_json.specs.Row.{row_at}
use Rattle.mbdc_json.specs.Status.{any_silent}
use Rattle.mbdc_json.proofs.status.silence.any_silent.Given as goal

-- none of those so far is silent
abbrev pub invariant-loop-place : goal.invariant-loop-place
invariant-loop-place g l = record {
  can : (goal.iterator-loop-place g).can_next l.place-iterator;
  ends : (goal.iterator-loop-place g).is_finite l.place-iterator;
  rest : list_any (λ (place : Place). (row_at l.clock.patience l.clock.now l.journal l.house.state place).is_silent) l.place-iterator ≡ any_silent l.clock.patience l.clock.now l.journal l.house.state;
}
