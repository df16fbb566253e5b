use Rattle.std.proofs.Common.{◌≡◌}
use Rattle.std.specs.Option.{option_or}
use Rattle.mbdc_json.specs.LatestValues.{last_of}
use Rattle.mbdc_json.proofs.latest.reading.last_reading.Given as goal

-- the last of those that are left, or else the last so far
abbrev pub invariant-loop-serial : goal.invariant-loop-serial
invariant-loop-serial g l = record {
  can : (goal.iterator-loop-serial g).can_next l.serial-iterator;
  ends : (goal.iterator-loop-serial g).is_finite l.serial-iterator;
  found : option_or (last_of l.serial-iterator) l.last ≡ last_of l.initial.serial-iterator;
}
