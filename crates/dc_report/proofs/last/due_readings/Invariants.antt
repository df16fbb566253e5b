use Rattle.std.proofs.Common.{◌≡◌}
use Rattle.std.specs.Prelude.{option_map}
use Rattle.std.specs.Option.{option_or}
use Rattle.std.specs.List.Sorted.{IsStrictlySortedBy}
use Rattle.std.specs.BTreeMap.{get, keys}
use Rattle.dc_meters.specs.declared.place.Place.{Place}
use Rattle.dc_meters.specs.Places.{place_cmp}
use Rattle.dc_report.proofs.LastReadings.{entry_at}
use Rattle.dc_report.proofs.last.due_readings.Given as goal

-- a place has its last entry: among those left, or otherwise among those so far
abbrev pub invariant-loop-meter : goal.invariant-loop-meter
invariant-loop-meter g l = record {
  ordered : IsStrictlySortedBy place_cmp (keys l.rows);
  found : (q : Place) → option_or (entry_at q l.meter-iterator) (option_map (λ r. r.now) (get place_cmp l.rows q)) ≡ entry_at q l.initial.meter-iterator;
}
