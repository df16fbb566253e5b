use Rattle.std.proofs.Common.{◌≡◌, ℕ, List, ◌++◌}
use Rattle.std.specs.List.{flat_map}
use Rattle.mbdc_change.specs.Encoding.{meter_bytes}
use Rattle.mbdc_io.specs.Written.{IsWritten}
use Rattle.dc_meters.proofs.house.encode.put_each_meter.Given as goal

-- those so far went in, and those that are left make the rest
abbrev pub invariant-loop-meter : goal.invariant-loop-meter
invariant-loop-meter g l = (front : List ℕ) × IsWritten g.S.Sink l.initial.sink l.sink front × (front ++ flat_map meter_bytes l.meter-iterator ≡ flat_map meter_bytes l.meters.entries)
