use Rattle.std.specs.List.{flat_map}
use Rattle.std.proofs.Common.{take}
use Rattle.mbdc_change.specs.Encoding.{part_bytes}
use Rattle.mbdc_io.specs.Written.{IsWritten}
use Rattle.dc_meters.proofs.parts.put_each_part.Given as goal

-- those so far went in
abbrev pub invariant-loop-part : goal.invariant-loop-part
invariant-loop-part g l = IsWritten g.S.Sink l.initial.sink l.sink (flat_map part_bytes (take l.part-index l.parts))
