use Rattle.std.proofs.Common.{◌≡◌, ℕ, List, ◌++◌}
use Rattle.std.specs.List.{flat_map}
use Rattle.std.specs.VecDeque.Iter.{deque_iter_rest}
use Rattle.mbdc_change.specs.Encoding.{reading_bytes}
use Rattle.mbdc_io.specs.Written.{IsWritten}
use Rattle.dc_meters.proofs.house.encode.put_each_reading.Given as goal

-- those so far went in, and those that are left make the rest
abbrev pub invariant-loop-reading : goal.invariant-loop-reading
invariant-loop-reading g l =
    (front : List ℕ) × IsWritten g.S.Sink l.initial.sink l.sink front × (front ++ flat_map reading_bytes (deque_iter_rest l.reading-iterator) ≡ flat_map reading_bytes l.readings.items)
