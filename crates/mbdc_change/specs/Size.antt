-- The size of a state in bytes (this product): a fixed part, and a part for each meter, reading and
-- part of a readout.
use Rattle.std.specs.Prelude.{ℕ, ◌+◌, List, length, sum_by}
use Rattle.std.specs.Map.{values_of}
use Rattle.mbdc_change.specs.State.{State, MeterRow, PartRow, ReadingRow}

-- the fixed part: the size of a state without meters and readings
abbrev pub empty_size : ℕ
empty_size = 153

-- a part: eight bytes of its time stamp, a length byte, the body
abbrev pub part_size : PartRow → ℕ
part_size part = 9 + length part.body

-- the parts, without the byte of their number
abbrev pub parts_size : List PartRow → ℕ
parts_size parts = sum_by part_size parts

-- a meter: 12 bytes, its flat and its open parts
abbrev pub meter_size : MeterRow → ℕ
meter_size row = 12 + length row.flat + parts_size row.parts

-- a reading: 18 bytes, its flat and its parts
abbrev pub reading_size : ReadingRow → ℕ
reading_size reading = 18 + length reading.flat + parts_size reading.parts

-- the size of a state, which may not exceed the image's budget
abbrev pub size_of : State → ℕ
size_of s = empty_size + sum_by meter_size (values_of s.meters) + sum_by reading_size s.readings
