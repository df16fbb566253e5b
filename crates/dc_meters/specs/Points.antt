-- The data points of a reading (EN 13757-3): those of its parts' telegrams, in order of parts and records.
use Rattle.std.specs.Prelude.{List, [], ◌∷◌, Option, None, Some, Result, Ok, Err}
use Rattle.std.specs.List.{flat_map}
use Rattle.dc_records.specs.declared.fault.BodyFault.{BodyFault}
use Rattle.dc_records.specs.Record.{Entry}
use Rattle.dc_records.specs.Telegram.{Parsed, telegram_at}
use Rattle.dc_units.specs.declared.point.Seen.{Seen}
use Rattle.dc_units.specs.declared.point.Seen.TheVariants.{Point as Known, Other}
use Rattle.dc_units.specs.declared.point.Point.{Point}
use Rattle.dc_units.specs.Point.{seen_of}
use Rattle.mbdc_change.specs.State.{PartRow}

-- a record that isn't in the table of units has no point
abbrev pub shown : Seen → List Point
shown (Known p) = p ∷ []
shown Other = []

-- the points of a telegram's data records, in order
abbrev pub points_in : List Entry → List Point
points_in records = flat_map (λ r. shown (seen_of r)) records

-- the points of a decoded telegram; none where it can't be decoded
abbrev pub points_read : Result Parsed BodyFault → List Point
points_read (Ok telegram) = points_in telegram.records
points_read (Err fault) = []

-- the points of a readout's parts, in order
abbrev pub points_of : List PartRow → List Point
points_of parts = flat_map (λ part. points_read (telegram_at part.body)) parts

-- the points of the records left in the current telegram, if any
abbrev pub points_left : Option (List Entry) → List Point
points_left None = []
points_left (Some records) = points_in records
