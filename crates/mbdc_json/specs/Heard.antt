-- When a meter was last heard (this product): the newest part of it that the image holds, in a reading or in a readout
-- that isn't finished.
use Rattle.std.specs.Prelude.{ℕ, ◌-◌, max, Bool, false, ◌||◌, ◌==◌, nat_lt, List, length, slice_get}
use Rattle.std.specs.Prelude.{Option, None, Some}
use Rattle.dc_address.specs.declared.identity.Identity.{Identity}
use Rattle.mbdc_change.specs.State.{State, MeterRow, ReadingRow, PartRow, row_of}
use Rattle.mbdc_json.specs.LatestValues.{last_part, last_reading}

abbrev pub last_of_parts : List PartRow → Option PartRow
last_of_parts parts = slice_get parts (length parts - 1)

-- the last part of the readout that isn't finished
abbrev pub open_part : Option MeterRow → Option PartRow
open_part None = None
open_part (Some row) = last_of_parts row.parts

-- the last part of a reading
abbrev pub part_in : Option ReadingRow → Option PartRow
part_in None = None
part_in (Some r) = last_part r

abbrev pub moment_of : Option PartRow → Option ℕ
moment_of None = None
moment_of (Some part) = Some part.moment

abbrev pub later : Option ℕ → Option ℕ → Option ℕ
later None b = b
later (Some a) None = Some a
later (Some a) (Some b) = Some (max a b)

-- THE MOMENT AT WHICH A METER WAS LAST HEARD
unfoldable pub heard : State → Identity → Option ℕ
heard s meter = later (moment_of (open_part (row_of meter s)))
    (moment_of (part_in (last_reading meter s)))

-- how many seconds ago; 0 where the clock is behind
abbrev pub ago : ℕ → ℕ → ℕ
ago now moment = now - moment

-- since a moment longer than that
abbrev pub is_long : ℕ → ℕ → Option ℕ → Bool
is_long patience now None = false
is_long patience now (Some moment) = nat_lt patience (ago now moment)

-- SILENT: not heard for longer than that. Where nothing of it is known, it was never read if the office has confirmed
-- nothing yet, or if its readouts have failed for longer than that, by the journal; else that isn't known, and it isn't
-- called silent.
abbrev pub is_silent : ℕ → ℕ → ℕ → Option ℕ → Option ℕ → Bool
is_silent patience now confirmed failing None = confirmed == 0 || is_long patience now failing
is_silent patience now confirmed failing (Some moment) = nat_lt patience (ago now moment)
