-- The last reading of a meter that has a value for a date, as a loop over the readings finds it.
use Rattle.std.specs.Prelude.{◌&&◌, if◌then◌else◌, List, [], ◌∷◌, Option, None, Some}
use Rattle.std.specs.Option.{option_or}
use Rattle.std.specs.Ordering.{is_eq}
use Rattle.dc_address.specs.declared.identity.Identity.{Identity}
use Rattle.dc_address.specs.Identity.{identity_cmp}
use Rattle.dc_units.specs.Date.{Day}
use Rattle.mbdc_change.specs.State.{ReadingRow}
use Rattle.dc_meters.specs.Due.{has_value}

abbrev pub last_of : Day → Identity → List ReadingRow → Option ReadingRow
last_of date meter [] = None
last_of date meter (r ∷ readings) =
    option_or (last_of date meter readings)
    (if is_eq (identity_cmp meter r.meter) && has_value date r then Some r else None)
