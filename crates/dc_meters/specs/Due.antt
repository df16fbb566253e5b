-- The due-date value of a reading: the values that a meter stored at a due date, with the date that it sends along
-- (OMS Volume 2, due-date values; EN 13757-3, storage numbers).
use Rattle.std.specs.Prelude.{◌≡◌, ℕ, Bool, false, not, ◌&&◌, ◌==◌, nat_le, if◌then◌else◌, List, []}
use Rattle.std.specs.Prelude.{◌∷◌, filter, Option, None, Some}
use Rattle.std.specs.Option.{option_or}
use Rattle.std.specs.List.{filter_map, list_any}
use Rattle.std.specs.Ordering.{nat_cmp, ordering_then}
use Rattle.std.specs.declared.cmp.Ordering.{Ordering}
use Rattle.std.specs.BTreeMap.{BTreeMap, get}
use Rattle.dc_units.specs.declared.point.Point.{Point}
use Rattle.dc_units.specs.Quantity.{is_time_point}
use Rattle.dc_units.specs.Date.{Day}
use Rattle.dc_units.specs.Value.{day_of}
use Rattle.mbdc_change.specs.State.{ReadingRow}
use Rattle.dc_meters.specs.Points.{points_of}

-- A date, or a date and time, of function 0, tariff 0 and subunit 0 gives its storage number a day.
abbrev pub is_dating : Point → Bool
is_dating p = is_time_point p.quantity && (p.function == 0 && (p.tariff == 0 && p.subunit == 0))

-- the day of a point that dates its storage number, if its value is a day
abbrev pub dating_day : Point → Option Day
dating_day p = if is_dating p then day_of p.value else None

-- the day that a point gives this storage number
abbrev pub day_for : ℕ → Point → Option Day
day_for storage p = if p.storage == storage then dating_day p else None

-- the day of a storage number: the first day that a point gives it
abbrev pub dated : ℕ → List Point → Option Day
dated storage [] = None
dated storage (p ∷ ps) = option_or (day_for storage p) (dated storage ps)

-- a stored value: no date, and not of storage 0, which is the current one
abbrev pub is_stored : Point → Bool
is_stored p = not (is_time_point p.quantity) && nat_le 1 p.storage

-- the day at which a point's value was stored, as given by the points of its reading
abbrev pub due_day : List Point → Point → Option Day
due_day points p = if is_stored p then dated p.storage points else None

-- the same year, month and day
abbrev pub same_day : Day → Day → Bool
same_day a b = (a.year == b.year) && ((a.month == b.month) && (a.day == b.day))

-- the order of dates
abbrev pub day_cmp : Day → Day → Ordering
day_cmp a b = ordering_then (nat_cmp a.year b.year)
    (ordering_then (nat_cmp a.month b.month) (nat_cmp a.day b.day))

-- there is a day, and it is the date
abbrev pub is_on : Day → Option Day → Bool
is_on date None = false
is_on date (Some day) = same_day day date

-- the due-date value for a date
abbrev pub is_due : Day → List Point → Point → Bool
is_due date points p = is_on date (due_day points p)

-- the points that were stored at the date
abbrev pub due_value : Day → List Point → List Point
due_value date points = filter (is_due date points) points

-- the days that have a due-date value: the day of each of its points, so a day may occur more than
-- once
abbrev pub due_days : List Point → List Day
due_days points = filter_map (due_day points) points

-- a reading that has a due-date value for the date
abbrev pub has_value : Day → ReadingRow → Bool
has_value date r = list_any (is_due date (points_of r.parts)) (points_of r.parts)

-- ---- the days of a readout's storage numbers, looked up once

-- the map holds the day of each storage number
pub record AreDays (points : List Point) (days : BTreeMap ℕ Day) : Type 0 where
  pub each : (storage : ℕ) → get nat_cmp days storage ≡ dated storage points
