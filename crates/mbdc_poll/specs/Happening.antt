-- What happens in a poll, and its events (this product).
use Rattle.std.specs.Prelude.{ℕ, ◌+◌, ◌-◌, Bool, false, ◌==◌, true, List, [], ◌∷◌}
use Rattle.std.specs.Prelude.{flat_map, length, slice_get, if◌then◌else◌, Option, None, Some}
use Rattle.dc_address.specs.declared.identity.Identity.{Identity}
use Rattle.mbdc_change.specs.State.{State, ReadingRow, PartRow}
use Rattle.dc_core.specs.Event.{Event, starts, asks, hears, commits, offices}
use Rattle.dc_core.specs.Transcript.{Turn}
use Rattle.dc_meters.specs.Orders.{reading_of, serials_of}
use Rattle.mbdc_shown.specs.Stand.{bodies_of}
use Rattle.mbdc_poll.specs.declared.event.Event.{Event as Told}
use Rattle.mbdc_poll.specs.declared.event.Event.TheVariants.{Read as was_read, Failed as has_failed}
use Rattle.mbdc_poll.specs.declared.event.Event.TheVariants.{Refused as was_refused, Lost as is_lost}
use Rattle.mbdc_poll.specs.declared.event.Event.TheVariants.{Late as came_late, End as has_ended}

-- a turn of the concentrator, or an event about a line
pub data Happening : Type 0 where
  does : Turn → Happening
  tells : ℕ → Told → Happening

-- ---- the events

abbrev pub events_of : Happening → List Told
events_of (does turn) = []
events_of (tells line told) = told ∷ []

abbrev pub happened_events : List Happening → List Told
happened_events happened = flat_map events_of happened

-- ---- its turns, and what is on one line

abbrev pub turns_of : Happening → List Turn
turns_of (does turn) = turn ∷ []
turns_of (tells line told) = []

abbrev pub happened_turns : List Happening → List Turn
happened_turns happened = flat_map turns_of happened

-- an event is on its line, and a commit on each
abbrev pub is_on : ℕ → Event → Bool
is_on line (starts other meter) = other == line
is_on line (asks other) = other == line
is_on line (hears other moment bytes) = other == line
is_on line commits = true
is_on line (offices text) = false

abbrev pub kept_on : ℕ → Happening → List Happening
kept_on line (does turn) = if is_on line turn.0 then does turn ∷ [] else []
kept_on line (tells other told) = if other == line then tells other told ∷ [] else []

abbrev pub happened_on : ℕ → List Happening → List Happening
happened_on line happened = flat_map (kept_on line) happened

-- ---- how many were read, and how many not

abbrev pub counts_read : Happening → ℕ
counts_read (does turn) = 0
counts_read (tells line (was_read meter serial parts last)) = 1
counts_read (tells line (has_failed at meter why brought)) = 0
counts_read (tells line (was_refused meter refusal)) = 0
counts_read (tells line (is_lost lost)) = 0
counts_read (tells line (came_late late answers)) = 0
counts_read (tells line (has_ended read failed)) = 0

abbrev pub counts_failed : Happening → ℕ
counts_failed (does turn) = 0
counts_failed (tells line (was_read meter serial parts last)) = 0
counts_failed (tells line (has_failed at meter why brought)) = 1
counts_failed (tells line (was_refused meter refusal)) = 1
counts_failed (tells line (is_lost lost)) = 0
counts_failed (tells line (came_late late answers)) = 0
counts_failed (tells line (has_ended read failed)) = 0

abbrev pub reads_in : List Happening → ℕ
reads_in [] = 0
reads_in (happening ∷ more) = counts_read happening + reads_in more

abbrev pub failures_in : List Happening → ℕ
failures_in [] = 0
failures_in (happening ∷ more) = counts_failed happening + failures_in more

-- ---- a meter's newest reading

abbrev pub last_of : ℕ → List ℕ → ℕ
last_of n [] = n
last_of n (serial ∷ serials) = last_of serial serials

-- its serial; 0 if there isn't one
abbrev pub newest_serial : Identity → State → ℕ
newest_serial meter state = last_of 0 (serials_of meter state.readings)

abbrev pub bodies_in : Option ReadingRow → List (List ℕ)
bodies_in None = []
bodies_in (Some reading) = bodies_of reading.parts

-- the bodies of its telegrams
abbrev pub newest_bodies : Identity → State → List (List ℕ)
newest_bodies meter state = bodies_in (reading_of (newest_serial meter state) state.readings)

abbrev pub last_in : Option ReadingRow → Option PartRow
last_in None = None
last_in (Some reading) = slice_get reading.parts (length reading.parts - 1)

-- its last part
abbrev pub newest_last : Identity → State → Option PartRow
newest_last meter state = last_in (reading_of (newest_serial meter state) state.readings)
