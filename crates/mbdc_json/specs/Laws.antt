-- What the rows SILENT, ROOM and DAYS mean (this product).
use Rattle.std.specs.Prelude.{◌≡◌, ℕ, ◌+◌, ◌*◌, ◌≤◌, ◌<◌, true, Option, Some}
use Rattle.mbdc_change.specs.Size.{size_of}
use Rattle.mbdc_change.specs.State.{State}
use Rattle.mbdc_json.specs.Heard.{is_silent}
use Rattle.mbdc_shown.specs.Room.{bytes_a_reading, readings_left}
use Rattle.mbdc_json.specs.Status.{bytes_a_day, days_left, first_moment}

-- A silent meter of which something is held wasn't heard within the time.
abbrev pub SilentWasNotHeard : Type 0
SilentWasNotHeard = (patience now confirmed moment : ℕ) (failing : Option ℕ)
    → is_silent patience now confirmed failing (Some moment) ≡ true → moment + patience < now

-- Who is silent stays silent until something of it comes.
abbrev pub SilenceLasts : Type 0
SilenceLasts = (patience now later confirmed : ℕ) (failing heard : Option ℕ) → now ≤ later
    → is_silent patience now confirmed failing heard ≡ true
    → is_silent patience later confirmed failing heard ≡ true

-- ROOM: so many more readings of the size of those that are held keep the state within its budget.
abbrev pub RoomIsEnough : Type 0
RoomIsEnough = (budget readings : ℕ) (s : State) → size_of s ≤ budget
    → readings_left budget s ≡ Some readings → size_of s + readings * bytes_a_reading s ≤ budget

-- DAYS: what comes in so many days at this pace does so, too.
abbrev pub DaysLast : Type 0
DaysLast = (budget now days : ℕ) (s : State) → size_of s ≤ budget
    → days_left budget now s ≡ Some days
    → size_of s + days * bytes_a_day now s (first_moment s) ≤ budget
