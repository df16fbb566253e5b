-- When a poll may sleep (this product).
use Rattle.std.specs.Prelude.{Bool, true, false, ◌&&◌, ◌||◌, ◌==◌, List, length}
use Rattle.std.specs.List.{list_all}
use Rattle.mbdc_poll.specs.declared.phase.Phase.{Phase}
use Rattle.mbdc_poll.specs.declared.phase.Phase.TheVariants.{Free, Busy, Pending, Over}
use Rattle.mbdc_poll.specs.declared.phase.Request.{Request}
use Rattle.mbdc_poll.specs.declared.phase.Request.TheVariants.{Quiet, Sent, Answered}
use Rattle.mbdc_poll.specs.declared.station.Station.{Station}

-- a request is out without an answer
abbrev pub is_sent : Request → Bool
is_sent Quiet = false
is_sent Sent = true
is_sent (Answered bytes) = false

-- no readout is running, and no end is to be written
abbrev pub is_free : Phase → Bool
is_free Free = true
is_free (Busy n) = false
is_free (Pending n) = false
is_free (Over end) = false

-- the line waits for its bus
abbrev pub is_awaited : {B : Type 0} → Station B → Bool
is_awaited station = is_sent station.request

-- the line has nothing left
abbrev pub is_done : {B : Type 0} → Station B → Bool
is_done station = is_free station.phase && length station.left.now == 0

-- the line goes on when its bus has more, or not at all
abbrev pub is_resting : {B : Type 0} → Station B → Bool
is_resting station = is_awaited station || is_done station

-- A POLL MAY SLEEP where each line waits for its bus or has nothing left.
abbrev pub may_sleep : {B : Type 0} → List (Station B) → Bool
may_sleep {B} stations = list_all (λ (s : Station B). is_resting s) stations
