-- How many requests a readout makes at most (this product).
use Rattle.std.specs.Prelude.{ℕ, ◌+◌, ◌-◌, ◌*◌, Bool, true, false, List, length, filter}
use Rattle.dc_readout.specs.declared.stage.Stage.{Stage}
use Rattle.dc_readout.specs.declared.stage.Stage.TheVariants.{Resets, Selects, Requests, Pending}
use Rattle.dc_readout.specs.declared.stage.Stage.TheVariants.{Ended}
use Rattle.dc_readout.specs.Answer.{max_parts}
use Rattle.dc_readout.specs.Summary.{Summary}
use Rattle.dc_readout.specs.Session.{Call, hears, settles}

-- each request is tried three times
abbrev pub most_tries : ℕ
most_tries = 3

-- the reset, the selection, and a request for each part
abbrev pub most_requests : ℕ
most_requests = most_tries * (2 + max_parts)

-- this try, and those that may follow it
abbrev pub tries_left : ℕ → ℕ
tries_left tries = 1 + (most_tries - 1 - tries)

-- The requests that a session may still make: the tries of this one, and all of those that may follow
-- it. A telegram that waits is the answer to its part's request.
abbrev pub requests_left_at : Stage → ℕ → ℕ → ℕ
requests_left_at Resets tries settled = tries_left tries + most_tries * (1 + max_parts)
requests_left_at Selects tries settled = tries_left tries + most_tries * max_parts
requests_left_at Requests tries settled =
    tries_left tries + most_tries * (max_parts - (settled + 1))
requests_left_at (Pending more) tries settled = most_tries * (max_parts - (settled + 1))
requests_left_at Ended tries settled = 0

abbrev pub requests_left : Summary → ℕ
requests_left s = requests_left_at s.stage s.tries s.settled

-- each request is followed by what was heard in answer, silence too
abbrev pub is_hearing : Call → Bool
is_hearing (hears answer) = true
is_hearing settles = false

abbrev pub requests_in : List Call → ℕ
requests_in calls = length (filter is_hearing calls)
