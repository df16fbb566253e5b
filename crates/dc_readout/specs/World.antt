-- One line, its meters, and a concentrator that may crash at any moment: this product's model of a
-- lossy line.
use Rattle.std.specs.Prelude.{◌≡◌, ◌≢◌, ℕ, ◌+◌, ◌≤◌, Bool, true, false, List, [], ◌∷◌, ◌++◌, length}
use Rattle.std.specs.Prelude.{map, Option, Some, None, slice_get, slice_set, unwrap_or, take}
use Rattle.std.specs.Prelude.{Result, Ok, Err, option_map, ◌==◌, if◌then◌else◌}
use Rattle.std.specs.List.{filter_map, zip}
use Rattle.dc_linkframe.specs.Control.{selected}
use Rattle.dc_linkframe.specs.Frame.{FrameSeen, spelling, longest_body}
use Rattle.dc_address.specs.Mask.{mask_of, matches}
use Rattle.dc_records.specs.declared.fault.BodyFault.{BodyFault}
use Rattle.dc_records.specs.Body.{continues}
use Rattle.dc_records.specs.Telegram.{Parsed, telegram_at}
use Rattle.dc_readout.specs.Summary.{Summary, Verdict, again, ready, new, failed, begun, asked_by}
use Rattle.dc_readout.specs.Summary.{verdict_by, heard_by, settled_by}
use Rattle.dc_readout.specs.declared.world.event.Outcome.{Outcome}
use Rattle.dc_readout.specs.declared.world.event.Outcome.TheVariants.{RequestLost, ReplyLost}
use Rattle.dc_readout.specs.declared.world.event.Outcome.TheVariants.{ReplyUnreadable, AsSent}
use Rattle.dc_readout.specs.declared.world.event.WorldEvent.{WorldEvent}
use Rattle.dc_readout.specs.declared.world.event.WorldEvent.TheVariants.{Start, Exchange, Commit, Stop}
use Rattle.dc_readout.specs.Meter.{Meter, Position, first_position, moved_by, answer_to}

-- a session with the meter at this place, and the body that was received and isn't committed
pub record Running : Type 0 where
  pub meter : ℕ
  pub session : Summary
  pub waiting : Option (List ℕ)

-- a finished readout of the meter at this place
pub record Finished : Type 0 where
  pub meter : ℕ
  pub parts : List (List ℕ)

-- positions and committed open parts are in the order of the meters
pub record World : Type 0 where
  pub positions : List Position
  pub running : Option Running
  pub parts_open : List (List (List ℕ))
  pub held : List Finished

abbrev pub new_world : List Meter → World
new_world meters = record {
  positions = map (λ meter. first_position) meters;
  running = None;
  parts_open = map (λ meter. []) meters;
  held = [];
}

-- ---- an exchange

abbrev pub all_moved : FrameSeen → List Meter → List Position → List Position
all_moved frame meters positions = map (λ x. moved_by frame x.0 x.1) (zip meters positions)

-- a byte that is no frame
abbrev pub noise : List ℕ
noise = 0x00 ∷ []

-- the reply of the one meter that answers; several replies at once are no frame
abbrev pub only_reply : List FrameSeen → List ℕ
only_reply [] = []
only_reply (reply ∷ []) = spelling reply
only_reply (reply ∷ other ∷ more) = noise

abbrev pub replies : FrameSeen → List Meter → List Position → List FrameSeen
replies frame meters positions = filter_map (λ x. answer_to frame x.0 x.1) (zip meters positions)

abbrev pub positions_after : Outcome → FrameSeen → List Meter → List Position → List Position
positions_after RequestLost frame meters positions = positions
positions_after ReplyLost frame meters positions = all_moved frame meters positions
positions_after ReplyUnreadable frame meters positions = all_moved frame meters positions
positions_after AsSent frame meters positions = all_moved frame meters positions

abbrev pub heard_in : Outcome → FrameSeen → List Meter → List Position → List ℕ
heard_in RequestLost frame meters positions = []
heard_in ReplyLost frame meters positions = []
heard_in ReplyUnreadable frame meters positions = noise
heard_in AsSent frame meters positions =
    only_reply (replies frame meters (all_moved frame meters positions))

-- a failure ends the session; after any other verdict it goes on
abbrev pub running_after : Verdict → Running → Option Running
running_after again r = Some (record r { session = heard_by r.session again })
running_after ready r = Some (record r { session = heard_by r.session ready })
running_after (new part t) r = Some
    (record r { session = heard_by r.session (new part t); waiting = Some t.body })
running_after (failed why) r = None

abbrev pub exchanged_as : List Meter → Outcome → FrameSeen → Running → World → World
exchanged_as meters outcome frame r w = record w {
  positions = positions_after outcome frame meters w.positions;
  running = running_after (verdict_by r.session (heard_in outcome frame meters w.positions)) r;
}

abbrev pub exchanged_by : List Meter → Outcome → Option FrameSeen → Running → World → World
exchanged_by meters outcome None r w = w
exchanged_by meters outcome (Some frame) r w = exchanged_as meters outcome frame r w

abbrev pub exchanged : List Meter → Outcome → Option Running → World → World
exchanged meters outcome None w = w
exchanged meters outcome (Some r) w = exchanged_by meters outcome (asked_by r.session) r w

-- ---- a commit

-- whether a body says that more follow
abbrev pub more_in : Result Parsed BodyFault → Bool
more_in (Ok t) = continues t.ending
more_in (Err fault) = false

abbrev pub more_after : List ℕ → Bool
more_after body = more_in (telegram_at body)

-- part 1 begins the readout anew, as in the register
abbrev pub joined : ℕ → List ℕ → List (List ℕ) → List (List ℕ)
joined part body parts = if part == 1 then body ∷ [] else parts ++ body ∷ []

abbrev pub kept : Bool → List (List ℕ) → Running → World → World
kept true parts r w = record w {
  parts_open = slice_set w.parts_open r.meter parts;
  running = Some (record r { session = settled_by r.session; waiting = None });
}
kept false parts r w = record w {
  parts_open = slice_set w.parts_open r.meter [];
  held = w.held ++ record { meter = r.meter; parts = parts } ∷ [];
  running = None;
}

abbrev pub committed_body : Option (List ℕ) → Running → World → World
committed_body None r w = w
committed_body (Some body) r w =
    kept (more_after body) (joined (r.session.settled + 1) body
    (unwrap_or (slice_get w.parts_open r.meter) [])) r w

abbrev pub committed : Option Running → World → World
committed None w = w
committed (Some r) w = committed_body r.waiting r w

-- ---- the world after events

abbrev pub started_by : ℕ → Option Meter → Option Running → World → World
started_by place (Some meter) None w =
    record w {
      running = Some (record {
        meter = place;
        session = begun meter.identity meter.address;
        waiting = None;
      });
    }
started_by place (Some meter) (Some r) w = w
started_by place None running w = w

abbrev pub world_step : List Meter → World → WorldEvent → World
world_step meters w (Start place) = started_by place (slice_get meters place) w.running w
world_step meters w (Exchange outcome) = exchanged meters outcome w.running w
world_step meters w Commit = committed w.running w
world_step meters w Stop = record w { running = None }

abbrev pub world_from : List Meter → World → List WorldEvent → World
world_from meters w [] = w
world_from meters w (event ∷ events) = world_from meters (world_step meters w event) events

abbrev pub world_after : List Meter → List WorldEvent → World
world_after meters events = world_from meters (new_world meters) events

-- ---- premise and theorems

-- Each body fits one frame, no primary address is that of the selected meters, primary addresses differ, and no
-- meter's selection matches another: so identities differ too. Nothing arrives late: a reply comes in its exchange or
-- never.
pub record AreRegular (meters : List Meter) : Type 0 where
  pub fit : (i j : ℕ) (meter : Meter) (body : List ℕ) → slice_get meters i ≡ Some meter
      → slice_get meter.bodies j ≡ Some body → length body ≤ longest_body
  pub primary : (i address : ℕ) (meter : Meter) → slice_get meters i ≡ Some meter
      → meter.address ≡ Some address → address ≢ selected
  pub addresses : (i j address : ℕ) (one other : Meter) → slice_get meters i ≡ Some one
      → slice_get meters j ≡ Some other → one.address ≡ Some address → other.address ≡ Some address
      → i ≡ j
  pub apart : (i j : ℕ) (one other : Meter) → slice_get meters i ≡ Some one
      → slice_get meters j ≡ Some other → matches (mask_of one.identity) other.identity ≡ true
      → i ≡ j

-- the bodies from the first to the first after which no more follow
abbrev pub whole_readout : List (List ℕ) → Option (List (List ℕ))
whole_readout [] = None
whole_readout (body ∷ bodies) = if more_after body
    then option_map (λ rest. body ∷ rest) (whole_readout bodies) else Some (body ∷ [])

-- these parts are a whole readout of one of the meters, in order, each body once
abbrev pub IsWhole : List Meter → Finished → Type 0
IsWhole meters h = (meter : Meter) × (slice_get meters h.meter ≡ Some meter)
    × (whole_readout meter.bodies ≡ Some h.parts)

-- where a request makes a meter go on from its k-th body, its first k bodies are its committed open parts
abbrev pub GoesOnFromCommitted : List Meter → World → Type 0
GoesOnFromCommitted meters w =
    (r : Running) (frame : FrameSeen) (i : ℕ) (meter : Meter) (p : Position)
    → w.running ≡ Some r → asked_by r.session ≡ Some frame → slice_get meters i ≡ Some meter
    → slice_get w.positions i ≡ Some p
    → (moved_by frame meter p).place ≡ p.place + 1 → 1 ≤ p.place
    → slice_get w.parts_open i ≡ Some (take p.place meter.bodies)
