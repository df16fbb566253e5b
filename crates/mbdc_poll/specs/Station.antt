-- A line's part of the readout (this product).
use Rattle.std.specs.Prelude.{◌≡◌, ◌⊎◌, ℕ, zero, suc, ◌+◌, ◌-◌, ◌*◌, ◌<◌, ◌≤◌, Bool, true, false}
use Rattle.std.specs.Prelude.{List, [], ◌∷◌, ◌++◌, length, take, drop, Result, Ok, Err}
use Rattle.dc_address.specs.declared.identity.Identity.{Identity}
use Rattle.dc_core.specs.declared.fault.CommitFault.{CommitFault}
use Rattle.dc_core.specs.declared.fault.HearFault.{HearFault}
use Rattle.dc_core.specs.declared.line_heard.LineHeard.{LineHeard}
use Rattle.dc_core.specs.declared.line_heard.LineHeard.TheVariants.{Again, Ready, Accepted}
use Rattle.dc_core.specs.declared.line_heard.LineHeard.TheVariants.{Failed as HasFailed}
use Rattle.mbdc_bus.specs.Halves.{most_waits}
use Rattle.mbdc_poll.specs.Bus.{Bus}
use Rattle.mbdc_poll.specs.Queue.{Part, part, most_asks}
use Rattle.mbdc_poll.specs.Talking.{Talk}
use Rattle.mbdc_poll.specs.declared.end.Refusal.TheVariants.{Hear, Commit}
use Rattle.mbdc_poll.specs.declared.end.End.{End}
use Rattle.mbdc_poll.specs.declared.end.End.TheVariants.{Failed, Refused}
use Rattle.mbdc_poll.specs.declared.phase.Phase.{Phase}
use Rattle.mbdc_poll.specs.declared.phase.Phase.TheVariants.{Free, Busy, Pending, Over}
use Rattle.mbdc_poll.specs.declared.phase.Request.{Request}
use Rattle.mbdc_poll.specs.declared.phase.Request.TheVariants.{Quiet, Sent, Answered}
use Rattle.mbdc_poll.specs.declared.station.Station.{Station}

abbrev pub part_of : {B : Type 0} → Station B → Part
part_of station = part (take station.due station.left.now) (drop station.due station.left.now)
    station.pass station.phase

abbrev pub talk_of : {B : Type 0} → Station B → Talk B
talk_of station = record { bus = station.bus; request = station.request; said = station.said }

-- the bytes received, if any
abbrev pub taken_of : Request → List ℕ
taken_of Quiet = []
taken_of Sent = []
taken_of (Answered bytes) = bytes

-- an answer was received, and isn't judged
abbrev pub is_answered : Request → Bool
is_answered Quiet = false
is_answered Sent = false
is_answered (Answered bytes) = true

-- ---- what becomes of a readout by an answer and by a commit

-- the queue, how many of it are left in the pass, the pass and the phase after it
pub record Next : Type 0 where
  pub left : List Identity
  pub due : ℕ
  pub pass : ℕ
  pub phase : Phase

-- where none is left in this pass, all are left in the next one
abbrev pub next_pass : List Identity → ℕ → ℕ → Phase → Next
next_pass left zero pass phase =
    record { left = left; due = length left; pass = pass + 1; phase = phase }
next_pass left (suc n) pass phase =
    record { left = left; due = suc n; pass = pass; phase = phase }

abbrev pub ended : List Identity → ℕ → ℕ → End → Next
ended left due pass end =
    record { left = drop 1 left; due = due - 1; pass = pass; phase = Over end }

-- the present meter comes last, of those that failed
abbrev pub put_off : List Identity → ℕ → ℕ → Next
put_off left due pass =
    record { left = drop 1 left ++ take 1 left; due = due - 1; pass = pass; phase = Free }

abbrev pub after_failure : Bool → List Identity → ℕ → ℕ → End → Next
after_failure true left due pass end = put_off left due pass
after_failure false left due pass end = ended left due pass end

-- of a meter that was asked, and may be so often yet, and of which another try is left or not
abbrev pub after_answer : Bool → List Identity → ℕ → ℕ → ℕ → Identity
    → Result LineHeard HearFault → Next
after_answer again left due pass n meter (Ok Again) =
    record { left = left; due = due; pass = pass; phase = Busy n }
after_answer again left due pass n meter (Ok Ready) =
    record { left = left; due = due; pass = pass; phase = Busy n }
after_answer again left due pass n meter (Ok (Accepted number more)) =
    record { left = left; due = due; pass = pass; phase = Pending n }
after_answer again left due pass n meter (Ok (HasFailed why)) =
    after_failure again left due pass (Failed meter why)
after_answer again left due pass n meter (Err fault) =
    ended left due pass (Refused meter (Hear fault))

-- of one whose telegram isn't stored
abbrev pub lost_by : List Identity → ℕ → ℕ → Phase → CommitFault → Next
lost_by [] due pass phase fault = record { left = []; due = due; pass = pass; phase = phase }
lost_by (meter ∷ more) due pass phase fault =
    ended (meter ∷ more) due pass (Refused meter (Commit fault))

-- by a commit, which concerns it where its telegram is pending
abbrev pub stored_by : List Identity → ℕ → ℕ → Phase → Result ℕ CommitFault → Next
stored_by left due pass (Pending n) (Ok count) =
    record { left = left; due = due; pass = pass; phase = Busy n }
stored_by left due pass (Pending n) (Err fault) = lost_by left due pass (Pending n) fault
stored_by left due pass Free stored =
    record { left = left; due = due; pass = pass; phase = Free }
stored_by left due pass (Busy n) stored =
    record { left = left; due = due; pass = pass; phase = Busy n }
stored_by left due pass (Over end) stored =
    record { left = left; due = due; pass = pass; phase = Over end }

-- the station after it, with its bus, its request, and whether it was written that the line is lost
pub record IsAfter {B : Type 0} (next : Next) (at : B) (asked : Request) (written : Bool)
    (station : Station B)
    : Type 0 where
  pub left : station.left.now ≡ next.left
  pub due : station.due ≡ next.due
  pub pass : station.pass ≡ next.pass
  pub phase : station.phase ≡ next.phase
  pub bus : station.bus ≡ at
  pub request : station.request ≡ asked
  pub said : station.said ≡ written

-- the answer to a request is taken, or isn't complete yet
abbrev pub Listens : {B : Type 0} → Bus B → Station B → Station B → Type 0
Listens g old new =
    ((bytes : List ℕ) × g.gives old.bus bytes new.bus
    × (new ≡ record old { bus = new.bus; request = Answered bytes }))
    ⊎ (g.waits old.bus new.bus × (g.waits_left new.bus < g.waits_left old.bus)
    × (new ≡ record old { bus = new.bus }))

-- ---- which stations there may be

-- `due` of these meters are left in this pass; where the others failed in it, it isn't the last one
abbrev pub IsPass : ℕ → ℕ → ℕ → ℕ → Type 0
IsPass tries count due pass =
    (1 ≤ pass) × (pass ≤ tries) × (due ≤ count) × (due < count → pass < tries)

abbrev pub IsSoundIn : ℕ → ℕ → ℕ → ℕ → Phase → Request → ℕ → Type 0
IsSoundIn tries count due pass Free request waits =
    IsPass tries count due pass × (request ≡ Quiet)
IsSoundIn tries count due pass (Busy n) request waits =
    IsPass tries count due pass × (0 < due) × (n ≤ most_asks)
    × (request ≡ Sent → waits ≤ most_waits)
IsSoundIn tries count due pass (Pending n) request waits =
    IsPass tries count due pass × (0 < due) × (n ≤ most_asks) × (request ≡ Quiet)
IsSoundIn tries count due pass (Over end) request waits =
    IsPass tries count due pass × (request ≡ Quiet)

-- a meter that goes on is left in its pass; nothing is out but of a readout
abbrev pub IsSound : {B : Type 0} → Bus B → ℕ → Station B → Type 0
IsSound g tries station = IsSoundIn tries (length station.left.now) station.due station.pass
    station.phase station.request (g.waits_left station.bus)

-- ---- how many rounds it takes at most

-- of one request, and of one start
abbrev pub rounds_a_request : ℕ
rounds_a_request = most_waits + 3

abbrev pub rounds_to_end : ℕ
rounds_to_end = 3

abbrev pub rounds_a_start : ℕ
rounds_a_start = rounds_to_end + most_asks * rounds_a_request + 1

abbrev pub rounds_by_request : ℕ → Request → ℕ → ℕ
rounds_by_request out Quiet waits = 0
rounds_by_request out Sent waits = out + 1 + waits
rounds_by_request out (Answered bytes) waits = out

-- A request that is out, a telegram that is pending and an end that isn't written count for this many rounds.
abbrev pub rounds_by_phase : ℕ → ℕ → ℕ → Phase → Request → ℕ → ℕ
rounds_by_phase out pending over Free request waits = 0
rounds_by_phase out pending over (Busy n) request waits =
    rounds_to_end + n * rounds_a_request + rounds_by_request out request waits
rounds_by_phase out pending over (Pending n) request waits =
    rounds_to_end + n * rounds_a_request + pending
rounds_by_phase out pending over (Over end) request waits = 1 + over

-- the present meter was started in this pass
abbrev pub begun : Phase → ℕ
begun Free = 0
begun (Busy n) = 1
begun (Pending n) = 1
begun (Over end) = 0

-- how many starts there may be yet: those of this pass, and one of each meter in each later one
abbrev pub starts_left : ℕ → ℕ → ℕ → ℕ → ℕ
starts_left tries count due pass = due + count * (tries - pass)

abbrev pub rounds_in : ℕ → ℕ → ℕ → ℕ → ℕ → ℕ → ℕ → Phase → Request → ℕ → ℕ
rounds_in out pending over tries count due pass phase request waits =
    starts_left tries count (due - begun phase) pass * rounds_a_start
    + rounds_by_phase out pending over phase request waits

abbrev pub rounds_of : {B : Type 0} → Bus B → ℕ → ℕ → ℕ → ℕ → Station B → ℕ
rounds_of g out pending over tries station =
    rounds_in out pending over tries (length station.left.now) station.due station.pass
    station.phase station.request (g.waits_left station.bus)
