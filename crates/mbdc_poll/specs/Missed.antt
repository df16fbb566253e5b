-- What the tries of a readout brought, and its event (this product).
use Rattle.std.specs.Prelude.{◌≡◌, ◌≤◌, ℕ, Bool, true, false, List, [], ◌∷◌, ◌++◌, flat_map, length}
use Rattle.std.specs.Prelude.{if◌then◌else◌, Result, Ok, Err}
use Rattle.dc_address.specs.declared.identity.Identity.{Identity}
use Rattle.dc_core.specs.Event.{Event, Answer, starts, hears, started, heard}
use Rattle.dc_core.specs.declared.fault.HearFault.{HearFault}
use Rattle.dc_core.specs.declared.line_heard.LineHeard.{LineHeard}
use Rattle.dc_core.specs.declared.line_heard.LineHeard.TheVariants.{Again, Ready, Accepted}
use Rattle.dc_core.specs.declared.line_heard.LineHeard.TheVariants.{Failed as HasFailed}
use Rattle.dc_readout.specs.Misses.{and_missed, misses_of}
use Rattle.dc_readout.specs.Missing.{is_missing}
use Rattle.dc_readout.specs.declared.misses.misses.Misses.{Misses}
use Rattle.mbdc_poll.specs.Happening.{Happening, does, tells}
use Rattle.mbdc_poll.specs.Queue.{most_asks, starts_in}
use Rattle.mbdc_poll.specs.declared.brought.Brought.{Brought}
use Rattle.mbdc_poll.specs.declared.event.Event.{Event as Told}
use Rattle.mbdc_poll.specs.declared.event.Event.TheVariants.{Read as was_read, Failed as has_failed}
use Rattle.mbdc_poll.specs.declared.event.Event.TheVariants.{Refused as was_refused, Lost as is_lost}
use Rattle.mbdc_poll.specs.declared.event.Event.TheVariants.{Late as came_late, End as has_ended}

-- ---- a failed try

-- THE TRY FAILED: the readout asks again, or it fails as the meter's own answer didn't come.
abbrev pub is_miss : Result LineHeard HearFault → Bool
is_miss (Ok Again) = true
is_miss (Ok Ready) = false
is_miss (Ok (Accepted number more)) = false
is_miss (Ok (HasFailed why)) = is_missing why
is_miss (Err fault) = false

-- what a failed try brought
abbrev pub missed_by : Event → Answer → List (List ℕ)
missed_by (hears line moment bytes) (heard answer) = if is_miss answer then bytes ∷ [] else []
missed_by event answer = []

abbrev pub missed_of : Happening → List (List ℕ)
missed_of (does turn) = missed_by turn.0 turn.1
missed_of (tells line told) = []

-- what the failed tries among these brought, in order
abbrev pub missed_in : List Happening → List (List ℕ)
missed_in happened = flat_map missed_of happened

-- ---- a failed readout

-- the answer that was heard last among these, after this one
abbrev pub last_by : Event → Answer → List ℕ → List ℕ
last_by (hears line moment bytes) (heard answer) before = bytes
last_by event answer before = before

abbrev pub last_heard : List ℕ → List Happening → List ℕ
last_heard before [] = before
last_heard before (does turn ∷ more) = last_heard (last_by turn.0 turn.1 before) more
last_heard before (tells line told ∷ more) = last_heard before more

-- WHAT IS TOLD OF A FAILED READOUT: its line, how many of its failed tries brought what, and its last answer. The
-- readout is what happened on its line since its start, which is the last one there. It has fewer than 255 tries, so the
-- counts are whole.
pub record TellsReadout (line : ℕ) (meter : Identity) (front : List Happening) (at : ℕ)
    (brought : Brought) : Type 0 where
  pub before : List Happening
  pub readout : List Happening
  pub parts : front ≡ before ++ does (starts line meter, started (Ok tt)) ∷ readout
  pub last_one : starts_in readout ≡ []
  pub on_line : at ≡ line
  pub misses_are : brought.misses ≡ misses_of (missed_in readout)
  pub last_is : brought.last ≡ last_heard [] readout
  pub few : length (missed_in readout) ≤ most_asks

-- ---- turn by turn

-- an answer counts where the try failed
abbrev pub misses_heard : List ℕ → Result LineHeard HearFault → Misses → Misses
misses_heard bytes answer misses = if is_miss answer then and_missed bytes misses else misses

-- before the first answer
abbrev pub nothing_brought : Brought
nothing_brought = record { misses = misses_of []; last = [] }

abbrev pub and_heard : List ℕ → Result LineHeard HearFault → Brought → Brought
and_heard bytes answer brought =
    record { misses = misses_heard bytes answer brought.misses; last = bytes }

-- a start begins with nothing
abbrev pub brought_by : Event → Answer → Brought → Brought
brought_by (starts line meter) answer brought = nothing_brought
brought_by (hears line moment bytes) (heard answer) brought = and_heard bytes answer brought
brought_by event answer brought = brought

abbrev pub brought_after : Brought → List Happening → Brought
brought_after brought [] = brought
brought_after brought (does turn ∷ more) = brought_after (brought_by turn.0 turn.1 brought) more
brought_after brought (tells line told ∷ more) = brought_after brought more

-- an event of a failed readout has its line and what was brought
abbrev pub HasBrought : ℕ → Brought → Told → Type 0
HasBrought line brought (was_read meter serial parts last) = Unit {0}
HasBrought line brought (has_failed at meter why told) = (at ≡ line) × (told ≡ brought)
HasBrought line brought (was_refused meter refusal) = Unit {0}
HasBrought line brought (is_lost lost) = Unit {0}
HasBrought line brought (came_late late answers) = Unit {0}
HasBrought line brought (has_ended read failed) = Unit {0}

-- each such event has what was brought up to there
abbrev pub TellBrought : ℕ → Brought → List Happening → Type 0
TellBrought line brought [] = Unit {0}
TellBrought line brought (does turn ∷ more) =
    TellBrought line (brought_by turn.0 turn.1 brought) more
TellBrought line brought (tells other told ∷ more) =
    HasBrought line brought told × TellBrought line brought more

-- WHAT THE TRIES OF A LINE BROUGHT, by what happens on it.
pub record Brings (line : ℕ) (old : Brought) (happened : List Happening) (new : Brought)
    : Type 0 where
  pub told : TellBrought line old happened
  pub after : new ≡ brought_after old happened
