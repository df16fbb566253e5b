-- The meters of a line, in passes, and how the readout of the present one goes on (this product).
use Rattle.std.specs.Prelude.{◌≡◌, ◌≢◌, ℕ, zero, suc, ◌+◌, ◌<◌, ◌≤◌, List, [], ◌∷◌, ◌++◌, flat_map}
use Rattle.std.specs.Prelude.{Bool, Option, None, Some, Result, Ok, Err}
use Rattle.std.specs.List.{AllByRecursion}
use Rattle.dc_address.specs.declared.identity.Identity.{Identity}
use Rattle.mbdc_change.specs.State.{PartRow}
use Rattle.dc_core.specs.Event.{Event, Answer, starts, asks, hears, commits, started, asked}
use Rattle.dc_core.specs.Event.{heard, committed, replied}
use Rattle.dc_core.specs.declared.fault.CommitFault.{CommitFault}
use Rattle.dc_core.specs.declared.fault.HearFault.{HearFault}
use Rattle.dc_core.specs.declared.fault.StartFault.{StartFault}
use Rattle.dc_core.specs.declared.line_heard.LineHeard.{LineHeard}
use Rattle.dc_core.specs.declared.line_heard.LineHeard.TheVariants.{Again, Ready, Accepted}
use Rattle.dc_core.specs.declared.line_heard.LineHeard.TheVariants.{Failed as HasFailed}
use Rattle.dc_readout.specs.declared.why.Why.{Why}
use Rattle.dc_readout.specs.declared.why.Why.TheVariants.{NoAnswer}
use Rattle.mbdc_poll.specs.Happening.{Happening, does, tells}
use Rattle.mbdc_poll.specs.declared.brought.Brought.{Brought}
use Rattle.mbdc_poll.specs.declared.event.Event.{Event as Told}
use Rattle.mbdc_poll.specs.declared.event.Event.TheVariants.{Read as was_read, Failed as has_failed}
use Rattle.mbdc_poll.specs.declared.event.Event.TheVariants.{Refused as was_refused, Lost as is_lost}
use Rattle.mbdc_poll.specs.declared.event.Event.TheVariants.{Late as came_late, End as has_ended}
use Rattle.mbdc_poll.specs.declared.end.Refusal.TheVariants.{Start, Hear, Commit}
use Rattle.mbdc_poll.specs.declared.end.End.{End}
use Rattle.mbdc_poll.specs.declared.end.End.TheVariants.{Read, Failed, Refused}
use Rattle.mbdc_poll.specs.declared.phase.Phase.{Phase}
use Rattle.mbdc_poll.specs.declared.phase.Phase.TheVariants.{Free, Busy, Pending, Over}

-- no readout asks more often: three tries at a reset, a selection and each of 32 parts, and once more where
-- nothing is to be asked
abbrev pub most_asks : ℕ
most_asks = 103

-- a line's part: the meters that are left in this pass, the present one first; those that failed in it, in order; its
-- number, from 1; and the phase
pub data Part : Type 0 where
  part : List Identity → List Identity → ℕ → Phase → Part

-- after such an answer the readout goes on, and nothing is pending by it
abbrev pub IsGoingOn : LineHeard → Type 0
IsGoingOn Again = Unit {0}
IsGoingOn Ready = Unit {0}
IsGoingOn (Accepted number more) = ⊥
IsGoingOn (HasFailed why) = ⊥

abbrev pub IsUnpending : Phase → Type 0
IsUnpending Free = Unit {0}
IsUnpending (Busy n) = Unit {0}
IsUnpending (Pending n) = ⊥
IsUnpending (Over end) = Unit {0}

-- such an event says how a readout ended
abbrev pub IsToldAs : End → Told → Type 0
IsToldAs (Read meter) told =
    (serial : ℕ) × (parts : List (List ℕ)) × (last : Option PartRow) × (told ≡ was_read meter serial parts last)
IsToldAs (Failed meter why) told =
    (at : ℕ) × (brought : Brought) × (told ≡ has_failed at meter why brought)
IsToldAs (Refused meter refusal) told = told ≡ was_refused meter refusal

-- THE QUEUE OF A LINE GOES ON by what happens on that line, IN PASSES. The present meter is started, asked and heard.
-- Where that failed, it is put off: the next pass goes through those that failed in this one, in order. It leaves the
-- queue where its start is refused, where it has no request any more, where it was asked as often as no readout asks,
-- where its last try failed, at a fault, and where its telegram isn't stored. Then the event of its end comes, before the
-- next one is started.
pub data Goes (tries line : ℕ) : Part → List Happening → Part → Type 0 where
  stays : {last : Part} → Goes tries line last [] last
  passes_on : {meter : Identity} {failed : List Identity} {pass : ℕ} {more : List Happening} {last
      : Part}
      → pass < tries
      → Goes tries line (part (meter ∷ failed) [] (pass + 1) Free) more last
      → Goes tries line (part [] (meter ∷ failed) pass Free) more last
  starts_it : {meter : Identity} {left failed : List Identity} {pass : ℕ} {more : List Happening}
      {last : Part}
      → pass ≤ tries
      → Goes tries line (part (meter ∷ left) failed pass (Busy most_asks)) more last
      → Goes tries line (part (meter ∷ left) failed pass Free)
      (does (starts line meter, started (Ok tt)) ∷ more) last
  is_refused : {meter : Identity} {left failed : List Identity} {pass : ℕ} {fault : StartFault}
      {more : List Happening} {last : Part}
      → pass ≤ tries
      → Goes tries line (part left failed pass (Over (Refused meter (Start fault)))) more last
      → Goes tries line (part (meter ∷ left) failed pass Free)
      (does (starts line meter, started (Err fault)) ∷ more) last
  asks_it : {meter : Identity} {left failed : List Identity} {pass n : ℕ} {request : List ℕ}
      {more : List Happening} {last : Part}
      → Goes tries line (part (meter ∷ left) failed pass (Busy n)) more last
      → Goes tries line (part (meter ∷ left) failed pass (Busy (suc n)))
      (does (asks line, asked (Some request)) ∷ more) last
  has_no_request : {meter : Identity} {left failed : List Identity} {pass n : ℕ} {more : List
      Happening}
      {last : Part}
      → Goes tries line (part left failed pass (Over (Read meter))) more last
      → Goes tries line (part (meter ∷ left) failed pass (Busy n))
      (does (asks line, asked None) ∷ more) last
  is_given_up : {meter : Identity} {left failed : List Identity} {pass : ℕ} {more : List Happening}
      {last : Part}
      → Goes tries line (part left failed pass (Over (Failed meter NoAnswer))) more last
      → Goes tries line (part (meter ∷ left) failed pass (Busy zero)) more last
  goes_on : {meter : Identity} {left failed : List Identity} {pass n moment : ℕ} {bytes : List ℕ}
      {answer : LineHeard} {more : List Happening} {last : Part}
      → IsGoingOn answer
      → Goes tries line (part (meter ∷ left) failed pass (Busy n)) more last
      → Goes tries line (part (meter ∷ left) failed pass (Busy n))
      (does (hears line moment bytes, heard (Ok answer)) ∷ more) last
  is_accepted : {meter : Identity} {left failed : List Identity} {pass n moment number : ℕ}
      {bytes : List ℕ} {last_one : Bool} {more : List Happening} {last : Part}
      → Goes tries line (part (meter ∷ left) failed pass (Pending n)) more last
      → Goes tries line (part (meter ∷ left) failed pass (Busy n))
      (does (hears line moment bytes, heard (Ok (Accepted number last_one))) ∷ more) last
  is_put_off : {meter : Identity} {left failed : List Identity} {pass n moment : ℕ} {bytes : List ℕ}
      {why : Why} {more : List Happening} {last : Part}
      → pass < tries
      → Goes tries line (part left (failed ++ meter ∷ []) pass Free) more last
      → Goes tries line (part (meter ∷ left) failed pass (Busy n))
      (does (hears line moment bytes, heard (Ok (HasFailed why))) ∷ more) last
  fails_at_last : {meter : Identity} {left failed : List Identity} {pass n moment : ℕ}
      {bytes : List ℕ} {why : Why} {more : List Happening} {last : Part}
      → tries ≤ pass
      → Goes tries line (part left failed pass (Over (Failed meter why))) more last
      → Goes tries line (part (meter ∷ left) failed pass (Busy n))
      (does (hears line moment bytes, heard (Ok (HasFailed why))) ∷ more) last
  is_faulty : {meter : Identity} {left failed : List Identity} {pass n moment : ℕ} {bytes : List ℕ}
      {fault : HearFault} {more : List Happening} {last : Part}
      → Goes tries line (part left failed pass (Over (Refused meter (Hear fault)))) more last
      → Goes tries line (part (meter ∷ left) failed pass (Busy n))
      (does (hears line moment bytes, heard (Err fault)) ∷ more) last
  is_stored : {meter : Identity} {left failed : List Identity} {pass n count : ℕ} {more : List
      Happening}
      {last : Part}
      → Goes tries line (part (meter ∷ left) failed pass (Busy n)) more last
      → Goes tries line (part (meter ∷ left) failed pass (Pending n))
      (does (commits, committed (Ok count)) ∷ more) last
  is_unstored : {meter : Identity} {left failed : List Identity} {pass n : ℕ} {fault : CommitFault}
      {more : List Happening} {last : Part}
      → Goes tries line (part left failed pass (Over (Refused meter (Commit fault)))) more last
      → Goes tries line (part (meter ∷ left) failed pass (Pending n))
      (does (commits, committed (Err fault)) ∷ more) last
  stands_by : {left failed : List Identity} {pass : ℕ} {phase : Phase} {stored : Result ℕ
      CommitFault}
      {more : List Happening} {last : Part}
      → IsUnpending phase
      → Goes tries line (part left failed pass phase) more last
      → Goes tries line (part left failed pass phase) (does (commits, committed stored) ∷ more) last
  is_told : {left failed : List Identity} {pass : ℕ} {end : End} {told : Told} {more : List
      Happening} {last : Part}
      → IsToldAs end told
      → Goes tries line (part left failed pass Free) more last
      → Goes tries line (part left failed pass (Over end)) (tells line told ∷ more) last
  loses_it : {first : Part} {more : List Happening} {last : Part}
      → Goes tries line first more last
      → Goes tries line first (tells line (is_lost line) ∷ more) last

-- ---- which meters are started

abbrev pub started_by : Event → List Identity
started_by (starts line meter) = meter ∷ []
started_by event = []

abbrev pub starts_of : Happening → List Identity
starts_of (does turn) = started_by turn.0
starts_of (tells line told) = []

abbrev pub starts_in : List Happening → List Identity
starts_in happened = flat_map starts_of happened

-- some of these, in order
pub data AreSomeOf : List Identity → List Identity → Type 0 where
  none_of : AreSomeOf [] []
  without : {meter : Identity} {some all : List Identity} → AreSomeOf some all
      → AreSomeOf some (meter ∷ all)
  with_it : {meter : Identity} {some all : List Identity} → AreSomeOf some all
      → AreSomeOf (meter ∷ some) (meter ∷ all)

-- THESE STARTS ARE PASSES, at most `tries`: all meters are started in order, then those that failed likewise.
abbrev pub IsTried : ℕ → List Identity → List Identity → Type 0
IsTried zero meters begun = begun ≡ []
IsTried (suc tries) meters begun = (failed more : List Identity) × AreSomeOf failed meters
    × (begun ≡ meters ++ more) × IsTried tries failed more

-- ---- a meter that is done with

abbrev pub meter_of : End → Identity
meter_of (Read meter) = meter
meter_of (Failed meter why) = meter
meter_of (Refused meter refusal) = meter

-- it isn't among these
abbrev pub Lacks : Identity → List Identity → Type 0
Lacks meter meters = AllByRecursion (λ other. other ≢ meter) meters

-- each is in it once
abbrev pub AreApart : List Identity → Type 0
AreApart [] = Unit {0}
AreApart (meter ∷ meters) = Lacks meter meters × AreApart meters

-- ---- how often a line is asked

abbrev pub is_request : Answer → ℕ
is_request (asked (Some request)) = 1
is_request answer = 0

abbrev pub requests_of : Happening → ℕ
requests_of (does turn) = is_request turn.1
requests_of (tells line told) = 0

-- how many requests are sent
abbrev pub requests_in : List Happening → ℕ
requests_in [] = 0
requests_in (happening ∷ more) = requests_of happening + requests_in more

-- ---- where nothing fails

-- no readout fails, and none is refused
abbrev pub IsWell : Answer → Type 0
IsWell (started (Ok done)) = Unit {0}
IsWell (started (Err fault)) = ⊥
IsWell (asked request) = Unit {0}
IsWell (heard (Ok (HasFailed why))) = ⊥
IsWell (heard (Ok answer)) = Unit {0}
IsWell (heard (Err fault)) = ⊥
IsWell (committed (Ok count)) = Unit {0}
IsWell (committed (Err fault)) = ⊥
IsWell (replied reply) = Unit {0}

abbrev pub IsWellTold : Told → Type 0
IsWellTold (was_read meter serial parts last) = Unit {0}
IsWellTold (has_failed at meter why brought) = ⊥
IsWellTold (was_refused meter refusal) = ⊥
IsWellTold (is_lost line) = Unit {0}
IsWellTold (came_late line answers) = Unit {0}
IsWellTold (has_ended read failed) = Unit {0}

abbrev pub GoesWell : Happening → Type 0
GoesWell (does turn) = IsWell turn.1
GoesWell (tells line told) = IsWellTold told

-- the meters whose event says that they were read
abbrev pub read_by : Told → List Identity
read_by (was_read meter serial parts last) = meter ∷ []
read_by (has_failed at meter why brought) = []
read_by (was_refused meter refusal) = []
read_by (is_lost line) = []
read_by (came_late line answers) = []
read_by (has_ended read failed) = []

abbrev pub read_of : Happening → List Identity
read_of (does turn) = []
read_of (tells line told) = read_by told

abbrev pub read_in : List Happening → List Identity
read_in happened = flat_map read_of happened
