-- The exchanges over the bus of a line (this product).
use Rattle.std.specs.Prelude.{◌≡◌, ◌≢◌, ℕ, Bool, true, false, List, [], ◌∷◌, None, Some, Result}
use Rattle.dc_address.specs.declared.identity.Identity.{Identity}
use Rattle.dc_core.specs.Event.{starts, asks, hears, commits, started, asked, heard, committed}
use Rattle.dc_core.specs.declared.fault.CommitFault.{CommitFault}
use Rattle.dc_core.specs.declared.fault.HearFault.{HearFault}
use Rattle.dc_core.specs.declared.fault.StartFault.{StartFault}
use Rattle.dc_core.specs.declared.line_heard.LineHeard.{LineHeard}
use Rattle.mbdc_poll.specs.Bus.{Bus}
use Rattle.mbdc_poll.specs.Happening.{Happening, does, tells}
use Rattle.mbdc_poll.specs.declared.event.Event.{Event as Told}
use Rattle.mbdc_poll.specs.declared.event.Event.TheVariants.{Lost as is_lost}
use Rattle.mbdc_poll.specs.declared.phase.Request.{Request}
use Rattle.mbdc_poll.specs.declared.phase.Request.TheVariants.{Quiet, Sent, Answered}

-- the state of a line: its bus, its request, and whether the event of its loss came
pub record Talk (B : Type 0) : Type 0 where
  pub bus : B
  pub request : Request
  pub said : Bool

-- THE TALK ON A BUS, by what happens on its line. The requests of the readouts are sent, and no
-- others. The answer is taken once, and only then the next request is sent. Nothing else touches the
-- bus. The event of the line's loss comes once.
pub data Talks {B : Type 0} (g : Bus B) (line : ℕ)
    : Talk B → List Happening → Talk B → Type 0 where
  rests : {last : Talk B} → Talks g line last [] last
  begins : {bus : B} {said : Bool} {meter : Identity} {answer : Result (Unit {0}) StartFault}
      {more : List Happening} {last : Talk B}
      → Talks g line (record { bus = bus; request = Quiet; said = said }) more last
      → Talks g line (record { bus = bus; request = Quiet; said = said })
      (does (starts line meter, started answer) ∷ more) last
  has_none : {bus : B} {said : Bool} {more : List Happening} {last : Talk B}
      → Talks g line (record { bus = bus; request = Quiet; said = said }) more last
      → Talks g line (record { bus = bus; request = Quiet; said = said })
      (does (asks line, asked None) ∷ more) last
  sends_it : {bus next : B} {said : Bool} {request : List ℕ} {more : List Happening} {last : Talk B}
      → g.sends bus request next
      → Talks g line (record { bus = next; request = Sent; said = said }) more last
      → Talks g line (record { bus = bus; request = Quiet; said = said })
      (does (asks line, asked (Some request)) ∷ more) last
  waits_it : {bus next : B} {said : Bool} {more : List Happening} {last : Talk B}
      → g.waits bus next
      → Talks g line (record { bus = next; request = Sent; said = said }) more last
      → Talks g line (record { bus = bus; request = Sent; said = said }) more last
  takes_it : {bus next : B} {said : Bool} {bytes : List ℕ} {more : List Happening} {last : Talk B}
      → g.gives bus bytes next
      → Talks g line (record { bus = next; request = Answered bytes; said = said }) more last
      → Talks g line (record { bus = bus; request = Sent; said = said }) more last
  hears_it : {bus : B} {said : Bool} {moment : ℕ} {bytes : List ℕ}
      {answer : Result LineHeard HearFault} {more : List Happening} {last : Talk B}
      → Talks g line (record { bus = bus; request = Quiet; said = said }) more last
      → Talks g line (record { bus = bus; request = Answered bytes; said = said })
      (does (hears line moment bytes, heard answer) ∷ more) last
  stands_by : {first : Talk B} {stored : Result ℕ CommitFault} {more : List Happening} {last : Talk
      B}
      → Talks g line first more last
      → Talks g line first (does (commits, committed stored) ∷ more) last
  tells_it : {first : Talk B} {told : Told} {more : List Happening} {last : Talk B}
      → told ≢ is_lost line
      → Talks g line first more last
      → Talks g line first (tells line told ∷ more) last
  loses_it : {bus : B} {request : Request} {more : List Happening} {last : Talk B}
      → g.lost bus ≡ true
      → Talks g line (record { bus = bus; request = request; said = true }) more last
      → Talks g line (record { bus = bus; request = request; said = false })
      (tells line (is_lost line) ∷ more) last
