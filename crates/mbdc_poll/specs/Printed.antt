-- What the tellers make of all events of a poll (this product).
use Rattle.std.specs.Prelude.{◌≡◌, ◌⊎◌, ℕ, true, false, List, ◌∷◌, ◌++◌, flat_map}
use Rattle.mbdc_io.specs.Stream.{Puts, PutsFront}
use Rattle.mbdc_io.specs.declared.stream.Sink.{Ghosts as SinkGhosts}
use Rattle.mbdc_poll.specs.Telling.{TakesAll}
use Rattle.mbdc_poll.specs.declared.event.Event.{Event}
use Rattle.mbdc_poll.specs.declared.teller.Teller.{Ghosts}
use Rattle.mbdc_poll.specs.Object.{object_of}
use Rattle.mbdc_poll.specs.Text.{line_of}
use Rattle.mbdc_poll.specs.Unfailing.{GoesOn}
use Rattle.mbdc_poll.specs.declared.events.printer.Form.{Form}
use Rattle.mbdc_poll.specs.declared.events.printer.Form.TheVariants.{Text, Json}
use Rattle.mbdc_poll.specs.declared.events.printer.Printer.{Printer}
use Rattle.mbdc_poll.specs.declared.events.unfailing.Unfailing.{Unfailing}

-- AN EVENT AS IT IS PRINTED: a line of text, or a JSON object.
abbrev pub event_as : Form → Event → List ℕ
event_as Text event = line_of event
event_as Json event = object_of event

abbrev pub events_as : Form → List Event → List ℕ
events_as form events = flat_map (event_as form) events

-- an event is printed; where that fails, a prefix of it is
pub record Prints {W : Type 0} (g : SinkGhosts W) (old : Printer W) (event : Event) (new : Printer W)
    : Type 0 where
  pub form : new.form ≡ old.form
  pub puts : Puts (g.written old.out) (g.written new.out) (event_as old.form event)

abbrev pub PrintsSome : {W : Type 0} → SinkGhosts W → Printer W → Event → Printer W → Type 0
PrintsSome g old event new =
    PutsFront (g.written old.out) (g.written new.out) (event_as old.form event)

-- Where a printer took events, they are written in its form, in order, and nothing else.
abbrev pub ArePrinted : {W : Type 0} → SinkGhosts W → Type 0
ArePrinted {W} g = (old new : Printer W) (events : List Event)
    → TakesAll (Prints g) old new events
    → Puts (g.written old.out) (g.written new.out) (events_as old.form events)

-- It took some of the events, in order, and failed at the next one. The rest didn't reach it.
pub record IsCutShort {N : Type 0} (g : Ghosts N) (old new : N) (events : List Event) : Type 0 where
  pub front : List Event
  pub event : Event
  pub rest : List Event
  pub parts : events ≡ front ++ event ∷ rest
  pub between : N
  pub takes : TakesAll g.takes old between front
  pub breaks : g.breaks between event new

-- A teller that hasn't failed yet takes each event, or those up to its first failure.
abbrev pub AreTakenUpToAFailure : {N : Type 0} → Ghosts N → Type 0
AreTakenUpToAFailure {N} g = (old new : Unfailing N) (events : List Event)
    → TakesAll (GoesOn g) old new events → old.has_failed ≡ false
    → ((new.has_failed ≡ false) × TakesAll g.takes old.teller new.teller events)
    ⊎ ((new.has_failed ≡ true) × IsCutShort g old.teller new.teller events)
