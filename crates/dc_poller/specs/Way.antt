-- What is known of a poll between two of its calls (this product).
use Rattle.std.specs.Prelude.{◌≡◌, ◌<◌, ℕ, Bool, true, false, Option, Result, IfOk, OnOk, OnErr, List}
use Rattle.std.specs.Prelude.{[], ◌∷◌, ◌++◌}
use Rattle.dc_address.specs.declared.identity.Identity.{Identity}
use Rattle.mbdc_bus.specs.Bus.{AreExchanged, Exchange}
use Rattle.mbdc_io.specs.Failures.{HasRisen}
use Rattle.mbdc_io.specs.Stream.{Puts}
use Rattle.mbdc_io.specs.Written.{PutsInto}
use Rattle.mbdc_io.specs.declared.stream.IoFault.{IoFault}
use Rattle.mbdc_io.specs.declared.stream.Sink.{Ghosts as SinkGhosts}
use Rattle.dc_sectors.specs.declared.device.Disk.{Ghosts}
use Rattle.dc_readout.specs.Summary.{Summary}
use Rattle.dc_core.specs.Images.{Machine}
use Rattle.dc_core.specs.Lines.{requests_on}
use Rattle.dc_poller.specs.Poll.{Phase, Due, Happening, IsWay, happened_exchanges, happened_text}
use Rattle.dc_poller.specs.Poll.{happened_turns, to_ask, is_over}
use Rattle.dc_poller.specs.Link.{Link, link_by}
use Rattle.dc_poller.specs.Run.{AnyRun, Run, IsRunOf}

-- From this phase of a poll on that happened, and it ended so: its turns are run, and its text was written.
pub record Way {D : Type 0} (g : Ghosts D) (run : Run D) (line : ℕ) (moment : ℕ)
    (meter : Identity) (phase : Phase) (ends : List Happening → Phase → Type 0)
    (wrote : List ℕ → Type 0) : Type 0 where
  pub happened : List Happening
  pub last : Phase
  pub way : IsWay line moment meter phase happened last
  pub ends_so : ends happened last
  pub went : IsRunOf g run (happened_turns happened)
  pub text : wrote (happened_text happened)

-- whether a request is due next
abbrev pub goes_on : Bool → Due
goes_on true = to_ask
goes_on false = is_over

-- A write failed over the last of these: until then the text of those before it was written, and no write failed.
pub record FailsInLast {W : Type 0} (sink : SinkGhosts W) (old new : W)
    (happened : List Happening) : Type 0 where
  pub front : List Happening
  pub last : Happening
  pub parts : happened ≡ front ++ last ∷ []
  pub between : W
  pub text : Puts (sink.written old) (sink.written between) (happened_text front)
  pub well : sink.put_failures between ≡ sink.put_failures old
  pub failed : HasRisen (sink.put_failures between) (sink.put_failures new)

-- ---- the calls of a poll

-- this is due next, and the bus is lost or not
abbrev pub phase_at : Due → Bool → Phase
phase_at due is_lost = record { due = due; link = link_by is_lost }

-- a poll that succeeded is at its end, and the bus is found like this
abbrev pub PollEnds : {X : Type 0} → Result X IoFault → Link → List Happening → Phase → Type 0
PollEnds result link happened last = OnOk result (last ≡ record { due = is_over; link = link })

-- a round that succeeded says whether the poll goes on
abbrev pub RoundEnds : Result Bool IoFault → Link → List Happening → Phase → Type 0
RoundEnds result link happened last =
    IfOk result (λ more. last ≡ record { due = goes_on more; link = link })

-- Where the poll goes on, the session on its line may make fewer requests than before.
abbrev pub Spends : Result Bool IoFault → ℕ → List (Option Summary) → List (Option Summary)
    → Type 0
Spends result line old new =
    IfOk result (λ more. more ≡ true → requests_on line new < requests_on line old)

-- the bus goes from here to there by these exchanges
abbrev pub WentOver : {B : Type 0} → (B → List ℕ → List ℕ → B → Type 0) → B → B → List Exchange
    → Type 0
WentOver asks old new exchanges = AreExchanged asks old exchanges new

-- WHAT A CALL OF A POLL DID, from this phase of it on: if it succeeded, it ended so, and its text was
-- written; if not, a write failed over the last that happened. These exchanges went over the bus.
abbrev pub Polled : {D W X : Type 0} → Ghosts D → Run D → ℕ → ℕ → Identity → Phase
    → SinkGhosts W → W → W → Result X IoFault → (List Happening → Phase → Type 0)
    → (List Exchange → Type 0) → Type 0
Polled g run line moment meter phase sink old new result ends talked =
    Way g run line moment meter phase
    (λ happened last. ends happened last × OnErr result (FailsInLast sink old new happened)
    × talked (happened_exchanges happened))
    (λ text. OnOk result (PutsInto sink old new text))

-- What a call of a round did once the bus had answered, from where this is due on: nothing more goes over the bus,
-- whichever meter is read and however the bus is found.
abbrev pub Judged : {D W : Type 0} → Ghosts D → ℕ → ℕ → Due → Machine D → Machine D
    → SinkGhosts W → W → W → Result Bool IoFault → Type 0
Judged g line moment due first last sink old new result =
    (meter : Identity) (link : Link) → AnyRun g first last (λ run.
    Polled g run line moment meter (record { due = due; link = link }) sink old new result
    (RoundEnds result link) (λ exchanges. exchanges ≡ []))
