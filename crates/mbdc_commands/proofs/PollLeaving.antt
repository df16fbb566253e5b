-- What a poll leaves of a disk, by what is said of its events.
use Rattle.std.proofs.Common.{◌≡◌, ◌⊎◌, inl, inr, true, false, sym, ◌∙◌, ℕ, ◌≤◌, Bool, List, [], ◌∷◌, ◌++◌, Result, Ok, Err, refl, subst, ap, append_assoc, append-nil, arith, take}
use Rattle.std.specs.Prelude.{IfOk, IfErr, IsErrOf, Option, is_some}
use Rattle.dc_address.specs.declared.identity.Identity.{Identity}
use Rattle.mbdc_commands.proofs.Printed.{printed_so}
use Rattle.mbdc_commands.specs.Bytes.{IsPrinted, IsWrittenOut}
use Rattle.mbdc_commands.specs.HostClock.{IsWarned, LetsPass, TellsTime}
use Rattle.mbdc_commands.specs.declared.timer.HostTimer.{HostTimer}
use Rattle.mbdc_poll.specs.declared.teller.Teller.{Ghosts as TellerGhosts}
use Rattle.mbdc_poll.specs.Printed.{AreTakenUpToAFailure, events_as}
use Rattle.mbdc_poll.specs.declared.events.printer.Form.{Form}
use Rattle.mbdc_poll.specs.Unfailing.{GoesOn}
use Rattle.mbdc_poll.specs.declared.events.unfailing.Unfailing.{Unfailing}
use Rattle.std.specs.Io.KnownBytes.{Keeps}
use Rattle.mbdc_commands.specs.PollOver.{IsNext, ArePolled, IsUnpolled, PollLeaves, StopsPoll}
use Rattle.dc_core.specs.Core.{Core, present}
use Rattle.dc_sectors.specs.Runs.{LeavesOnly}
use Rattle.dc_sectors.specs.declared.device.Disk.{Ghosts}
use Rattle.mbdc_ending.specs.Fault.{IfOpen, IsOfImage}
use Rattle.mbdc_ending.specs.declared.fault.ProgramFault.{ProgramFault}
use Rattle.mbdc_ending.specs.declared.fault.ProgramFault.TheVariants.{Read, TooLong, Write, NoMemory, Open}
use Rattle.mbdc_io.specs.Failures.{HasRisen}
use Rattle.mbdc_log.specs.Halves.{fewest_sectors, half_of}
use Rattle.mbdc_log.specs.Refusal.{TellsOfImage}
use Rattle.mbdc_log.specs.declared.fault.OpenFault.TheVariants.{Worn, Device}
use Rattle.dc_core.specs.PendingImages.{EachStands, IsRefused, StandsForOne}
use Rattle.mbdc_poll.proofs.Taking.{takes_both}
use Rattle.mbdc_poll.specs.Bus.{Bus}
use Rattle.mbdc_poll.specs.Happening.{Happening, happened_events}
use Rattle.mbdc_poll.specs.ImagePoll.{ImageTurned, PlanPolled}
use Rattle.mbdc_poll.specs.Planned.{asked_for, has_bus, refused_events}
use Rattle.mbdc_poll.specs.Polls.{PollsAll}
use Rattle.mbdc_poll.specs.Round.{lates_from, most_lines}
use Rattle.mbdc_poll.specs.Telling.{TakesAll}
use Rattle.mbdc_poll.specs.declared.event.Event.{Event as Told}
use Rattle.mbdc_poll.specs.declared.event.Event.TheVariants.{End as has_ended}
use Rattle.mbdc_poll.specs.declared.outcome.Counts.{Counts}
use Rattle.mbdc_poll.specs.declared.outcome.Outcome.{Outcome}
use Rattle.mbdc_poll.specs.declared.station.Station.{Station}

pub if_ok_as : {X E : Type 0} (result : Result X E) (P Q : X → Type 0) → IfOk result P → ((x : X) → P x → Q x) → IfOk result Q
if_ok_as (Ok x) P Q known shows = shows x known
if_ok_as (Err e) P Q known shows = tt

-- ---- the events as a list

-- one after the other, they are all the events
all_next : (start more : List Told) → TakesAll IsNext start (start ++ more) more
all_next start [] = append-nil start
all_next start (event ∷ more) =
    (start ++ event ∷ [], refl, subst (λ (events : List Told). TakesAll IsNext (start ++ event ∷ []) events more) (append_assoc start (event ∷ []) more) (all_next (start ++ event ∷ []) more))

module _ {B T : Type 0} (g : Bus B) (told : T → ℕ → T → Type 0) (passes : T → Bool → T → Type 0) where
  -- a poll whose events were taken in another way
  abbrev tail_of : List (Station B) → Outcome → List Told
  tail_of news now = lates_from g 1 news ++ has_ended now.read now.failed ∷ []

  all_as : (tries : ℕ) (olds news : List (Station B)) (first last : T) (took taken : List Told → Type 0) (was : Counts) (now : Outcome) (core : Core) (happened : List Happening)
      → taken (happened_events happened ++ tail_of news now)
      → PollsAll g told passes tries olds news first last took was now core happened
      → PollsAll g told passes tries olds news first last taken was now core happened
  all_as tries olds news first last took taken was now core happened events p =
      let to = p.polled.polls in
      record {
        between = p.between;
        polled = record {
          counts = p.polled.counts;
          polls = record { rounds = to.rounds; keeps = to.keeps; stored = to.stored; events = events; are_true = to.are_true; read = to.read; failed = to.failed };
          ended = p.polled.ended;
          read = p.polled.read;
          failed = p.polled.failed;
          fault = p.polled.fault;
        };
        read = p.read;
        failed = p.failed;
        fault = p.fault;
      }

module _ {B T N : Type 0} (g : Bus B) (told : T → ℕ → T → Type 0) (passes : T → Bool → T → Type 0) (warned : T → T → Type 0) (takes : N → Told → N → Type 0) where
  -- the events that a teller took in a poll are all its events
  pub with_events : (buses : List B) (only : List Identity) (tries : ℕ) (first last : T) (old new : N) (now : Outcome) (core : Core) (happened : List Happening)
      → PlanPolled g told passes warned takes buses only tries first last old new now core happened
      → (events : List Told) × TakesAll takes old new events × PlanPolled g told passes warned IsNext buses only tries first last [] events now core happened
  with_events buses only tries first last old new now core happened p =
      let refused = refused_events (has_bus g.lost (take most_lines buses)) (present core) (asked_for only (present core)) in
      let more = happened_events happened ++ tail_of g told passes p.news now in (
        refused ++ more,
        takes_both takes old p.between new refused more p.refuses p.polls.polled.polls.events,
        record {
          olds = p.olds;
          news = p.news;
          between = refused;
          begun = p.begun;
          planned = p.planned;
          compares = p.compares;
          refuses = all_next [] refused;
          polls = all_as g told passes tries p.olds p.news p.begun last _ (TakesAll IsNext refused (refused ++ more)) _ now core happened (all_next refused more) p.polls;
        },
      )

-- what a teller takes inside another one
pub through : {S U : Type 0} (of : S → U) (takes : U → Told → U → Type 0) (old new : S) (events : List Told) → TakesAll (λ before event behind. takes (of before) event (of behind)) old new events
    → TakesAll takes (of old) (of new) events
through of takes old new [] same = ap of same
through of takes old new (event ∷ more) (next, took, rest) = (of next, took, through of takes next new more rest)

-- a teller that hasn't failed took all events
pub taken_so : (failed : Bool) (all cut : Type 0) → ((failed ≡ false) × all) ⊎ ((failed ≡ true) × cut) → failed ≡ false → all
taken_so failed all cut (inl (well, took)) is = took
taken_so failed all cut (inr (broken, some)) is = absurd (let no : true ≡ false = sym broken ∙ is in cc)

-- ---- the disk

module _ {D : Type 0} (g : Ghosts D) (disk left : D) where
  pub turned_as : (such so : Core → List Happening → Type 0) → ImageTurned g such disk left → ((core : Core) (happened : List Happening) → such core happened → so core happened) → ImageTurned g so disk left
  turned_as such so t shows = record {
    state = t.state;
    first = t.first;
    last = t.last;
    opening = t.opening;
    happens = record { happened = t.happens.happened; are_such = shows _ t.happens.happened t.happens.are_such; went = t.happens.went };
    disk_is = t.disk_is;
  }

  pub leaves_as : (polls so : Outcome → Core → List Happening → Type 0) (outcome : Result Outcome ProgramFault) → PollLeaves g polls disk left outcome
      → ((done : Outcome) (core : Core) (happened : List Happening) → polls done core happened → so done core happened) → PollLeaves g so disk left outcome
  leaves_as polls so outcome l shows = record {
    polled = if_ok_as outcome (λ done. ImageTurned g (polls done) disk left) _ l.polled (λ done t. turned_as (polls done) (so done) t (shows done));
    starved = l.starved;
    unopened = l.unopened;
    faults = l.faults;
  }

  pub stops_so : (outcome : Result Outcome ProgramFault) → IfErr outcome IsOfImage → (IsErrOf outcome Write → HasRisen 0 0) → IfErr outcome StopsPoll
  stops_so (Ok done) of_image writes = tt
  stops_so (Err Read) of_image writes = of_image
  stops_so (Err TooLong) of_image writes = of_image
  stops_so (Err Write) of_image writes = absurd (let risen : HasRisen 0 0 = writes refl in omega arith)
  stops_so (Err NoMemory) of_image writes = tt
  stops_so (Err (Open fault)) of_image writes = tt

  pub unpolled_so : (outcome : Result Outcome ProgramFault)
      → (g.keeps left → fewest_sectors ≤ g.sectors disk → IfErr outcome (λ fault. IfOpen fault (IsRefused (half_of g disk) (g.reads disk))))
      → (g.keeps left → fewest_sectors ≤ g.sectors disk → EachStands (half_of g disk) (g.choices disk) → IfErr outcome (λ fault. IfOpen fault (λ e. TellsOfImage e → e ≡ Worn)))
      → IfErr outcome (λ fault. IfOpen fault (λ e. TellsOfImage e → g.reads left ≡ g.reads disk))
      → IfErr outcome (λ fault. IfOpen fault (λ e. e ≡ Device → HasRisen (g.failures disk) (g.failures left)))
      → (g.keeps left → EachStands (half_of g disk) (g.choices disk) → IfErr outcome (λ fault. IfOpen fault (λ e. LeavesOnly g disk left (StandsForOne (half_of g disk) (g.choices disk)))))
      → IfErr outcome (λ fault. IfOpen fault (IsUnpolled g disk left))
  unpolled_so (Ok done) refused premise unwritten device any_moment = tt
  unpolled_so (Err Read) refused premise unwritten device any_moment = tt
  unpolled_so (Err TooLong) refused premise unwritten device any_moment = tt
  unpolled_so (Err Write) refused premise unwritten device any_moment = tt
  unpolled_so (Err NoMemory) refused premise unwritten device any_moment = tt
  unpolled_so (Err (Open fault)) refused premise unwritten device any_moment =
      record { refused = refused; premise = premise; unwritten = unwritten; device = device; any_moment = any_moment }

  -- memory ran out before anything was done
  pub none_polled : (polls : Outcome → Core → List Happening → Type 0) → PollLeaves g polls disk disk (Err NoMemory)
  none_polled polls = record { polled = tt; starved = λ full. inl refl; unopened = tt; faults = tt }

module _ {D B W : Type 0} (R : Type 0) (g : Ghosts D) (bus : Bus B) (buses : List B) (only : List Identity) (tries : ℕ) (waits : W) (disk left : D) where
  -- more is said of the events
  pub holds_as : (such so : List Told → Type 0) (outcome : Result Outcome ProgramFault) → PollLeaves g (ArePolled R bus buses only tries waits such) disk left outcome
      → ((events : List Told) → such events → so events) → PollLeaves g (ArePolled R bus buses only tries waits so) disk left outcome
  holds_as such so outcome l shows = leaves_as g disk left (ArePolled R bus buses only tries waits such) (ArePolled R bus buses only tries waits so) outcome l
      (λ done core happened p. record { first = p.first; last = p.last; begins = p.begins; events = p.events; polled = p.polled; are_such = shows p.events p.are_such })

  -- the text of the events is printed, by a clock that begins with these waits
  pub prints_so : {O : Type 0} (contents : O → Option (List ℕ)) (known : Bool) (out : O) (held : Option (List ℕ)) (printed : Bool) (form : Form) (begun : W) (outcome : Result Outcome ProgramFault)
      → begun ≡ waits → known ≡ is_some (contents out) → Keeps (contents out) held
      → PollLeaves g (ArePolled R bus buses only tries begun (λ events. IsWrittenOut contents known held printed (events_as form events))) disk left outcome
      → PollLeaves g (ArePolled R bus buses only tries waits (λ events. IsPrinted contents out printed (events_as form events))) disk left outcome
  prints_so contents known out held printed form begun outcome waits_are is kept l =
      holds_as _ _ outcome (subst (λ (w : W). PollLeaves g (ArePolled R bus buses only tries w (λ events. IsWrittenOut contents known held printed (events_as form events))) disk left outcome) waits_are l)
      (λ events written. printed_so contents known out held printed (events_as form events) is kept written)

module _ {D B W N S : Type 0} (R : Type 0) (g : Ghosts D) (bus : Bus B) (buses : List B) (only : List Identity) (tries : ℕ) (teller : TellerGhosts N) (of : S → Unfailing N) (begun ended : HostTimer R W) (old new : S) (first : N)
    (disk left : D) where
  -- a poll whose events go to a teller up to its first failure
  pub polled_so : (outcome : Result Outcome ProgramFault) → AreTakenUpToAFailure teller → of old ≡ record { teller = first; has_failed = false }
      → IfOk outcome (λ done. ImageTurned g (λ core happened. PlanPolled bus TellsTime LetsPass IsWarned (λ before event behind. GoesOn teller (of before) event (of behind)) buses only tries begun ended old new done core happened) disk left)
      → IfOk outcome (λ done. ImageTurned g (ArePolled R bus buses only tries begun.waits (λ events. (of new).has_failed ≡ false → TakesAll teller.takes first (of new).teller events) done) disk left)
  polled_so outcome law fresh polled = if_ok_as outcome _ _ polled (λ done t. turned_as g disk left _ _ t (λ core happened p. with_all done core happened p)) where
    took_all : (events : List Told) → TakesAll (GoesOn teller) (of old) (of new) events → (of new).has_failed ≡ false → TakesAll teller.takes first (of new).teller events
    took_all events took well =
        subst (λ (n : N). TakesAll teller.takes n (of new).teller events) (ap (λ (u : Unfailing N). u.teller) fresh)
        (taken_so _ _ _ (law (of old) (of new) events took (ap (λ (u : Unfailing N). u.has_failed) fresh)) well)

    with_all : (done : Outcome) (core : Core) (happened : List Happening)
        → PlanPolled bus TellsTime LetsPass IsWarned (λ before event behind. GoesOn teller (of before) event (of behind)) buses only tries begun ended old new done core happened
        → ArePolled R bus buses only tries begun.waits (λ events. (of new).has_failed ≡ false → TakesAll teller.takes first (of new).teller events) done core happened
    with_all done core happened p =
        let e = with_events bus TellsTime LetsPass IsWarned (λ before event behind. GoesOn teller (of before) event (of behind)) buses only tries begun ended old new done core happened p in
        record {
          first = begun;
          last = ended;
          begins = refl;
          events = e.0;
          polled = e.2;
          are_such = took_all e.0 (through of (GoesOn teller) old new e.0 e.1);
        }
