-- A poll makes the turns of a house (the theorem of specs/HouseTalks): thing after thing, on all lines.
use Rattle.std.proofs.Common.{◌≡◌, ◌≢◌, ℕ, Bool, true, false, Some, None, Ok, Err, List, [], ◌∷◌, ◌++◌, refl, sym, ◌∙◌, subst, append_assoc}
use Rattle.std.specs.Prelude.{if◌then◌else◌, ◌==◌}
use Rattle.std.specs.List.{AllByRecursion}
use Rattle.std.proofs.lemmas.List.{append-nil}
use Rattle.std.proofs.lemmas.Bool.{eq-eqb, eqb-true}
use Rattle.mbdc_change.specs.State.{State}
use Rattle.dc_address.specs.declared.identity.Identity.{Identity}
use Rattle.dc_core.specs.Core.{Core, opened}
use Rattle.dc_core.specs.Event.{Event, Answer, starts, asks, hears, commits, offices, started, asked, heard, committed}
use Rattle.dc_core.specs.Transcript.{Turn, leads, IsChain}
use Rattle.dc_core.proofs.Going.{leads_push}
use Rattle.mbdc_theorems.specs.Beside.{IsOfLines}
use Rattle.mbdc_theorems.specs.House.{Sends, Bus, Buses, House, goes_on, time_passes, IsOnBuses, IsSent, put_bus, quiet}
use Rattle.mbdc_theorems.specs.HouseTalks.{quiet_once, IsAsked, IsOfMeters, TalksOn, PollsAreWhole}
use Rattle.mbdc_theorems.proofs.Houses.{each_reading_is_whole, put_there, put_elsewhere}
use Rattle.mbdc_poll.specs.Bus.{Bus as Link}
use Rattle.mbdc_poll.specs.Happening.{Happening, does, tells, happened_on, happened_turns}
use Rattle.mbdc_poll.specs.Talking.{Talk, Talks, rests, begins, has_none, sends_it, waits_it, takes_it, hears_it, stands_by, tells_it, loses_it}
use Rattle.mbdc_poll.specs.declared.event.Event.TheVariants.{Lost as is_lost}
use Rattle.mbdc_poll.specs.declared.phase.Request.{Request}
use Rattle.mbdc_poll.specs.declared.phase.Request.TheVariants.{Quiet, Sent, Answered}

-- what is given and isn't received yet was received on the line
abbrev Waits : Request → Bus → Type 0
Waits Quiet bus = Unit {0}
Waits Sent bus = Unit {0}
Waits (Answered bytes) bus = bus.answer ≡ Some bytes

module _ {B : Type 0} (g : Link B) (sends : Sends) where
  -- what a thing does on its line
  abbrev Does : Happening → Bus → Bus → Type 0
  Does (does (starts line meter, started answer)) old new = new ≡ quiet_once answer old
  Does (does (asks line, asked (Some request))) old new = IsAsked sends request old new
  Does (does (hears line moment bytes, heard answer)) old new = (old.answer ≡ Some bytes) × (new ≡ quiet_once answer old)
  Does thing old new = new ≡ old

  -- the talk on a line, from here on
  record On (line : ℕ) (things : List Happening) (bus : Bus) : Type 0 where
    first : Talk B
    last : Talk B
    on : List Happening
    on_is : on ≡ things
    talk : Talks g line first on last
    waits : Waits first.request bus
    of_meters : IsOfMeters sends bus talk

  -- the first thing, and the talk after it
  record Step (line : ℕ) (thing : Happening) (more : List Happening) (old : Bus) : Type 0 where
    new : Bus
    done : Does thing old new
    then_on : On line more new

  step : (line : ℕ) (first last : Talk B) (on : List Happening) (talk : Talks g line first on last) (thing : Happening) (more : List Happening) (bus : Bus)
      → on ≡ thing ∷ more → Waits first.request bus → IsOfMeters sends bus talk → Step line thing more bus
  step line first last on rests thing more bus e waits of = absurd cc
  step line first last on (begins {meter = meter} {answer = answer} {more = later} talk) thing more bus e waits of =
      let same : does (starts line meter, started answer) ≡ thing = cc in
      let rest : later ≡ more = cc in
      subst (λ (x : Happening). Step line x more bus) same
      (record { new = quiet_once answer bus; done = refl; then_on = record { first = _; last = _; on = later; on_is = rest; talk = talk; waits = tt; of_meters = of } })
  step line first last on (has_none {more = later} talk) thing more bus e waits of =
      let same : does (asks line, asked None) ≡ thing = cc in
      let rest : later ≡ more = cc in
      subst (λ (x : Happening). Step line x more bus) same
      (record { new = bus; done = refl; then_on = record { first = _; last = _; on = later; on_is = rest; talk = talk; waits = tt; of_meters = of } })
  step line first last on (sends_it {request = request} {more = later} sent talk) thing more bus e waits of =
      let same : does (asks line, asked (Some request)) ≡ thing = cc in
      let rest : later ≡ more = cc in
      subst (λ (x : Happening). Step line x more bus) same
      (record { new = of.0; done = of.1; then_on = record { first = _; last = _; on = later; on_is = rest; talk = talk; waits = tt; of_meters = of.2 } })
  step line first last on (waits_it waited talk) thing more bus e waits of = step line _ _ on talk thing more bus e tt of
  step line first last on (takes_it gives talk) thing more bus e waits of = step line _ _ on talk thing more bus e of.0 of.1
  step line first last on (hears_it {moment = moment} {bytes = bytes} {answer = answer} {more = later} talk) thing more bus e waits of =
      let same : does (hears line moment bytes, heard answer) ≡ thing = cc in
      let rest : later ≡ more = cc in
      subst (λ (x : Happening). Step line x more bus) same
      (record { new = quiet_once answer bus; done = (waits, refl); then_on = record { first = _; last = _; on = later; on_is = rest; talk = talk; waits = tt; of_meters = of } })
  step line first last on (stands_by {stored = stored} {more = later} talk) thing more bus e waits of =
      let same : does (commits, committed stored) ≡ thing = cc in
      let rest : later ≡ more = cc in
      subst (λ (x : Happening). Step line x more bus) same
      (record { new = bus; done = refl; then_on = record { first = _; last = _; on = later; on_is = rest; talk = talk; waits = waits; of_meters = of } })
  step line first last on (tells_it {told = told} {more = later} other talk) thing more bus e waits of =
      let same : tells line told ≡ thing = cc in
      let rest : later ≡ more = cc in
      subst (λ (x : Happening). Step line x more bus) same
      (record { new = bus; done = refl; then_on = record { first = _; last = _; on = later; on_is = rest; talk = talk; waits = waits; of_meters = of } })
  step line first last on (loses_it {more = later} lost talk) thing more bus e waits of =
      let same : tells line (is_lost line) ≡ thing = cc in
      let rest : later ≡ more = cc in
      subst (λ (x : Happening). Step line x more bus) same
      (record { new = bus; done = refl; then_on = record { first = _; last = _; on = later; on_is = rest; talk = talk; waits = waits; of_meters = of } })

  -- the thing is on this line, or not
  here : (line : ℕ) (thing : Happening) (more : List Happening) (bus : Bus) → On line (thing ∷ happened_on line more) bus → Step line thing (happened_on line more) bus
  here line thing more bus o = step line o.first o.last o.on o.talk thing (happened_on line more) bus o.on_is o.waits o.of_meters

  again : (line : ℕ) (things : List Happening) (bus : Bus) (same : List Happening) → things ≡ same → On line things bus → On line same bus
  again line things bus same e o = subst (λ (l : List Happening). On line l bus) e o

  -- ---- a thing on one line

  -- what it does to all lines
  record Moves (line : ℕ) (event : Event) (answer : Answer) (old : Buses) (new : Bus) : Type 0 where
    between : Buses
    later : Buses
    passes : (budget : ℕ) (state : State) (turns : List Turn) → House budget sends state turns old → House budget sends state turns between
    on : IsOnBuses event answer between later
    there : later line ≡ new
    elsewhere : (other : ℕ) → other ≢ line → later other ≡ old other

  stays : (line : ℕ) (event : Event) (answer : Answer) (old : Buses) (new : Bus) → ((buses : Buses) → IsOnBuses event answer buses buses) → new ≡ old line → Moves line event answer old new
  stays line event answer old new on is = record { between = old; later = old; passes = λ budget state turns house. house; on = on old; there = sym is; elsewhere = λ other ne. refl }

  begins_on : (line : ℕ) (meter : Identity) (answer : Answer) (old : Buses) (new : Bus) → Does (does (starts line meter, answer)) (old line) new → Moves line (starts line meter) answer old new
  begins_on line meter (started (Ok done)) old new is = record {
    between = old;
    later = put_bus line (quiet (old line)) old;
    passes = λ budget state turns house. house;
    on = refl;
    there = put_there line line (quiet (old line)) old refl ∙ sym is;
    elsewhere = λ other ne. put_elsewhere line other (quiet (old line)) old ne;
  }
  begins_on line meter answer old new is = stays line (starts line meter) answer old new (λ buses. refl) is

  asks_on : (line : ℕ) (answer : Answer) (old : Buses) (new : Bus) → Does (does (asks line, answer)) (old line) new → Moves line (asks line) answer old new
  asks_on line (asked (Some request)) old new is =
      let fresh : Bus = record (old line) { meters = is.meters } in
      let between : Buses = put_bus line fresh old in
      let there : between line ≡ fresh = put_there line line fresh old refl in
      record {
        between = between;
        later = put_bus line new between;
        passes = λ budget state turns house. time_passes line is.meters house is.renewed is.bodies refl;
        on = (new, subst (λ (b : Bus). IsSent request b new) (sym there) is.sent, refl);
        there = put_there line line new between refl;
        elsewhere = λ other ne. put_elsewhere line other new between ne ∙ put_elsewhere line other fresh old ne;
      }
  asks_on line answer old new is = stays line (asks line) answer old new (λ buses. refl) is

  hears_on : (line moment : ℕ) (bytes : List ℕ) (answer : Answer) (old : Buses) (new : Bus) → Does (does (hears line moment bytes, answer)) (old line) new → Moves line (hears line moment bytes) answer old new
  hears_on line moment bytes (heard (Ok answer)) old new is = record {
    between = old;
    later = put_bus line (quiet (old line)) old;
    passes = λ budget state turns house. house;
    on = (is.0, refl);
    there = put_there line line (quiet (old line)) old refl ∙ sym is.1;
    elsewhere = λ other ne. put_elsewhere line other (quiet (old line)) old ne;
  }
  hears_on line moment bytes (heard (Err fault)) old new is = stays line (hears line moment bytes) (heard (Err fault)) old new (λ buses. refl) is.1
  hears_on line moment bytes answer old new is = stays line (hears line moment bytes) answer old new (λ buses. refl) is

  -- the talks of all lines after it
  talks_after : (line : ℕ) (thing : Happening) (more : List Happening) (old later : Buses) (s : Step line thing (happened_on line more) (old line))
      → later line ≡ s.new → ((other : ℕ) → other ≢ line → later other ≡ old other)
      → ((other : ℕ) → On other ((if line == other then thing ∷ [] else []) ++ happened_on other more) (old other))
      → (other : ℕ) → On other (happened_on other more) (later other)
  talks_after line thing more old later s there elsewhere each other = by (line == other) refl (each other)
    where
      by : (b : Bool) → (line == other) ≡ b → On other ((if b then thing ∷ [] else []) ++ happened_on other more) (old other) → On other (happened_on other more) (later other)
      by true on o = subst (λ (n : ℕ). On n (happened_on n more) (later n)) (eqb-true line other on) (subst (λ (b : Bus). On line (happened_on line more) b) (sym there) s.then_on)
      by false off o = subst (λ (b : Bus). On other (happened_on other more) b) (sym (elsewhere other (λ (e : other ≡ line). (let on = eq-eqb line other (sym e) in let bad : true ≡ false = sym on ∙ off in cc)))) o

  -- ---- all things

  abbrev IsHouse : ℕ → State → List Turn → Type 0
  IsHouse budget state turns = (new : Buses) × House budget sends state turns new

  more_turns : (budget : ℕ) (state : State) (before : List Turn) (turn : Turn) (rest : List Turn) → IsHouse budget state ((before ++ turn ∷ []) ++ rest) → IsHouse budget state (before ++ turn ∷ rest)
  more_turns budget state before turn rest house = subst (λ (ts : List Turn). IsHouse budget state ts) (append_assoc before (turn ∷ []) rest) house

  line_of : (line : ℕ) (thing : Happening) (more : List Happening) (bus : Bus) → On line ((if line == line then thing ∷ [] else []) ++ happened_on line more) bus → On line (thing ∷ happened_on line more) bus
  line_of line thing more bus o = subst (λ (b : Bool). On line ((if b then thing ∷ [] else []) ++ happened_on line more) bus) (eq-eqb line line refl) o

  along : (budget : ℕ) (state : State) (before : List Turn) (happened : List Happening) (buses : Buses) → House budget sends state before buses
      → IsChain budget (leads (opened state) before) (happened_turns happened) → AllByRecursion IsOfLines (happened_turns happened)
      → ((line : ℕ) → On line (happened_on line happened) (buses line)) → IsHouse budget state (before ++ happened_turns happened)
  along budget state before [] buses house chain of each = (buses, subst (λ (ts : List Turn). House budget sends state ts buses) (sym (append-nil before)) house)
  along budget state before (tells line told ∷ more) buses house chain of each =
      let s = here line (tells line told) more (buses line) (line_of line (tells line told) more (buses line) (each line)) in
      along budget state before more buses house chain of (talks_after line (tells line told) more buses buses s (sym s.done) (λ other ne. refl) each)
  along budget state before (does (starts line meter, answer) ∷ more) buses house chain of each =
      let thing : Happening = does (starts line meter, answer) in
      let s = here line thing more (buses line) (line_of line thing more (buses line) (each line)) in
      let m = begins_on line meter answer buses s.new s.done in
      more_turns budget state before (starts line meter, answer) (happened_turns more)
      (along budget state (before ++ (starts line meter, answer) ∷ []) more m.later (goes_on (starts line meter) answer (m.passes budget state before house) chain.0 m.on refl)
      (subst (λ (c : Core). IsChain budget c (happened_turns more)) (sym (leads_push (opened state) before (starts line meter, answer))) chain.1) of.1
      (talks_after line thing more buses m.later s m.there m.elsewhere each))
  along budget state before (does (asks line, answer) ∷ more) buses house chain of each =
      let thing : Happening = does (asks line, answer) in
      let s = here line thing more (buses line) (line_of line thing more (buses line) (each line)) in
      let m = asks_on line answer buses s.new s.done in
      more_turns budget state before (asks line, answer) (happened_turns more)
      (along budget state (before ++ (asks line, answer) ∷ []) more m.later (goes_on (asks line) answer (m.passes budget state before house) chain.0 m.on refl)
      (subst (λ (c : Core). IsChain budget c (happened_turns more)) (sym (leads_push (opened state) before (asks line, answer))) chain.1) of.1
      (talks_after line thing more buses m.later s m.there m.elsewhere each))
  along budget state before (does (hears line moment bytes, answer) ∷ more) buses house chain of each =
      let thing : Happening = does (hears line moment bytes, answer) in
      let s = here line thing more (buses line) (line_of line thing more (buses line) (each line)) in
      let m = hears_on line moment bytes answer buses s.new s.done in
      more_turns budget state before (hears line moment bytes, answer) (happened_turns more)
      (along budget state (before ++ (hears line moment bytes, answer) ∷ []) more m.later (goes_on (hears line moment bytes) answer (m.passes budget state before house) chain.0 m.on refl)
      (subst (λ (c : Core). IsChain budget c (happened_turns more)) (sym (leads_push (opened state) before (hears line moment bytes, answer))) chain.1) of.1
      (talks_after line thing more buses m.later s m.there m.elsewhere each))
  along budget state before (does (commits, answer) ∷ more) buses house chain of each =
      more_turns budget state before (commits, answer) (happened_turns more)
      (along budget state (before ++ (commits, answer) ∷ []) more buses (goes_on commits answer house chain.0 refl refl)
      (subst (λ (c : Core). IsChain budget c (happened_turns more)) (sym (leads_push (opened state) before (commits, answer))) chain.1) of.1
      (λ (line : ℕ).
      let s = here line (does (commits, answer)) more (buses line) (each line) in
      subst (λ (b : Bus). On line (happened_on line more) b) s.done s.then_on))
  along budget state before (does (offices text, answer) ∷ more) buses house chain of each = absurd of.0

  begun : (line : ℕ) (happened : List Happening) (bus : Bus) → TalksOn g sends line happened bus → On line (happened_on line happened) bus
  begun line happened bus t = record { first = t.first; last = t.last; on = happened_on line happened; on_is = refl; talk = t.talk; waits = subst (λ (r : Request). Waits r bus) (sym t.none_out) tt; of_meters = t.of_meters }

pub polls_are_whole : {B : Type 0} (g : Link B) → PollsAreWhole g
polls_are_whole g budget sends state before happened buses sound house chain of talks =
    let goes = along g sends budget state before happened buses house chain of (λ line. begun g sends line happened (buses line) (talks line)) in
    record { buses = goes.0; house = goes.1; whole = λ prefix is. each_reading_is_whole budget sends state (before ++ happened_turns happened) goes.0 prefix sound goes.1 is }
