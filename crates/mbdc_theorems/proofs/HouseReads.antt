-- In a house a meter that may be read is read, over a line that loses little: its readout, turn after turn.
use Rattle.std.proofs.Common.{◌≡◌, ◌≢◌, inl, inr, ℕ, zero, suc, ◌+◌, ◌*◌, ◌≤◌, ◌<◌, true, false, Option, Some, None, Result, Ok, Err, List, [], ◌∷◌, ◌++◌, length, arith, refl, sym, ◌∙◌, ap, subst, append_assoc}
use Rattle.std.specs.Prelude.{option_map}
use Rattle.dc_linkframe.specs.Frame.{FrameSeen, spelling}
use Rattle.dc_linkframe.specs.Reading.{frame_of}
use Rattle.dc_linkframe.proofs.Spellings.{frame_of-spelling}
use Rattle.dc_readout.specs.declared.world.event.Outcome.{Outcome}
use Rattle.dc_readout.specs.declared.world.event.Outcome.TheVariants.{AsSent}
use Rattle.dc_readout.specs.Meter.{Meter, Position}
use Rattle.dc_readout.specs.World.{heard_in, positions_after}
use Rattle.dc_readout.proofs.Events.{length-after}
use Rattle.mbdc_change.specs.declared.change.Change.{Change}
use Rattle.mbdc_change.specs.State.{State, MeterRow}
use Rattle.dc_core.specs.declared.line_heard.LineHeard.{LineHeard}
use Rattle.dc_core.specs.declared.fault.HearFault.{HearFault}
use Rattle.dc_core.specs.declared.fault.HearFault.TheVariants.{NoMemory}
use Rattle.dc_core.specs.Core.{Core, opened, present, session_of}
use Rattle.dc_core.specs.Lines.{is_line}
use Rattle.mbdc_change.specs.Size.{size_of}
use Rattle.dc_core.specs.Event.{Event, Answer, starts, asks, hears, commits, started, asked, heard, committed}
use Rattle.dc_core.specs.Step.{May, next, ask_answer, hear_answer, after_hear, settled_core}
use Rattle.dc_core.specs.Transcript.{Turn, leads, accepted_by}
use Rattle.dc_core.specs.Headline.{IsPrefix, accepted}
use Rattle.dc_core.proofs.Going.{accepted_push, leads_push}
use Rattle.mbdc_theorems.specs.Beside.{Bus as Line, bus_at_first, bus_after}
use Rattle.mbdc_theorems.specs.House.{Sends, Bus, Buses, House, goes_on, IsExchanged, IsOnBuses, put_bus, quiet, standings}
use Rattle.mbdc_theorems.specs.Readout.{IsRead, MayBeRead, Scene, begun_on, requests_of, room_for, row_after}
use Rattle.mbdc_theorems.proofs.Along.{Behind, at_first, due_frame, due_is, went, within}
use Rattle.mbdc_theorems.proofs.Houses.{put_elsewhere, put_there}
use Rattle.mbdc_theorems.proofs.Outcomes.{lossy_lines_are_buses}
use Rattle.mbdc_theorems.proofs.Rounds.{never_memory, still_running}
use Rattle.mbdc_theorems.proofs.Rows.{all_free, commit_free}

-- what the line does to each exchange; all after these are as sent
abbrev outcome_of : List Outcome → Outcome
outcome_of [] = AsSent
outcome_of (outcome ∷ plan) = outcome

abbrev rest_of : List Outcome → List Outcome
rest_of [] = []
rest_of (outcome ∷ plan) = plan

-- nothing is lost three times in a row, where so many losses came before
abbrev pub LosesFew : ℕ → List Outcome → Type 0
LosesFew row [] = Unit {0}
LosesFew row (outcome ∷ plan) = (row_after row outcome < 3) × LosesFew (row_after row outcome) plan

few_now : (row : ℕ) (plan : List Outcome) → LosesFew row plan → row_after row (outcome_of plan) < 3
few_now row [] few = omega arith
few_now row (outcome ∷ plan) few = few.0

few_then : (row : ℕ) (plan : List Outcome) → LosesFew row plan → LosesFew (row_after row (outcome_of plan)) (rest_of plan)
few_then row [] few = tt
few_then row (outcome ∷ plan) few = few.1

module _ (budget : ℕ) (sends : Sends) (state : State) (kept : List Change) (line : ℕ) (meters : List Meter) where
  -- A life of the house, in which these changes were accepted first. The meters of the line are at these positions.
  pub record Lives (turns : List Turn) (buses : Buses) (positions : List Position) (core : Core) : Type 0 where
    pub house : House budget sends state turns buses
    pub leads_to : leads (opened state) turns ≡ core
    pub has : IsPrefix kept (accepted state turns)
    pub waits : Option (List ℕ)
    pub on_line : buses line ≡ record { meters = standings meters positions; answer = waits }
    pub counted : length positions ≡ length meters

  pub one_turn : (turns : List Turn) (old new : Buses) (before positions : List Position) (core later : Core) (event : Event) (answer : Answer) (waits : Option (List ℕ)) → Lives turns old before core → May budget core event answer → IsOnBuses event answer old new
      → next core event answer ≡ later → new line ≡ record { meters = standings meters positions; answer = waits } → length positions ≡ length meters → Lives (turns ++ (event, answer) ∷ []) new positions later
  one_turn turns old new before positions core later event answer waits l may on is at counted = record {
    house = goes_on event answer l.house (subst (λ (c : Core). May budget c event answer) (sym l.leads_to) may) on refl;
    leads_to = leads_push (opened state) turns (event, answer) ∙ ap (λ (c : Core). next c event answer) l.leads_to ∙ is;
    has = (
      l.has.0 ++ accepted_by (leads (opened state) turns) event answer,
      accepted_push (opened state) turns (event, answer) ∙ ap (λ (cs : List Change). cs ++ accepted_by (leads (opened state) turns) event answer) l.has.1
          ∙ append_assoc kept l.has.0 (accepted_by (leads (opened state) turns) event answer),
    );
    waits = waits;
    on_line = at;
    counted = counted;
  }

  -- ---- a round

  pub record Moved (old : Buses) (before : Core) (positions : List Position) (core : Core) : Type 0 where
    pub turns : List Turn
    pub buses : Buses
    pub lives : Lives turns buses positions core
    pub others : (other : ℕ) → other ≢ line → buses other ≡ old other
    pub free : (other : ℕ) → is_line other ≡ true → other ≢ line → session_of before other ≡ None → session_of core other ≡ None

  module _ (turns : List Turn) (old : Buses) (positions : List Position) (core : Core) (l : Lives turns old positions core) (outcome : Outcome) (frame : FrameSeen) (request : List ℕ) (moment : ℕ) (good : LineHeard) where
    abbrev bytes : List ℕ
    bytes = heard_in outcome frame meters positions

    abbrev after_it : List Position
    after_it = positions_after outcome frame meters positions

    abbrev heard_core : Core
    heard_core = after_hear core line moment bytes (Ok good)

    abbrev exchanged : Bus
    exchanged = record { meters = standings meters after_it; answer = Some bytes }

    abbrev buses_1 : Buses
    buses_1 = put_bus line exchanged old

    abbrev buses_2 : Buses
    buses_2 = put_bus line (quiet (buses_1 line)) buses_1

    a_round : Some request ≡ ask_answer core line → frame_of request ≡ Some frame → Ok good ≡ hear_answer budget core line moment bytes → core.stopped ≡ false → Moved old core after_it (settled_core heard_core heard_core.pending)
    a_round is_asked is_frame right goes =
        let there : buses_1 line ≡ exchanged = put_there line line exchanged old refl in
        let quiet_there : buses_2 line ≡ record { meters = standings meters after_it; answer = None } = put_there line line (quiet (buses_1 line)) buses_1 refl ∙ ap quiet there in
        let count : length after_it ≡ length meters = length-after outcome frame meters positions l.counted in
        let one = one_turn turns old buses_1 positions after_it core core (asks line) (asked (Some request)) (Some bytes) l is_asked (
          exchanged,
          record {
            request = frame;
            frame_is = is_frame;
            exchanged = subst (λ (b : Bus). IsExchanged frame b exchanged) (sym l.on_line) (lossy_lines_are_buses meters positions l.waits outcome frame bytes (inr refl));
          },
          refl,
        ) refl there count in
        let two = one_turn (turns ++ (asks line, asked (Some request)) ∷ []) buses_1 buses_2 after_it after_it core heard_core (hears line moment bytes) (heard (Ok good)) None one (inl right)
        (ap (λ (b : Bus). b.answer) there, refl) refl quiet_there count in
        let three = one_turn ((turns ++ (asks line, asked (Some request)) ∷ []) ++ (hears line moment bytes, heard (Ok good)) ∷ []) buses_2 buses_2 after_it after_it heard_core (settled_core heard_core heard_core.pending)
        commits (committed (Ok (length heard_core.pending))) None two (refl, inr (still_running core line moment bytes (Ok good) ∙ goes)) refl refl quiet_there count in
        record {
          turns = ((turns ++ (asks line, asked (Some request)) ∷ []) ++ (hears line moment bytes, heard (Ok good)) ∷ []) ++ (commits, committed (Ok (length heard_core.pending))) ∷ [];
          buses = buses_2;
          lives = three;
          others = λ other ne. put_elsewhere line other (quiet (buses_1 line)) buses_1 ne ∙ put_elsewhere line other exchanged old ne;
          free = λ other is ne none. commit_free heard_core other (length heard_core.pending)
              (all_free budget other is core ((asks line, asked (Some request)) ∷ (hears line moment bytes, heard (Ok good)) ∷ []) ((λ e. ne (sym e)), ((λ e. ne (sym e)), tt)) (is_asked, (inl right, tt)) none);
        }

  -- ---- all rounds

  module _ (start : Scene) (place : ℕ) (meter : Meter) (row : MeterRow) (parts : List (List ℕ)) (may : MayBeRead budget line meters start place meter row parts) where
    abbrev total : ℕ
    total = requests_of meter.address parts

    -- the meter is read, and the other lines are as before
    pub record WasRead (old : Buses) : Type 0 where
      pub positions : List Position
      pub core : Core
      pub moved : Moved old start.core positions core
      pub runs : core.stopped ≡ false
      pub small : size_of core.committed ≤ size_of (present start.core) + room_for row.flat parts
      pub read : IsRead line meter.identity row parts start.core core

    reads_on : (fuel : ℕ) (plan : List Outcome) (turns : List Turn) (first old : Buses) (bus : Line) (core : Core) → Lives turns old bus.positions core → ((other : ℕ) → other ≢ line → old other ≡ first other)
        → ((other : ℕ) → is_line other ≡ true → other ≢ line → session_of start.core other ≡ None → session_of core other ≡ None)
        → Behind budget line meters start place meter row parts may bus core → LosesFew bus.row plan → 3 * total ≤ bus.heard + fuel → WasRead first
    reads_on fuel plan turns first old bus core l others free (inr over) few enough =
        record { positions = bus.positions; core = core; moved = record { turns = turns; buses = old; lives = l; others = others; free = free }; runs = over.goes; small = over.small; read = over.read }
    reads_on zero plan turns first old bus core l others free (inl x) few enough =
        let less = (within budget line meters start place meter row parts may bus core x).1 in
        absurd (omega (arith, enough, less))
    reads_on (suc fuel) plan turns first old bus core l others free (inl x) few enough =
        let outcome = outcome_of plan in
        let due = due_frame budget line meters start place meter row parts may bus core x in
        let bytes = heard_in outcome due.0 meters bus.positions in
        let right = hear_answer budget core line 0 bytes in
        let is_asked : Some (spelling due.0) ≡ ask_answer core line = sym (due_is budget line meters start place meter row parts may bus core x ∙ ap (option_map spelling) due.1) in
        let now = few_now bus.row plan few in
        let told = (went budget line meters start place meter row parts may bus core x outcome (spelling due.0) due.0 0 right is_asked (frame_of-spelling due.0) (inl refl) (never_memory budget core line 0 bytes) now).is_told in
        let gone = went budget line meters start place meter row parts may bus core x outcome (spelling due.0) due.0 0 (Ok told.good) is_asked (frame_of-spelling due.0) (inl (sym told.is)) (not_wanting told.good) now in
        let one = a_round turns old bus.positions core l outcome due.0 (spelling due.0) 0 told.good is_asked (frame_of-spelling due.0) (sym told.is) x.going.goes in
        reads_on fuel (rest_of plan) one.turns first one.buses (bus_after meters outcome due.0 bus) (settled_core (after_hear core line 0 bytes (Ok told.good)) (after_hear core line 0 bytes (Ok told.good)).pending) one.lives
        (λ other ne. one.others other ne ∙ others other ne) (λ other is ne none. one.free other is ne (free other is ne none)) gone.behind (few_then bus.row plan few) (omega (arith, enough))
      where
        not_wanting : (good : LineHeard) → ◌≡◌ {A = Result LineHeard HearFault} (Ok good) (Err NoMemory) → ⊥
        not_wanting good e = cc

    -- from the start of its readout on
    pub is_read_in : (plan : List Outcome) (turns : List Turn) (old : Buses) → Lives turns old start.positions start.core → LosesFew 0 plan → WasRead old
    is_read_in plan turns old l few =
        let begun_buses : Buses = put_bus line (quiet (old line)) old in
        let l1 = one_turn turns old begun_buses start.positions start.positions start.core (begun_on line meter.identity start).core (starts line meter.identity) (started (Ok tt)) None l (sym may.begins.may_start) refl refl
        (put_there line line (quiet (old line)) old refl ∙ ap quiet l.on_line) l.counted in
        reads_on (3 * total) plan (turns ++ (starts line meter.identity, started (Ok tt)) ∷ []) old begun_buses (bus_at_first start.positions) (begun_on line meter.identity start).core l1
        (λ other ne. put_elsewhere line other (quiet (old line)) old ne)
        (λ other is ne none. all_free budget other is start.core ((starts line meter.identity, started (Ok tt)) ∷ []) ((λ e. ne (sym e)), tt) (sym may.begins.may_start, tt) none) (inl (at_first budget line meters start place meter row parts may)) few (omega arith)
