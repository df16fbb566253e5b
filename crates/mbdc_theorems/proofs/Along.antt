-- A readout, round after round (the theorems of specs/Readout): a readout beside no others, with room in the register.
use Rattle.std.proofs.Common.{◌≡◌, ◌≢◌, ◌⊎◌, inl, inr, ℕ, ◌+◌, ◌*◌, ◌≤◌, ◌<◌, Bool, true, false, Option, Some, None, Result, Ok, Err, List, [], ◌∷◌, ◌++◌, length, drop, arith, refl, sym, ◌∙◌, ap, subst}
use Rattle.std.specs.Prelude.{option_map, IsSome}
use Rattle.std.specs.List.{AllByRecursion}
use Rattle.std.proofs.Math.Seq.{drop-append_seam}
use Rattle.std.proofs.lemmas.Bool.{false≢true}
use Rattle.dc_linkframe.specs.Frame.{FrameSeen, spelling}
use Rattle.dc_linkframe.specs.Reading.{frame_of}
use Rattle.dc_linkframe.proofs.Spellings.{frame_of-spelling}
use Rattle.dc_address.specs.declared.identity.Identity.{Identity}
use Rattle.dc_records.specs.Body.{continues}
use Rattle.dc_records.specs.Telegram.{Parsed}
use Rattle.dc_readout.specs.declared.stage.Stage.{Stage}
use Rattle.dc_readout.specs.declared.stage.Stage.TheVariants.{Resets, Selects, Requests, Pending, Ended}
use Rattle.dc_readout.specs.Summary.{Summary, Verdict, again, ready, new, failed, asked_at, asked_by, verdict_by, heard_by, after_command, settled_by}
use Rattle.dc_readout.specs.Taken.{IsTaken}
use Rattle.dc_readout.proofs.Taken.{taken}
use Rattle.dc_readout.specs.declared.world.event.Outcome.{Outcome}
use Rattle.dc_readout.specs.declared.world.event.Outcome.TheVariants.{AsSent}
use Rattle.dc_readout.specs.Meter.{Meter}
use Rattle.dc_readout.specs.World.{heard_in}
use Rattle.dc_readout.proofs.Asked.{sent_frame}
use Rattle.mbdc_change.specs.Accepts.{refusal}
use Rattle.mbdc_change.specs.Apply.{applied, with_row}
use Rattle.mbdc_change.specs.History.{after}
use Rattle.mbdc_change.specs.Size.{size_of}
use Rattle.mbdc_change.specs.State.{State, MeterRow, row_of}
use Rattle.mbdc_change.proofs.History.{after_of_push}
use Rattle.dc_core.specs.Lines.{is_line, settled_at, settled_on}
use Rattle.dc_core.specs.Taking.{change_of}
use Rattle.dc_core.specs.declared.line_heard.LineHeard.{LineHeard}
use Rattle.dc_core.specs.declared.line_heard.LineHeard.TheVariants.{Again, Ready, Accepted}
use Rattle.dc_core.specs.declared.fault.HearFault.{HearFault}
use Rattle.dc_core.specs.declared.fault.HearFault.TheVariants.{NoMemory}
use Rattle.dc_core.specs.Core.{Core, present, session_of}
use Rattle.dc_core.specs.Step.{MayHear, ask_answer, hear_answer, verdict_answer, session_after, judged, after_hear, settled_core}
use Rattle.dc_core.proofs.Registered.{row_of_same}
use Rattle.mbdc_theorems.specs.Beside.{Bus, bus_at_first, bus_after, IsNextPart, IsTakenUnlessFull}
use Rattle.mbdc_theorems.specs.Readout.{MayBeRead, room_for, IsRead, requests_of, GoesWell, ReadoutsEnd, RunsThrough, UndisturbedReadoutsEnd, Scene, Round, IsRound, scene_after, AreRounds, scene_behind, begun_on, losses_by, losses_in, row_after, LoseFew}
use Rattle.mbdc_theorems.proofs.Beside.{FactsOf, Going, Asks, Known, IsAt, Over as OverBeside, begins, asked_on_it, heard_at, commit_by, fits_at, part_at, begun_session, begun_core, on_first, asks_first, going_first, bounds, asked_for, asks_here}
use Rattle.mbdc_theorems.proofs.Left.{IsLeft}
use Rattle.mbdc_theorems.proofs.Others.{some_more}
use Rattle.mbdc_theorems.proofs.Parts.{drop_next}
use Rattle.mbdc_theorems.proofs.Register.{Holds, row_same, told_by, told_is, unrefused, read_now, joined_is, holds_more, reads, less_room}
use Rattle.mbdc_theorems.proofs.Rounds.{Settled, Told, asks_nothing, right_answer, still_running, never_memory, hear_is, hears_new, settled_behind}

present_settled : (old : Core) (line : ℕ) (session : Option Summary) (now : Core) → Settled old line session now → present now ≡ present old
present_settled old line session now settled = ap (after now.committed) settled.none_waits ∙ settled.register

-- a commit leaves a session that asks
asking_stays : (stage : Stage) (meter : Identity) (address : Option ℕ) (n : ℕ) (frame : FrameSeen) (s : Summary) → asked_at stage meter address n ≡ Some frame → settled_at stage s ≡ Some s
asking_stays Resets meter address n frame s asks = refl
asking_stays Selects meter address n frame s asks = refl
asking_stays Requests meter address n frame s asks = refl
asking_stays (Pending more) meter address n frame s asks = absurd cc
asking_stays Ended meter address n frame s asks = refl

-- and one whose command was acknowledged
ready_stays : (stage : Stage) (address : Option ℕ) (s : Summary) → settled_at (after_command stage address) s ≡ Some s
ready_stays Resets None s = refl
ready_stays Resets (Some a) s = refl
ready_stays Selects address s = refl
ready_stays Requests address s = refl
ready_stays (Pending more) address s = refl
ready_stays Ended address s = refl

module _ (budget line : ℕ) (meters : List Meter) (start : Scene) (place : ℕ) (meter : Meter) (row : MeterRow) (parts : List (List ℕ)) (may : MayBeRead budget line meters start place meter row parts) where
  abbrev pub total : ℕ
  total = requests_of meter.address parts

  abbrev pub first : State
  first = present start.core

  -- as much as the register has once the meter is read
  abbrev pub bound : ℕ
  bound = size_of first + room_for row.flat parts

  abbrev GoingIs : Core → Type 0
  GoingIs core = Going budget line meters start place meter row parts may.begins ⊥ core

  abbrev AsksIt : Bus → Core → Type 0
  AsksIt bus core = Asks budget line meters start place meter row parts may.begins ⊥ bus core

  abbrev KnownIs : Bus → Core → Type 0
  KnownIs bus core = Known budget line meters start place meter row parts may.begins ⊥ bus core

  abbrev OverIs : Bus → Core → Type 0
  OverIs bus core = OverBeside budget line meters start place meter row parts may.begins ⊥ bus core

  on_it : is_line line ≡ true
  on_it = (begins budget line meters start place meter row parts may.begins ⊥).0

  -- ---- what holds before each round

  -- but for the open parts of the meter the register is the first one, and it has room for the rest
  pub record Held (s : Summary) (core : Core) : Type 0 where
    pub quiet : s.stage ≡ Requests → core.pending ≡ []
    pub now : MeterRow
    pub state_is : present core ≡ with_row meter.identity now first
    pub room : size_of (present core) + room_for row.flat (drop s.settled parts) ≤ bound

  pub record Runs (bus : Bus) (core : Core) : Type 0 where
    pub going : GoingIs core
    pub asks : AsksIt bus core
    pub held : Held asks.facts.running.session core

  pub record Over (bus : Bus) (core : Core) : Type 0 where
    pub all : IsLeft total bus.heard bus.lost 0 0
    pub goes : core.stopped ≡ false
    pub small : size_of core.committed ≤ bound
    pub read : IsRead line meter.identity row parts start.core core

  abbrev pub Behind : Bus → Core → Type 0
  Behind bus core = Runs bus core ⊎ Over bus core

  -- where nothing is pending, a session that is on the line asks
  asks_on : (bus : Bus) (core : Core) (later : Summary) → session_of core line ≡ Some later → core.pending ≡ [] → KnownIs bus core → (y : AsksIt bus core) × (y.facts.running.session ≡ later)
  asks_on bus core later on none k = by k.at
    where
      by : IsAt budget line meters start place meter row parts may.begins ⊥ bus core → (y : AsksIt bus core) × (y.facts.running.session ≡ later)
      by (inl y) = (y, (let same : Some y.facts.running.session ≡ Some later = sym y.on ∙ on in cc))
      by (inr (inl w)) = absurd (w.pends none)
      by (inr (inr o)) = absurd (let bad : Some later ≡ None = sym on ∙ o.free in cc)

  over_on : (bus : Bus) (core : Core) → session_of core line ≡ None → core.pending ≡ [] → KnownIs bus core → OverIs bus core
  over_on bus core free none k = by k.at
    where
      by : IsAt budget line meters start place meter row parts may.begins ⊥ bus core → OverIs bus core
      by (inl y) = absurd (let bad : Some y.facts.running.session ≡ None = sym y.on ∙ free in cc)
      by (inr (inl w)) = absurd (w.pends none)
      by (inr (inr o)) = o

  -- ---- a round

  module _ (bus : Bus) (core : Core) (x : Runs bus core) where
    abbrev f : FactsOf budget line meters start place meter row parts may.begins ⊥ bus (present core)
    f = x.asks.facts

    abbrev s : Summary
    s = x.asks.facts.running.session

    pub due_frame : (frame : FrameSeen) × (asked_by s ≡ Some frame)
    due_frame = asked_for budget line meters start place meter row parts may.begins ⊥ bus core x.asks

    pub due_is : ask_answer core line ≡ option_map spelling (asked_by s)
    due_is = asks_here budget line meters start place meter row parts may.begins ⊥ bus core x.going x.asks

    pub some_due : ask_answer core line ≡ None → ⊥
    some_due none =
        let asks = due_frame in
        let bad : option_map spelling (Some asks.0) ≡ None = sym (ap (option_map spelling) asks.1) ∙ sym due_is ∙ none in
        cc

    pub within : (bus.heard < total + bus.lost) × (bus.heard < 3 * total)
    within = bounds budget line meters start place meter row parts may.begins ⊥ bus (present core) f

    module _ (outcome : Outcome) (request : List ℕ) (frame : FrameSeen) (moment : ℕ) (answer : Result LineHeard HearFault) (is_asked : Some request ≡ ask_answer core line) (is_frame : frame_of request ≡ Some frame)
        (is_heard : MayHear (hear_answer budget core line moment (heard_in outcome frame meters bus.positions)) answer) (memory : answer ≢ Err NoMemory) (few : row_after bus.row outcome < 3) where
      abbrev bytes : List ℕ
      bytes = heard_in outcome frame meters bus.positions

      abbrev waiting : Bus
      waiting = record bus { waits = frame_of request }

      abbrev next_bus : Bus
      next_bus = bus_after meters outcome frame bus

      abbrev heard_core : Core
      heard_core = after_hear core line moment bytes answer

      abbrev last_core : Core
      last_core = settled_core heard_core heard_core.pending

      sent : KnownIs waiting core
      sent = asked_on_it budget line meters start place meter row parts may.begins ⊥ bus core request is_asked (record { going = x.going; at = inl x.asks })

      asks_it : asked_by s ≡ Some frame
      asks_it = sym (sent_frame (asked_by s) request (is_asked ∙ due_is)) ∙ is_frame

      right : answer ≡ hear_answer budget core line moment bytes
      right = right_answer (hear_answer budget core line moment bytes) answer is_heard memory

      right_by : (v : Verdict) → verdict_by s bytes ≡ v → hear_answer budget core line moment bytes ≡ verdict_answer budget core moment v
      right_by v e = hear_is budget line core s on_it x.going.goes x.asks.on moment bytes frame asks_it ∙ ap (verdict_answer budget core moment) e

      fits : IsTakenUnlessFull (hear_answer budget core line moment bytes)
      fits = fits_at budget line meters start place meter row parts may.begins ⊥ waiting core moment bytes outcome frame is_frame (inl refl) few sent.going sent.at

      -- what is known after the commit
      known : (good : LineHeard) → answer ≡ Ok good → KnownIs next_bus last_core
      known good is =
          let given : KnownIs next_bus (after_hear core line moment bytes (Ok good)) =
          heard_at budget line meters start place meter row parts may.begins ⊥ waiting core moment bytes outcome frame is_frame (inl refl) few sent in
          let one : KnownIs next_bus heard_core = subst (λ (c : Core). KnownIs next_bus c) (sym (ap (after_hear core line moment bytes) is)) given in
          commit_by budget line meters start place meter row parts may.begins ⊥ next_bus heard_core one.going heard_core.pending one.at

      -- where it leads, and that its answer was taken
      pub record Went : Type 0 where
        pub behind : Behind next_bus last_core
        pub is_told : Told answer

      -- no telegram came: the session goes on from here
      goes_on : (v : Verdict) (good : LineHeard) (later : Summary) → answer ≡ Ok good → verdict_by s bytes ≡ v → session_after s v ≡ Some later → settled_on (Some later) ≡ Some later
          → present (judged core line moment s v) ≡ present core → later.settled ≡ s.settled → Runs next_bus last_core
      goes_on v good later is verdict after_it stays same settled_same =
          let settled = settled_behind budget line core s on_it x.going.goes x.asks.on moment bytes answer good v (Some later) is verdict x.going.eight (λ none. after_it) (ap settled_on after_it ∙ stays) in
          let k = known good is in
          let y = asks_on next_bus last_core later settled.on settled.none_waits k in
          let register : present last_core ≡ present core = present_settled (judged core line moment s v) line (Some later) last_core settled ∙ same in
          let count : y.0.facts.running.session.settled ≡ s.settled = ap (λ (z : Summary). z.settled) y.1 ∙ settled_same in
          record {
            going = k.going;
            asks = y.0;
            held = record {
              quiet = λ e. settled.none_waits;
              now = x.held.now;
              state_is = register ∙ x.held.state_is;
              room = subst (λ (n : ℕ). size_of (present last_core) + room_for row.flat (drop n parts) ≤ bound) (sym count)
                  (subst (λ (st : State). size_of st + room_for row.flat (drop s.settled parts) ≤ bound) (sym register) x.held.room);
            };
          }

      -- a telegram is taken
      module _ (part : ℕ) (t : Parsed) (is_new : verdict_by s bytes ≡ new part t) where
        took : IsTaken s part t
        took = taken s bytes part t is_new

        abbrev session : Summary
        session = heard_by s (new part t)

        abbrev change_core : Core
        change_core = judged core line moment s (new part t)

        own_part : (s.meter ≡ meter.identity) × IsNextPart (drop s.settled parts) (verdict_by s bytes)
        own_part = part_at budget line meters start place meter row parts may.begins ⊥ waiting core s bytes outcome frame x.asks.on is_frame (inl refl) few sent.going sent.at

        next : IsNextPart (drop s.settled parts) (new part t)
        next = subst (IsNextPart (drop s.settled parts)) is_new own_part.1

        own : t.header.identity ≡ meter.identity
        own = took.own ∙ own_part.0

        abbrev now_row : MeterRow
        now_row = record row { parts = f.holds.opened }

        now_is : x.held.now ≡ now_row
        now_is =
            let both : Some x.held.now ≡ Some now_row = sym (row_of_same meter.identity row x.held.now first may.begins.registered) ∙ ap (row_of meter.identity) (sym x.held.state_is) ∙ f.holds.found in
            cc

        holds : (limit : ℕ) → bound ≤ limit → Holds limit meter.identity row first f.past (t.body ∷ next.0) (present core)
        holds limit most = record {
          opened = f.holds.opened;
          state_is = x.held.state_is ∙ ap (λ (r : MeterRow). with_row meter.identity r first) now_is;
          are_open = f.holds.are_open;
          room =
              let here = subst (λ (left : List (List ℕ)). size_of (present core) + room_for row.flat left ≤ bound) next.1 x.held.room in
              omega (arith, here, most);
        }

        tight : Holds bound meter.identity row first f.past (t.body ∷ next.0) (present core)
        tight = holds bound (omega arith)

        is_taken : answer ≡ Ok (Accepted part (continues t.ending))
        is_taken =
            right ∙ hears_new budget line core s on_it x.going.goes x.asks.on moment bytes frame part t asks_it is_new (x.held.quiet took.was_asked)
            (subst (λ (n : ℕ). refusal budget (change_of moment n t) (present core) ≡ None) (sym took.next_part)
            (unrefused budget s.settled moment meter.identity row first f.past next.0 t.body t (present core) may.begins.registered f.count own refl may.serial (holds budget may.room)))

        settled : (more : Bool) → continues t.ending ≡ more → Settled change_core line (settled_at (Pending more) session) last_core
        settled more is =
            settled_behind budget line core s on_it x.going.goes x.asks.on moment bytes answer (Accepted part (continues t.ending)) (new part t) (settled_at (Pending more) session) is_taken is_new x.going.eight
            (λ none. absurd (some_more core.pending (change_of moment part t) none)) (ap (λ (b : Bool). settled_at (Pending b) session) is)

        abbrev told_then : Bool → State
        told_then more = told_by bound s.settled moment meter.identity row first f.past next.0 t.body t (present core) may.begins.registered f.count own refl may.serial tight more

        present_then : (more : Bool) → continues t.ending ≡ more → present last_core ≡ told_then more
        present_then more is =
            present_settled change_core line (settled_at (Pending more) session) last_core (settled more is)
            ∙ after_of_push core.committed core.pending (change_of moment part t)
            ∙ ap (λ (n : ℕ). applied (change_of moment n t) (present core)) took.next_part
            ∙ told_is bound s.settled moment meter.identity row first f.past next.0 t.body t (present core) may.begins.registered f.count own refl may.serial tight
            ∙ ap told_then is

        goes_on_reading : continues t.ending ≡ true → Runs next_bus last_core
        goes_on_reading more =
            let c = settled true more in
            let k = known (Accepted part (continues t.ending)) is_taken in
            let y = asks_on next_bus last_core (settled_by session) c.on c.none_waits k in
            let count : y.0.facts.running.session.settled ≡ s.settled + 1 = ap (λ (z : Summary). z.settled) y.1 in
            let rest : drop (s.settled + 1) parts ≡ next.0 = drop_next s.settled parts t.body next.0 next.1 in
            let h = holds_more bound s.settled moment meter.identity row first f.past next.0 t.body t (present core) may.begins.registered f.count own refl may.serial tight in
            let register = present_then true more in
            record {
              going = k.going;
              asks = y.0;
              held = record {
                quiet = λ e. c.none_waits;
                now = record row { parts = h.opened };
                state_is = register ∙ h.state_is;
                room = subst (λ (n : ℕ). size_of (present last_core) + room_for row.flat (drop n parts) ≤ bound) (sym count)
                    (subst (λ (left : List (List ℕ)). size_of (present last_core) + room_for row.flat left ≤ bound) (sym rest)
                    (subst (λ (st : State). size_of st + room_for row.flat next.0 ≤ bound) (sym register) h.room));
              };
            }

        is_read : continues t.ending ≡ false → Over next_bus last_core
        is_read last =
            let c = settled false last in
            let k = known (Accepted part (continues t.ending)) is_taken in
            let over = over_on next_bus last_core c.on c.none_waits k in
            let committed_is : last_core.committed ≡ told_then false = sym (ap (after last_core.committed) c.none_waits) ∙ present_then false last in
            let none : next.0 ≡ [] = next.2 last in
            let here : drop s.settled parts ≡ f.left = ap (λ (n : ℕ). drop n parts) (sym f.count) ∙ ap (drop (length f.past)) (sym f.parts_are) ∙ drop-append_seam f.past f.left in
            let left : t.body ∷ [] ≡ f.left = ap (λ (l : List (List ℕ)). t.body ∷ l) (sym none) ∙ sym next.1 ∙ here in
            record {
              all = over.all;
              goes = k.going.goes;
              small = subst (λ (st : State). size_of st ≤ bound) (sym committed_is)
                  (less_room bound s.settled moment meter.identity row first f.past next.0 t.body t (present core) may.begins.registered f.count own refl may.serial tight false);
              read = record {
                free = c.on;
                none_waits = c.none_waits;
                read = read_now bound s.settled moment meter.identity row first f.past next.0 t.body t (present core) may.begins.registered f.count own refl may.serial tight;
                bodies_are =
                    joined_is bound s.settled moment meter.identity row first f.past next.0 t.body t (present core) may.begins.registered f.count own refl may.serial tight
                    ∙ ap (λ (l : List (List ℕ)). f.past ++ l) left ∙ f.parts_are;
                register =
                    committed_is
                    ∙ reads bound s.settled moment meter.identity row first f.past next.0 t.body t (present core) may.begins.registered f.count own refl may.serial tight;
              };
            }

        leads_on : (more : Bool) → continues t.ending ≡ more → Behind next_bus last_core
        leads_on true is = inl (goes_on_reading is)
        leads_on false is = inr (is_read is)

        taken_so : Went
        taken_so = record { behind = leads_on (continues t.ending) refl; is_told = record { good = Accepted part (continues t.ending); is = is_taken; goes_on = tt } }

      went_by : (v : Verdict) → verdict_by s bytes ≡ v → Went
      went_by again e = record {
        behind = inl (goes_on again Again (heard_by s again) (right ∙ right_by again e) e refl (asking_stays s.stage s.meter s.address s.settled frame (heard_by s again) asks_it) refl refl);
        is_told = record { good = Again; is = right ∙ right_by again e; goes_on = tt };
      }
      went_by ready e = record {
        behind = inl (goes_on ready Ready (heard_by s ready) (right ∙ right_by ready e) e refl (ready_stays s.stage s.address (heard_by s ready)) refl refl);
        is_told = record { good = Ready; is = right ∙ right_by ready e; goes_on = tt };
      }
      went_by (new part t) e = taken_so part t e
      went_by (failed why) e = absurd (subst IsTakenUnlessFull (right_by (failed why) e) fits)

      pub went : Went
      went = went_by (verdict_by s bytes) refl

  pub at_first : Runs (bus_at_first start.positions) (begun_core budget line meters start place meter row parts may.begins ⊥)
  at_first =
      let y = asks_first budget line meters start place meter row parts may.begins ⊥ in
      let session : Summary = begun_session budget line meters start place meter row parts may.begins ⊥ in
      let same : y.facts.running.session ≡ session =
      (let both : Some y.facts.running.session ≡ Some session = sym y.on ∙ on_first budget line meters start place meter row parts may.begins ⊥ in cc) in
      record {
        going = going_first budget line meters start place meter row parts may.begins ⊥ (λ none. absurd none);
        asks = y;
        held = record {
          quiet = λ e. absurd (let bad : Resets ≡ Requests = sym (ap (λ (z : Summary). z.stage) same) ∙ e in cc);
          now = row;
          state_is = sym (row_same meter.identity row first may.begins.registered);
          room = subst (λ (n : ℕ). size_of first + room_for row.flat (drop n parts) ≤ bound) (sym (ap (λ (z : Summary). z.settled) same)) (omega arith);
        };
      }

  -- ---- all rounds

  -- the bus after this many rounds with this many losses, of which the last ones were in a row
  abbrev bus_of : ℕ → ℕ → ℕ → Scene → Bus
  bus_of done lost tries scene = record { positions = scene.positions; waits = None; heard = done; lost = lost; row = tries }

  abbrev Ends : ℕ → ℕ → Scene → Type 0
  Ends done lost scene = (tries : ℕ) × Behind (bus_of done lost tries scene) scene.core

  along : (rounds : List Round) (done lost tries : ℕ) (scene : Scene) → Behind (bus_of done lost tries scene) scene.core → AreRounds budget line meters scene rounds → LoseFew tries rounds
      → Ends (done + length rounds) (lost + losses_in rounds) (scene_behind budget line meters scene rounds)
  along [] done lost tries scene x are few =
      let a : done ≡ done + 0 = omega arith in
      let b : lost ≡ lost + 0 = omega arith in
      subst (λ (k : ℕ). Ends k (lost + 0) scene) a (subst (λ (k : ℕ). Ends done k scene) b (tries, x))
  along (r ∷ rounds) done lost tries scene (inl x) are few =
      let is = are.0 in
      let a : done + 1 + length rounds ≡ done + length (r ∷ rounds) = omega arith in
      let b : lost + losses_by r.outcome + losses_in rounds ≡ lost + losses_in (r ∷ rounds) = omega arith in
      let last : Scene = scene_behind budget line meters (scene_after budget line meters scene r) rounds in
      let one = went (bus_of done lost tries scene) scene.core x r.outcome r.request r.frame r.moment r.answer is.chain.0 is.is_frame is.chain.1.0 is.memory few.0 in
      subst (λ (k : ℕ). Ends k (lost + losses_in (r ∷ rounds)) last) a (subst (λ (k : ℕ). Ends (done + 1 + length rounds) k last) b
      (along rounds (done + 1) (lost + losses_by r.outcome) (row_after tries r.outcome) (scene_after budget line meters scene r) one.behind are.1 few.1))
  along (r ∷ rounds) done lost tries scene (inr over) are few = absurd (let asks = are.0.chain.0 ∙ asks_nothing scene.core line over.read.free in cc)

  abbrev first_scene : Scene
  first_scene = begun_on line meter.identity start

  behind_all : (rounds : List Round) → AreRounds budget line meters first_scene rounds → LoseFew 0 rounds → Ends (length rounds) (losses_in rounds) (scene_behind budget line meters first_scene rounds)
  behind_all rounds are few =
      let a : 0 + length rounds ≡ length rounds = omega arith in
      let b : 0 + losses_in rounds ≡ losses_in rounds = omega arith in
      let last : Scene = scene_behind budget line meters first_scene rounds in
      subst (λ (k : ℕ). Ends k (losses_in rounds) last) a (subst (λ (k : ℕ). Ends (0 + length rounds) k last) b (along rounds 0 0 0 first_scene (inl at_first) are few))

  -- another round can be done
  next_round : (done lost tries : ℕ) (scene : Scene) → Runs (bus_of done lost tries scene) scene.core → (outcome : Outcome) (moment : ℕ)
      → (r : Round) × (r.outcome ≡ outcome) × (r.moment ≡ moment) × IsRound budget line meters scene r
  next_round done lost tries scene x outcome moment =
      let bus : Bus = bus_of done lost tries scene in
      let asks = due_frame bus scene.core x in
      let bytes = heard_in outcome asks.0 meters scene.positions in
      let answer = hear_answer budget scene.core line moment bytes in
      let r : Round = record {
        outcome = outcome;
        request = spelling asks.0;
        frame = asks.0;
        moment = moment;
        answer = answer;
        count = length (after_hear scene.core line moment bytes answer).pending;
      } in (
        r,
        refl,
        refl,
        record {
          chain = (
            sym (due_is bus scene.core x ∙ ap (option_map spelling) asks.1),
            (inl refl, ((refl, inr (still_running scene.core line moment bytes answer ∙ x.going.goes)), tt)),
          );
          is_frame = frame_of-spelling asks.0;
          memory = never_memory budget scene.core line moment bytes;
        },
      )

  goes_well : (rounds : List Round) (scene : Scene) → Ends (length rounds) (losses_in rounds) scene → GoesWell budget line meters start meter row parts rounds scene
  goes_well rounds scene (tries, inl x) =
      let b = within (bus_of (length rounds) (losses_in rounds) tries scene) scene.core x in
      let fewer = b.0 in
      let third = b.1 in
      record {
        within = omega (arith, fewer);
        thrice = omega (arith, third);
        goes_on = λ some outcome moment. next_round (length rounds) (losses_in rounds) tries scene x outcome moment;
        ends = λ none. absurd (some_due (bus_of (length rounds) (losses_in rounds) tries scene) scene.core x none);
      }
  goes_well rounds scene (tries, inr over) =
      let most = over.all.most in
      let third = over.all.thrice in
      let none : ask_answer scene.core line ≡ None = asks_nothing scene.core line over.read.free in
      record {
        within = omega (arith, most);
        thrice = omega (arith, third);
        goes_on = λ some outcome moment. absurd (false≢true (subst IsSome none some));
        ends = λ end. over.read;
      }

  -- ---- where nothing is lost

  abbrev AreSent : List Round → Type 0
  AreSent rounds = AllByRecursion (λ (r : Round). r.outcome ≡ AsSent) rounds

  none_are_lost : (rounds : List Round) → AreSent rounds → losses_in rounds ≡ 0
  none_are_lost [] sent = refl
  none_are_lost (r ∷ rounds) sent =
      let one = ap losses_by sent.0 in
      let rest = none_are_lost rounds sent.1 in
      omega (arith, one, rest)

  loses_few : (rounds : List Round) (tries : ℕ) → AreSent rounds → LoseFew tries rounds
  loses_few [] tries sent = tt
  loses_few (r ∷ rounds) tries sent = (let none = ap (row_after tries) sent.0 in omega (arith, none), loses_few rounds (row_after tries r.outcome) sent.1)

  runs_through : (rounds : List Round) (scene : Scene) → losses_in rounds ≡ 0 → Ends (length rounds) (losses_in rounds) scene → RunsThrough budget line meters start meter row parts rounds scene
  runs_through rounds scene none (tries, inl x) =
      let fewer = (within (bus_of (length rounds) (losses_in rounds) tries scene) scene.core x).0 in
      record {
        within = omega (arith, fewer, none);
        goes_on = λ more moment. next_round (length rounds) (losses_in rounds) tries scene x AsSent moment;
        ends = λ all. absurd (omega (arith, fewer, none, all));
      }
  runs_through rounds scene none (tries, inr over) =
      let most = over.all.most in
      let least = over.all.least in
      record {
        within = omega (arith, most, none);
        goes_on = λ more moment. absurd (omega (arith, least, more));
        ends = λ end. over.read;
      }

pub readouts_end : ReadoutsEnd
readouts_end budget line meters scene place meter row parts rounds may are few =
    goes_well budget line meters scene place meter row parts may rounds (scene_behind budget line meters (begun_on line meter.identity scene) rounds)
    (behind_all budget line meters scene place meter row parts may rounds are few)

pub undisturbed_readouts_end : UndisturbedReadoutsEnd
undisturbed_readouts_end budget line meters scene place meter row parts rounds may are sent =
    runs_through budget line meters scene place meter row parts may rounds (scene_behind budget line meters (begun_on line meter.identity scene) rounds)
    (none_are_lost budget line meters scene place meter row parts may rounds sent)
    (behind_all budget line meters scene place meter row parts may rounds are (loses_few budget line meters scene place meter row parts may rounds 0 sent))
