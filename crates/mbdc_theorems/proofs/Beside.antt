-- A readout beside those of other lines, turn after turn (the theorem of specs/Beside).
use Rattle.std.proofs.Common.{◌≡◌, ◌≢◌, ◌⊎◌, inl, inr, ⊎_elim, ℕ, ◌+◌, ◌*◌, ◌-◌, ◌≤◌, ◌<◌, Bool, true, false, Option, Some, None, Ok, Err, List, [], ◌∷◌, ◌++◌, length, map, drop, get_or, arith, refl, sym, ◌∙◌, ap, subst, length-append, append_assoc, get_or-set_same, get_or-set_other}
use Rattle.std.specs.Prelude.{slice_get, option_map, unwrap_or, is_some, if◌then◌else◌, IsSome, nat_le}
use Rattle.std.specs.List.{AllByRecursion}
use Rattle.std.proofs.Math.ListN.{set}
use Rattle.std.proofs.Math.Seq.{drop-append_seam}
use Rattle.std.proofs.lemmas.List.{length-map, length-set}
use Rattle.std.proofs.lemmas.Bool.{cases_eq}
use Rattle.dc_linkframe.specs.Frame.{FrameSeen, spelling}
use Rattle.dc_linkframe.specs.Reading.{frame_of}
use Rattle.dc_linkframe.proofs.Spellings.{frame_of-spelling}
use Rattle.dc_address.specs.declared.identity.Identity.{Identity}
use Rattle.dc_records.specs.Body.{continues}
use Rattle.dc_readout.specs.declared.stage.Stage.{Stage}
use Rattle.dc_readout.specs.declared.stage.Stage.TheVariants.{Resets, Selects, Requests, Pending, Ended}
use Rattle.dc_readout.specs.Session.{commands}
use Rattle.dc_readout.specs.Summary.{Summary, Verdict, again, ready, new, begun, asked_at, asked_by, verdict_by, heard_by, after_command, settled_by, stage_settled}
use Rattle.dc_readout.specs.declared.world.event.Outcome.{Outcome}
use Rattle.dc_readout.specs.declared.world.event.Outcome.TheVariants.{RequestLost, ReplyLost, ReplyUnreadable, AsSent}
use Rattle.dc_readout.specs.Meter.{Meter, Position}
use Rattle.dc_readout.specs.World.{World, Running, positions_after, heard_in, running_after, exchanged_as, started_by, more_after, joined, kept, whole_readout}
use Rattle.dc_readout.specs.InStep.{Agrees, IsRegularWorld}
use Rattle.dc_readout.proofs.Asked.{sent_frame}
use Rattle.dc_readout.proofs.Commits.{commit_keeps}
use Rattle.dc_readout.proofs.Events.{exchange_keeps, start_keeps}
use Rattle.mbdc_change.specs.declared.change.Change.{Change}
use Rattle.mbdc_change.specs.State.{State, MeterRow, row_of}
use Rattle.mbdc_change.proofs.History.{after_of_push}
use Rattle.dc_core.specs.Lines.{is_line, line_count, settled_at, settled_on, settled_lines}
use Rattle.dc_core.specs.Taking.{change_of}
use Rattle.dc_core.specs.Waiting.{most_waiting}
use Rattle.mbdc_change.specs.Accepts.{refusal}
use Rattle.dc_core.specs.declared.fault.HearFault.TheVariants.{Stopped}
use Rattle.dc_core.specs.declared.line_heard.LineHeard.{LineHeard}
use Rattle.dc_core.specs.Core.{Core, present, session_of, with_session}
use Rattle.dc_core.specs.Event.{Event, Answer, starts, asks, hears, commits, offices, started, asked, heard}
use Rattle.dc_core.specs.Step.{May, next, MayHear, and_pending, is_on, address_in, ask_answer, hear_answer, answer_on, verdict_answer, session_after, judged, heard_on, settled_core}
use Rattle.dc_core.specs.Transcript.{Turn, leads, IsChain}
use Rattle.dc_core.proofs.Followed.{get_settled}
use Rattle.mbdc_theorems.specs.Beside.{Bus, bus_at_first, bus_after, IsElsewhere, Serves, rests, asks_it, has_none, gives_it, commits_it, goes_by, IsOnlyOn, HasRead, IsHeardOn, IsNoFailure, IsNextPart, IsTakenUnlessFull, GoesBeside, ReadoutsEndBesideOthers}
use Rattle.mbdc_theorems.specs.Readout.{IsOwnTelegram, CanBegin, requests_of, IsHeard, Scene, begun_on, losses_by, row_after}
use Rattle.mbdc_theorems.proofs.Heard.{Judged, who, resets_all, resets_again, selects_again, requests_again, resets, selects, requests, same_verdict}
use Rattle.mbdc_theorems.proofs.Rounds.{asks_nothing, right_answer, asked_is, hear_is, room_alone}
use Rattle.mbdc_theorems.proofs.Left.{IsLeft, IsDue, within_due, one_less, one_lost, some_asked}
use Rattle.mbdc_theorems.proofs.Own.{Open, Telegram, some_left, telegram, told_by, told_is, open_more, is_read}
use Rattle.mbdc_theorems.proofs.Others.{not_both, start_parts, row_line, heard_line, places_differ, low_place, settled_meter, session_meter, some_more, pending_none, Keeps, judged_keeps}

-- ---- the readout

module _ (budget line : ℕ) (meters : List Meter) (start : Scene) (place : ℕ) (meter : Meter) (row : MeterRow) (parts : List (List ℕ)) (may : CanBegin line meters start place meter row parts) (Others : Type 0) where
  abbrev pub total : ℕ
  total = requests_of meter.address parts

  abbrev first : State
  first = present start.core

  pub begins : (is_line line ≡ true) × (start.core.stopped ≡ false) × (is_on line (row_of meter.identity first) ≡ true)
  begins = start_parts (is_line line) start.core.stopped (is_on line (row_of meter.identity first)) (is_some (session_of start.core line)) tt (sym may.may_start)

  on_line : row.line ≡ line
  on_line = row_line line (row_of meter.identity first) row may.registered begins.2

  abbrev pub OpenAt : List (List ℕ) → State → Type 0
  OpenAt past state = Open first meter row parts past state

  abbrev TelegramAt : ℕ → List (List ℕ) → Type 0
  TelegramAt settled left = Telegram first meter row parts settled left

  abbrev pub Read : State → Type 0
  Read state = HasRead meter.identity row parts first state

  -- what is known of a readout that goes on, after this many exchanges with this many losses
  pub record Facts (positions : List Position) (done lost tries : ℕ) (state : State) : Type 0 where
    pub world : World
    pub running : Running
    pub regular : IsRegularWorld meters world
    pub runs : world.running ≡ Some running
    pub stand : world.positions ≡ positions
    pub place_is : running.meter ≡ place
    pub stage : Stage
    pub stage_is : running.session.stage ≡ stage
    pub past : List (List ℕ)
    pub left : List (List ℕ)
    pub count : length past ≡ running.session.settled
    pub parts_are : past ++ left ≡ parts
    pub whole : whole_readout (drop running.session.settled meter.bodies) ≡ Some left
    pub own : AllByRecursion (IsOwnTelegram meter.identity) left
    pub tried : running.session.tries ≤ tries
    pub few : tries < 3
    pub due : IsDue total stage running.session.address done lost tries (length left)
    pub holds : OpenAt past state

  abbrev pub FactsOf : Bus → State → Type 0
  FactsOf bus state = Facts bus.positions bus.heard bus.lost bus.row state

  pub record Finished (bus : Bus) (state : State) : Type 0 where
    pub all : IsLeft total bus.heard bus.lost 0 0
    pub read : Read state

  -- ---- what holds after each turn

  -- no other line reads the meter, if others are read at all
  pub record Going (core : Core) : Type 0 where
    pub goes : core.stopped ≡ false
    pub eight : length core.lines ≡ line_count
    pub others : Others → (k : ℕ) (s : Summary) → k ≢ line - 1 → get_or core.lines k None ≡ Some s → s.meter ≢ meter.identity

  pub record Asks (bus : Bus) (core : Core) : Type 0 where
    pub facts : FactsOf bus (present core)
    pub on : session_of core line ≡ Some facts.running.session
    pub out : (frame : FrameSeen) → bus.waits ≡ Some frame → asked_by facts.running.session ≡ Some frame

  abbrev pub AfterCommit : Option Summary → Bus → State → Type 0
  AfterCommit (Some s) bus state = (f : FactsOf bus state) × (f.running.session ≡ s)
  AfterCommit None bus state = Finished bus state

  pub record Waits (bus : Bus) (core : Core) : Type 0 where
    pub session : Summary
    pub on : session_of core line ≡ Some session
    pub asks_none : asked_by session ≡ None
    pub silent : bus.waits ≡ None
    pub pends : core.pending ≢ []
    pub later : AfterCommit (settled_on (Some session)) bus (present core)

  pub record Over (bus : Bus) (core : Core) : Type 0 where
    pub free : session_of core line ≡ None
    pub silent : bus.waits ≡ None
    pub all : IsLeft total bus.heard bus.lost 0 0
    pub kept_read : Read core.committed
    pub read : Read (present core)

  abbrev pub IsAt : Bus → Core → Type 0
  IsAt bus core = Asks bus core ⊎ (Waits bus core ⊎ Over bus core)

  pub record Known (bus : Bus) (core : Core) : Type 0 where
    pub going : Going core
    pub at : IsAt bus core

  -- ---- another state of the register, in which the meter is as before

  abbrev Same : State → State → Type 0
  Same old fresh = Keeps meter.identity old fresh

  open_kept : (past : List (List ℕ)) (old fresh : State) → Same old fresh → OpenAt past old → OpenAt past fresh
  open_kept past old fresh same held = record { opened = held.opened; found = same.rows (record row { parts = held.opened }) held.found; are_open = held.are_open; readings = same.readings ∙ held.readings }

  abbrev facts_kept : (bus : Bus) (old fresh : State) → Same old fresh → FactsOf bus old → FactsOf bus fresh
  facts_kept bus old fresh same f = record {
    world = f.world;
    running = f.running;
    regular = f.regular;
    runs = f.runs;
    stand = f.stand;
    place_is = f.place_is;
    stage = f.stage;
    stage_is = f.stage_is;
    past = f.past;
    left = f.left;
    count = f.count;
    parts_are = f.parts_are;
    whole = f.whole;
    own = f.own;
    tried = f.tried;
    few = f.few;
    due = f.due;
    holds = open_kept f.past old fresh same f.holds;
  }

  read_kept : (old fresh : State) → Same old fresh → Read old → Read fresh
  read_kept old fresh same read = record { serial = read.serial; read = read.read; bodies_are = read.bodies_are; one_more = same.readings ∙ read.one_more; none_open = same.rows (record row { parts = [] }) read.none_open }

  after_kept : (o : Option Summary) (bus : Bus) (old fresh : State) → Same old fresh → AfterCommit o bus old → AfterCommit o bus fresh
  after_kept (Some s) bus old fresh same a = (facts_kept bus old fresh same a.0, a.1)
  after_kept None bus old fresh same a = record { all = a.all; read = read_kept old fresh same a.read }

  -- ---- turns of other lines

  -- the session of the line stays, and so does what is committed
  beside : (bus : Bus) (core fresh : Core) → session_of fresh line ≡ session_of core line → fresh.committed ≡ core.committed → (fresh.pending ≡ [] → core.pending ≡ []) → Same (present core) (present fresh) → IsAt bus core → IsAt bus fresh
  beside bus core fresh on kept_on pends same (inl x) = inl (record { facts = facts_kept bus (present core) (present fresh) same x.facts; on = on ∙ x.on; out = x.out })
  beside bus core fresh on kept_on pends same (inr (inl x)) = inr (inl (record {
    session = x.session;
    on = on ∙ x.on;
    asks_none = x.asks_none;
    silent = x.silent;
    pends = λ e. x.pends (pends e);
    later = after_kept (settled_on (Some x.session)) bus (present core) (present fresh) same x.later;
  }))
  beside bus core fresh on kept_on pends same (inr (inr x)) =
      inr (inr (record { free = on ∙ x.free; silent = x.silent; all = x.all; kept_read = subst Read (sym kept_on) x.kept_read; read = read_kept (present core) (present fresh) same x.read }))

  abbrev IsOther : Option Summary → Type 0
  IsOther session = (s : Summary) → session ≡ Some s → s.meter ≢ meter.identity

  going_at : (core : Core) (other : ℕ) (session : Option Summary) (pending : List Change) → is_line other ≡ true → other ≢ line → IsOther session → Going core → Going (record (with_session other session core) { pending = pending })
  going_at core other session pending is ne fresh g = record {
    goes = g.goes;
    eight = length-set core.lines (other - 1) session ∙ g.eight;
    others = λ some k s away there. ⊎_elim
        (λ (e : k ≡ other - 1).
        let here : get_or (set core.lines (other - 1) session) k None ≡ session =
        ap (λ (j : ℕ). get_or (set core.lines (other - 1) session) j None) e ∙ get_or-set_same core.lines (other - 1) session None (low_place other core.lines is g.eight) in
        fresh s (sym here ∙ there))
        (λ (apart : k ≢ other - 1). g.others some k s away (sym (get_or-set_other core.lines (other - 1) k session None apart) ∙ there))
        (cases_eq k (other - 1));
  }

  stays_on : (core : Core) (other : ℕ) (session : Option Summary) → is_line other ≡ true → other ≢ line → get_or (set core.lines (other - 1) session) (line - 1) None ≡ session_of core line
  stays_on core other session is ne = get_or-set_other core.lines (other - 1) (line - 1) session None (places_differ line other begins.0 is ne)

  -- the register stays
  with_other : (bus : Bus) (core : Core) (other : ℕ) (session : Option Summary) → is_line other ≡ true → other ≢ line → IsOther session → Known bus core → Known bus (with_session other session core)
  with_other bus core other session is ne fresh k = record {
    going = going_at core other session core.pending is ne fresh k.going;
    at = beside bus core (with_session other session core) (stays_on core other session is ne) refl (λ e. e) (record { rows = λ r found. found; readings = refl }) k.at;
  }

  -- the meter's row is on its own line
  own_row : (bus : Bus) (core : Core) → IsAt bus core → (r : MeterRow) × (row_of meter.identity (present core) ≡ Some r) × (r.line ≡ line)
  own_row bus core (inl x) = (record row { parts = x.facts.holds.opened }, x.facts.holds.found, on_line)
  own_row bus core (inr (inl x)) = by (settled_on (Some x.session)) x.later
    where
      by : (o : Option Summary) → AfterCommit o bus (present core) → (r : MeterRow) × (row_of meter.identity (present core) ≡ Some r) × (r.line ≡ line)
      by (Some s) a = (record row { parts = a.0.holds.opened }, a.0.holds.found, on_line)
      by None a = (record row { parts = [] }, a.read.none_open, on_line)
  own_row bus core (inr (inr x)) = (record row { parts = [] }, x.read.none_open, on_line)

  starts_beside : (bus : Bus) (core : Core) (other : ℕ) (m : Identity) (done : Unit {0}) → other ≢ line → May budget core (starts other m) (started (Ok done)) → Known bus core → Known bus (next core (starts other m) (started (Ok done)))
  starts_beside bus core other m done ne is k =
      let b = start_parts (is_line other) core.stopped (is_on other (row_of m (present core))) (is_some (session_of core other)) done is in
      let own = own_row bus core k.at in
      let apart : m ≢ meter.identity = λ same.
      ne (sym (row_line other (row_of m (present core)) own.0 (ap (λ (i : Identity). row_of i (present core)) same ∙ own.1) b.2) ∙ own.2) in
      let session : Summary = begun m (address_in (row_of m (present core))) in
      with_other bus core other (Some session) b.0 ne (λ s e. let same : session ≡ s = cc in subst (λ (x : Summary). x.meter ≢ meter.identity) same apart) k

  module _ (bus : Bus) (core : Core) (other moment : ℕ) (bytes : List ℕ) (is : is_line other ≡ true) (ne : other ≢ line) (some : Others) (k : Known bus core) where
    judged_beside : (s : Summary) (v : Verdict) → s.meter ≢ meter.identity → verdict_by s bytes ≡ v → Known bus (judged core other moment s v)
    judged_beside s v apart e = record {
      going = going_at core other (session_after s v) (and_pending moment core.pending v) is ne (λ x there. subst (λ (i : Identity). i ≢ meter.identity) (sym (session_meter s x v there)) apart) k.going;
      at = beside bus core (judged core other moment s v) (stays_on core other (session_after s v) is ne) refl (pending_none moment core.pending v)
          (judged_keeps meter.identity core other moment bytes s v apart e) k.at;
    }

    heard_beside : (session : Option Summary) → session_of core other ≡ session → Known bus (heard_on core other moment bytes session)
    heard_beside None on = k
    heard_beside (Some s) on = judged_beside s (verdict_by s bytes) (k.going.others some (other - 1) s (λ same. places_differ line other begins.0 is ne (sym same)) on) refl

  hears_beside : (bus : Bus) (core : Core) (other moment : ℕ) (bytes : List ℕ) (good : LineHeard) → other ≢ line → Others → May budget core (hears other moment bytes) (heard (Ok good)) → Known bus core → Known bus (next core (hears other moment bytes) (heard (Ok good)))
  hears_beside bus core other moment bytes good ne some is k =
      heard_beside bus core other moment bytes
      (heard_line (is_line other) (if core.stopped then Err Stopped else answer_on budget core moment bytes (session_of core other)) good is) ne some k (session_of core other) refl

  elsewhere : (bus : Bus) (core : Core) (event : Event) (answer : Answer) → IsElsewhere line event → Others → May budget core event answer → Known bus core → Known bus (next core event answer)
  elsewhere bus core (starts other m) (started (Ok done)) ne some is k = starts_beside bus core other m done ne is k
  elsewhere bus core (starts other m) (started (Err fault)) ne some is k = k
  elsewhere bus core (starts other m) answer ne some is k = absurd is
  elsewhere bus core (asks other) (asked answer) ne some is k = k
  elsewhere bus core (asks other) answer ne some is k = absurd is
  elsewhere bus core (hears other moment bytes) (heard (Ok good)) ne some is k = hears_beside bus core other moment bytes good ne some is k
  elsewhere bus core (hears other moment bytes) (heard (Err fault)) ne some is k = k
  elsewhere bus core (hears other moment bytes) answer ne some is k = absurd is
  elsewhere bus core commits answer ne some is k = absurd ne
  elsewhere bus core (offices text) answer ne some is k = absurd ne

  -- ---- a commit

  stays_asking : (stage : Stage) (address : Option ℕ) (done lost tries left : ℕ) (s : Summary) → s.stage ≡ stage → IsDue total stage address done lost tries left → settled_on (Some s) ≡ Some s
  stays_asking Resets address done lost tries left s is due = ap (λ (x : Stage). settled_at x s) is
  stays_asking Selects address done lost tries left s is due = ap (λ (x : Stage). settled_at x s) is
  stays_asking Requests address done lost tries left s is due = ap (λ (x : Stage). settled_at x s) is
  stays_asking (Pending more) address done lost tries left s is due = absurd due
  stays_asking Ended address done lost tries left s is due = absurd due

  module _ (bus : Bus) (core : Core) (g : Going core) where
    abbrev settled_now : Core
    settled_now = record core { committed = present core; pending = []; lines = settled_lines core.lines }

    going_settled : Going settled_now
    going_settled = record {
      goes = g.goes;
      eight = length-map core.lines settled_on ∙ g.eight;
      others = λ some k s away there.
          let old = settled_meter (get_or core.lines k None) s (sym (get_settled core.lines k) ∙ there) in
          subst (λ (i : Identity). i ≢ meter.identity) old.2 (g.others some k old.0 away old.1);
    }

    settled_to : (o : Option Summary) → session_of settled_now line ≡ o → bus.waits ≡ None → AfterCommit o bus (present core) → IsAt bus settled_now
    settled_to (Some s) on silent a = inl (record { facts = a.0; on = on ∙ ap Some (sym a.1); out = λ frame e. absurd (let bad = sym silent ∙ e in cc) })
    settled_to None on silent a = inr (inr (record { free = on; silent = silent; all = a.all; kept_read = a.read; read = a.read }))

    at_settled : IsAt bus core → IsAt bus settled_now
    at_settled (inl x) =
        let f = x.facts in
        let stays = stays_asking f.stage f.running.session.address bus.heard bus.lost bus.row (length f.left) f.running.session f.stage_is f.due in
        inl (record { facts = f; on = get_settled core.lines (line - 1) ∙ ap settled_on x.on ∙ stays; out = x.out })
    at_settled (inr (inl x)) = settled_to (settled_on (Some x.session)) (get_settled core.lines (line - 1) ∙ ap settled_on x.on) x.silent x.later
    at_settled (inr (inr x)) = inr (inr (record { free = get_settled core.lines (line - 1) ∙ ap settled_on x.free; silent = x.silent; all = x.all; kept_read = x.read; read = x.read }))

    pub commit_by : (pending : List Change) → IsAt bus core → Known bus (settled_core core pending)
    commit_by [] at = record { going = g; at = at }
    commit_by (change ∷ changes) at = record { going = going_settled; at = at_settled at }

  -- ---- a request of the readout

  asks_none_of : (core : Core) (s : Summary) → Going core → session_of core line ≡ Some s → asked_by s ≡ None → ask_answer core line ≡ None
  asks_none_of core s g on none = asked_is budget line core s begins.0 g.goes on ∙ ap (option_map spelling) none

  pub asked_on_it : (bus : Bus) (core : Core) (request : List ℕ) → Some request ≡ ask_answer core line → Known bus core → Known (record bus { waits = frame_of request }) core
  asked_on_it bus core request is k = record { going = k.going; at = by k.at }
    where
      now : Bus
      now = record bus { waits = frame_of request }

      by : IsAt bus core → IsAt now core
      by (inl x) =
          let s = x.facts.running.session in
          let sent : frame_of request ≡ asked_by s = sent_frame (asked_by s) request (is ∙ asked_is budget line core s begins.0 k.going.goes x.on) in
          inl (record { facts = x.facts; on = x.on; out = λ frame e. sym sent ∙ e })
      by (inr (inl x)) = absurd (let bad = is ∙ asks_none_of core x.session k.going x.on x.asks_none in cc)
      by (inr (inr x)) = absurd (let bad = is ∙ asks_nothing core line x.free in cc)

  -- ---- its answer

  module _ (bus : Bus) (core : Core) (moment : ℕ) (g : Going core) (x : Asks bus core) (outcome : Outcome) (frame : FrameSeen) (waits : bus.waits ≡ Some frame) (few : row_after bus.row outcome < 3) where
    abbrev f : FactsOf bus (present core)
    f = x.facts

    abbrev s : Summary
    s = x.facts.running.session

    abbrev bytes : List ℕ
    bytes = heard_in outcome frame meters bus.positions

    abbrev now : Bus
    now = bus_after meters outcome frame bus

    place_there : slice_get meters f.running.meter ≡ Some meter
    place_there = ap (slice_get meters) f.place_is ∙ may.there.stands

    agrees : Agrees meters f.world f.running
    agrees = f.regular.agrees f.running f.runs

    abbrev Judgement : Verdict → Type 0
    Judgement v = Judged meters f.world f.running outcome v

    frame_is : (v : Verdict) (j : Judgement v) → frame ≡ j.frame
    frame_is v j = let same : Some frame ≡ Some j.frame = sym (x.out frame waits) ∙ j.asks in cc

    judged_here : (v : Verdict) (j : Judgement v) → verdict_by s bytes ≡ v
    judged_here v j =
        ap (λ (fr : FrameSeen). verdict_by s (heard_in outcome fr meters bus.positions)) (frame_is v j)
        ∙ ap (λ (positions : List Position). verdict_by s (heard_in outcome j.frame meters positions)) (sym f.stand)
        ∙ j.verdict

    stand_then : (v : Verdict) (j : Judgement v) → positions_after outcome j.frame meters f.world.positions ≡ now.positions
    stand_then v j = ap (positions_after outcome j.frame meters) f.stand ∙ ap (λ (fr : FrameSeen). positions_after outcome fr meters bus.positions) (sym (frame_is v j))

    going_then : (v : Verdict) → Going (judged core line moment s v)
    going_then v = record {
      goes = g.goes;
      eight = length-set core.lines (line - 1) (session_after s v) ∙ g.eight;
      others = λ some k y away there. g.others some k y away (sym (get_or-set_other core.lines (line - 1) k (session_after s v) None away) ∙ there);
    }

    on_then : (v : Verdict) → session_of (judged core line moment s v) line ≡ session_after s v
    on_then v = get_or-set_same core.lines (line - 1) (session_after s v) None (low_place line core.lines begins.0 g.eight)

    -- no telegram came: the session goes on from here
    goes_on_by : (v : Verdict) (j : Judgement v) (session : Summary) (stage : Stage) → session_after s v ≡ Some session → running_after v f.running ≡ Some (record f.running { session = session }) → session.stage ≡ stage → session.settled ≡ s.settled → session.address ≡ s.address
        → present (judged core line moment s v) ≡ present core → session.tries ≤ now.row → IsDue total stage s.address now.heard now.lost now.row (length f.left) → Known now (judged core line moment s v)
    goes_on_by v j session stage after_it world_after stage_now settled_same address_same same tried due = record {
      going = going_then v;
      at = inl (record {
        facts = record {
          world = exchanged_as meters outcome j.frame f.running f.world;
          running = record f.running { session = session };
          regular = exchange_keeps meters may.there.regular f.world f.running outcome j.frame f.regular f.runs j.asks;
          runs = ap (λ (y : Verdict). running_after y f.running) j.verdict ∙ world_after;
          stand = stand_then v j;
          place_is = f.place_is;
          stage = stage;
          stage_is = stage_now;
          past = f.past;
          left = f.left;
          count = f.count ∙ sym settled_same;
          parts_are = f.parts_are;
          whole = ap (λ (n : ℕ). whole_readout (drop n meter.bodies)) settled_same ∙ f.whole;
          own = f.own;
          tried = tried;
          few = few;
          due = subst (λ (o : Option ℕ). IsDue total stage o now.heard now.lost now.row (length f.left)) (sym address_same) due;
          holds = subst (OpenAt f.past) (sym same) f.holds;
        };
        on = on_then v ∙ after_it;
        out = λ fr e. absurd cc;
      });
    }

    record Went : Type 0 where
      verdict : Verdict
      is : verdict_by s bytes ≡ verdict
      fits : IsTakenUnlessFull (verdict_answer budget core moment verdict)
      part : IsNextPart (drop s.settled parts) verdict
      known : Known now (judged core line moment s verdict)

    ready_runs : (j : Judgement ready) (stage : Stage) → after_command f.stage s.address ≡ stage → IsDue total stage s.address now.heard now.lost now.row (length f.left) → Went
    ready_runs j stage next_stage due = record {
      verdict = ready;
      is = judged_here ready j;
      fits = tt;
      part = tt;
      known = goes_on_by ready j (heard_by s ready) stage refl refl (ap (λ (y : Stage). after_command y s.address) f.stage_is ∙ next_stage) refl refl refl (omega arith) due;
    }

    again_runs : (j : Judgement again) (stage : Stage) → f.stage ≡ stage → s.tries + 1 ≤ now.row → IsDue total stage s.address now.heard now.lost now.row (length f.left) → Went
    again_runs j stage e tried due = record {
      verdict = again;
      is = judged_here again j;
      fits = tt;
      part = tt;
      known = goes_on_by again j (heard_by s again) stage refl refl (f.stage_is ∙ e) refl refl refl tried due;
    }

    due_at : (stage : Stage) → f.stage ≡ stage → IsDue total stage s.address bus.heard bus.lost bus.row (length f.left)
    due_at stage e = subst (λ (y : Stage). IsDue total y s.address bus.heard bus.lost bus.row (length f.left)) e f.due

    less : (n left : ℕ) → IsLeft total bus.heard bus.lost bus.row n → n ≡ 1 + left → IsLeft total now.heard now.lost now.row left
    less n left due one = one_less total bus.heard bus.lost bus.row n left outcome f.few due one

    -- a telegram is taken
    module _ (p : TelegramAt s.settled f.left) (e : f.stage ≡ Requests) (sent : outcome ≡ AsSent) where
      abbrev verdict_new : Verdict
      verdict_new = new (s.settled + 1) p.t

      j : Judgement verdict_new
      j = subst (λ (o : Outcome). Judged meters f.world f.running o verdict_new) (sym sent)
          (requests meters may.there.regular f.world f.running meter agrees place_there (f.stage_is ∙ e) p.next_one.body p.t p.next_one.stands p.read p.own p.last)

      abbrev session : Summary
      session = heard_by s verdict_new

      abbrev taken_core : Core
      taken_core = judged core line moment s verdict_new

      abbrev told_then : Bool → State
      told_then more = told_by first meter row parts s.settled moment f.past p.next_one.body p.t (present core) f.count p.own p.body_is f.holds more

      present_judged : (more : Bool) → continues p.t.ending ≡ more → present taken_core ≡ told_then more
      present_judged more is =
          after_of_push core.committed core.pending (change_of moment (s.settled + 1) p.t)
          ∙ told_is first meter row parts s.settled moment f.past p.next_one.body p.t (present core) f.count p.own p.body_is f.holds
          ∙ ap told_then is

      abbrev r1 : Running
      r1 = record f.running { session = session; waiting = Some p.t.body }

      abbrev w1 : World
      w1 = exchanged_as meters outcome j.frame f.running f.world

      abbrev kept_parts : List (List ℕ)
      kept_parts = joined (s.settled + 1) p.t.body (unwrap_or (slice_get f.world.parts_open f.running.meter) [])

      regular_then : (more : Bool) → continues p.t.ending ≡ more → IsRegularWorld meters (kept more kept_parts r1 w1)
      regular_then more is =
          subst (λ (b : Bool). IsRegularWorld meters (kept b kept_parts r1 w1)) (ap more_after p.body_is ∙ p.more_is ∙ is)
          (commit_keeps meters w1 (Some r1) (exchange_keeps meters may.there.regular f.world f.running outcome j.frame f.regular f.runs j.asks) (ap (λ (v : Verdict). running_after v f.running) j.verdict))

      facts_then : continues p.t.ending ≡ true → FactsOf now (present taken_core)
      facts_then more = record {
        world = kept true kept_parts r1 w1;
        running = record r1 { session = settled_by session; waiting = None };
        regular = regular_then true more;
        runs = refl;
        stand = stand_then verdict_new j;
        place_is = f.place_is;
        stage = Requests;
        stage_is = ap (λ (b : Bool). stage_settled (Pending b)) more;
        past = f.past ++ p.next_one.body ∷ [];
        left = p.next_one.rest;
        count = let sum = length-append f.past (p.next_one.body ∷ []) in let count = f.count in omega (arith, sum, count);
        parts_are = append_assoc f.past (p.next_one.body ∷ []) p.next_one.rest ∙ ap (λ (l : List (List ℕ)). f.past ++ l) (sym p.next_one.left_is) ∙ f.parts_are;
        whole = p.next_one.goes (p.more_is ∙ more);
        own = p.others;
        tried = omega arith;
        few = few;
        due = less (length f.left) (length p.next_one.rest) (due_at Requests e) (let one = ap length p.next_one.left_is in omega (arith, one));
        holds = subst (OpenAt (f.past ++ p.next_one.body ∷ [])) (sym (present_judged true more))
            (open_more first meter row parts s.settled moment f.past p.next_one.body p.t (present core) f.count p.own p.body_is f.holds);
      }

      finished_then : continues p.t.ending ≡ false → Finished now (present taken_core)
      finished_then last =
          let none : p.next_one.rest ≡ [] = p.next_one.ends (p.more_is ∙ last) in
          let all : f.past ++ p.next_one.body ∷ [] ≡ parts =
          ap (λ (l : List (List ℕ)). f.past ++ l) (sym (p.next_one.left_is ∙ ap (λ (l : List (List ℕ)). p.next_one.body ∷ l) none)) ∙ f.parts_are in
          record {
            all = subst (λ (n : ℕ). IsLeft total now.heard now.lost n 0) (ap (row_after bus.row) sent)
                (less (length f.left) 0 (due_at Requests e) (let one = ap length p.next_one.left_is in let zero = ap length none in omega (arith, one, zero)));
            read = subst Read (sym (present_judged false last)) (is_read first meter row parts s.settled moment f.past p.next_one.body p.t (present core) f.count p.own p.body_is f.holds all);
          }

      then_by : (more : Bool) → continues p.t.ending ≡ more → AfterCommit (settled_at (Pending more) session) now (present taken_core)
      unfolding facts_then
      then_by true is = (facts_then is, refl)
      then_by false is = finished_then is

      new_step : Went
      new_step = record {
        verdict = verdict_new;
        is = judged_here verdict_new j;
        fits = room_alone (nat_le most_waiting (length core.pending)) (is_some (refusal budget (change_of moment (s.settled + 1) p.t) (present core))) (s.settled + 1) (continues p.t.ending);
        part = (
          p.next_one.rest,
          ap (λ (n : ℕ). drop n parts) (sym f.count) ∙ ap (drop (length f.past)) (sym f.parts_are) ∙ drop-append_seam f.past f.left
              ∙ p.next_one.left_is ∙ ap (λ (b : List ℕ). b ∷ p.next_one.rest) (sym p.body_is),
          λ last. p.next_one.ends (p.more_is ∙ last),
        );
        known = record {
          going = going_then verdict_new;
          at = inr (inl (record {
            session = session;
            on = on_then verdict_new;
            asks_none = refl;
            silent = refl;
            pends = some_more core.pending (change_of moment (s.settled + 1) p.t);
            later = then_by (continues p.t.ending) refl;
          }));
        };
      }

    -- a reset of all selected meters
    reset_all_step : f.stage ≡ Resets → s.address ≡ None → Went
    reset_all_step e none =
        let two : commands s.address ≡ 2 = ap commands none in
        ready_runs (resets_all meters f.world f.running outcome (f.stage_is ∙ e) none) Selects
        (ap (λ (y : Stage). after_command y s.address) e ∙ ap (after_command Resets) none)
        (subst (λ (o : Option ℕ). IsDue total Selects o now.heard now.lost now.row (length f.left)) (sym none) (less (commands s.address + length f.left) (1 + length f.left) (due_at Resets e) (omega (arith, two))))

    -- nothing is lost
    module _ (sent : outcome ≡ AsSent) where
      as_sent : (v : Verdict) → Judged meters f.world f.running AsSent v → Judgement v
      as_sent v judged_so = subst (λ (o : Outcome). Judged meters f.world f.running o v) (sym sent) judged_so

      reset_step : f.stage ≡ Resets → (address : Option ℕ) → s.address ≡ address → Went
      reset_step e None none = reset_all_step e none
      reset_step e (Some a) some =
          let one : commands s.address ≡ 1 = ap commands some in
          ready_runs (as_sent ready (resets meters may.there.regular f.world f.running meter agrees place_there (f.stage_is ∙ e))) Requests
          (ap (λ (y : Stage). after_command y s.address) e ∙ ap (after_command Resets) some)
          (less (commands s.address + length f.left) (length f.left) (due_at Resets e) (omega (arith, one)))

      select_step : f.stage ≡ Selects → (address : Option ℕ) → s.address ≡ address → Went
      select_step e None none =
          let due : IsLeft total bus.heard bus.lost bus.row (1 + length f.left) = subst (λ (o : Option ℕ). IsDue total Selects o bus.heard bus.lost bus.row (length f.left)) none (due_at Selects e) in
          ready_runs (as_sent ready (selects meters may.there.regular f.world f.running meter agrees place_there (f.stage_is ∙ e))) Requests
          (ap (λ (y : Stage). after_command y s.address) e) (less (1 + length f.left) (length f.left) due refl)
      select_step e (Some a) some = absurd (subst (λ (o : Option ℕ). IsDue total Selects o bus.heard bus.lost bus.row (length f.left)) some (due_at Selects e))

      sent_at : (stage : Stage) → f.stage ≡ stage → Went
      sent_at Resets e = reset_step e s.address refl
      sent_at Selects e = select_step e s.address refl
      sent_at Requests e = new_step (telegram first meter row parts may.there.few s.settled f.past f.left f.count f.parts_are f.whole f.own) e sent
      sent_at (Pending more) e = absurd (due_at (Pending more) e)
      sent_at Ended e = absurd (due_at Ended e)

    -- something is
    module _ (one : losses_by outcome ≡ 1) (tries_are : row_after bus.row outcome ≡ bus.row + 1) where
      lost_some : 1 ≤ losses_by outcome
      lost_some = omega (arith, one)

      few_tries : s.tries < 2
      few_tries = let tried = f.tried in omega (arith, tried, tries_are, few)

      more_tries : s.tries + 1 ≤ now.row
      more_tries = let tried = f.tried in omega (arith, tried, tries_are)

      lost_one : (n : ℕ) → IsLeft total bus.heard bus.lost bus.row n → IsLeft total now.heard now.lost now.row n
      lost_one n due = one_lost total bus.heard bus.lost bus.row n outcome due one tries_are

      reset_again : f.stage ≡ Resets → (address : Option ℕ) → s.address ≡ address → Went
      reset_again e None none = reset_all_step e none
      reset_again e (Some a) some =
          again_runs (resets_again meters f.world f.running outcome a lost_some (f.stage_is ∙ e) some few_tries) Resets e more_tries
          (lost_one (commands s.address + length f.left) (due_at Resets e))

      select_again : f.stage ≡ Selects → (address : Option ℕ) → s.address ≡ address → Went
      select_again e None none =
          let due : IsLeft total bus.heard bus.lost bus.row (1 + length f.left) = subst (λ (o : Option ℕ). IsDue total Selects o bus.heard bus.lost bus.row (length f.left)) none (due_at Selects e) in
          again_runs (selects_again meters f.world f.running outcome lost_some (f.stage_is ∙ e) few_tries) Selects e more_tries
          (subst (λ (o : Option ℕ). IsDue total Selects o now.heard now.lost now.row (length f.left)) (sym none) (lost_one (1 + length f.left) due))
      select_again e (Some a) some = absurd (subst (λ (o : Option ℕ). IsDue total Selects o bus.heard bus.lost bus.row (length f.left)) some (due_at Selects e))

      lost_at : (stage : Stage) → f.stage ≡ stage → Went
      lost_at Resets e = reset_again e s.address refl
      lost_at Selects e = select_again e s.address refl
      lost_at Requests e =
          again_runs (requests_again meters f.world f.running outcome lost_some (f.stage_is ∙ e) few_tries) Requests e more_tries (lost_one (length f.left) (due_at Requests e))
      lost_at (Pending more) e = absurd (due_at (Pending more) e)
      lost_at Ended e = absurd (due_at Ended e)

    step_by : (o : Outcome) → outcome ≡ o → Went
    step_by RequestLost e = lost_at (ap losses_by e) (ap (row_after bus.row) e) f.stage refl
    step_by ReplyLost e = lost_at (ap losses_by e) (ap (row_after bus.row) e) f.stage refl
    step_by ReplyUnreadable e = lost_at (ap losses_by e) (ap (row_after bus.row) e) f.stage refl
    step_by AsSent e = sent_at e f.stage refl

    -- whatever is heard, it is judged as what the meters make of it
    module _ (given : List ℕ) (is_heard : IsHeard outcome frame meters bus.positions given) where
      given_judged : verdict_by s given ≡ verdict_by s bytes
      given_judged =
          same_verdict s outcome frame meters bus.positions bus.row given (x.out frame waits)
          (λ a e. may.there.regular.primary f.running.meter a agrees.meter agrees.stands.0 (sym agrees.whom.1 ∙ e)) f.tried few is_heard

      step_part : (y : Summary) → session_of core line ≡ Some y → (y.meter ≡ meter.identity) × IsNextPart (drop y.settled parts) (verdict_by y given)
      step_part y on =
          let w = step_by outcome refl in
          let same : s ≡ y = (let both = sym x.on ∙ on in cc) in
          subst (λ (z : Summary). (z.meter ≡ meter.identity) × IsNextPart (drop z.settled parts) (verdict_by z given)) same
          (who meters may.there.regular f.world f.running meter agrees place_there, subst (IsNextPart (drop s.settled parts)) (sym (given_judged ∙ w.is)) w.part)

      step_fits : IsTakenUnlessFull (hear_answer budget core line moment given)
      step_fits =
          let w = step_by outcome refl in
          subst IsTakenUnlessFull (sym (hear_is budget line core s begins.0 g.goes x.on moment given frame (x.out frame waits) ∙ ap (verdict_answer budget core moment) (given_judged ∙ w.is))) w.fits

      step : Known now (heard_on core line moment given (session_of core line))
      step =
          let w = step_by outcome refl in
          subst (λ (o : Option Summary). Known now (heard_on core line moment given o)) (sym x.on) (subst (λ (v : Verdict). Known now (judged core line moment s v)) (sym (given_judged ∙ w.is)) w.known)

  pub heard_at : (bus : Bus) (core : Core) (moment : ℕ) (bytes : List ℕ) (outcome : Outcome) (frame : FrameSeen) → bus.waits ≡ Some frame → IsHeard outcome frame meters bus.positions bytes → row_after bus.row outcome < 3
      → Known bus core → Known (bus_after meters outcome frame bus) (heard_on core line moment bytes (session_of core line))
  heard_at bus core moment bytes outcome frame waits bytes_are few k = by k.at
    where
      by : IsAt bus core → Known (bus_after meters outcome frame bus) (heard_on core line moment bytes (session_of core line))
      by (inl x) =
          step bus core moment k.going x outcome frame waits few bytes bytes_are
      by (inr (inl x)) = absurd (let bad = sym x.silent ∙ waits in cc)
      by (inr (inr x)) = absurd (let bad = sym x.silent ∙ waits in cc)

  pub fits_at : (bus : Bus) (core : Core) (moment : ℕ) (bytes : List ℕ) (outcome : Outcome) (frame : FrameSeen) → bus.waits ≡ Some frame → IsHeard outcome frame meters bus.positions bytes → row_after bus.row outcome < 3
      → Going core → IsAt bus core → IsTakenUnlessFull (hear_answer budget core line moment bytes)
  fits_at bus core moment bytes outcome frame waits bytes_are few g (inl x) = step_fits bus core moment g x outcome frame waits few bytes bytes_are
  fits_at bus core moment bytes outcome frame waits bytes_are few g (inr (inl x)) = absurd (let bad = sym x.silent ∙ waits in cc)
  fits_at bus core moment bytes outcome frame waits bytes_are few g (inr (inr x)) = absurd (let bad = sym x.silent ∙ waits in cc)

  pub part_at : (bus : Bus) (core : Core) (y : Summary) (bytes : List ℕ) (outcome : Outcome) (frame : FrameSeen) → session_of core line ≡ Some y → bus.waits ≡ Some frame → IsHeard outcome frame meters bus.positions bytes → row_after bus.row outcome < 3
      → Going core → IsAt bus core → (y.meter ≡ meter.identity) × IsNextPart (drop y.settled parts) (verdict_by y bytes)
  part_at bus core y bytes outcome frame on waits bytes_are few g (inl x) = step_part bus core 0 g x outcome frame waits few bytes bytes_are y on
  part_at bus core y bytes outcome frame on waits bytes_are few g (inr (inl x)) = absurd (let bad = sym x.silent ∙ waits in cc)
  part_at bus core y bytes outcome frame on waits bytes_are few g (inr (inr x)) = absurd (let bad = sym x.silent ∙ waits in cc)

  good_at : (bus : Bus) (core : Core) (moment : ℕ) (bytes : List ℕ) (answer : LineHeard) (outcome : Outcome) (frame : FrameSeen) → bus.waits ≡ Some frame → IsHeard outcome frame meters bus.positions bytes → row_after bus.row outcome < 3
      → MayHear (hear_answer budget core line moment bytes) (Ok answer) → Known bus core → IsNoFailure (heard (Ok answer))
  good_at bus core moment bytes answer outcome frame waits bytes_are few may_hear k =
      let right = right_answer (hear_answer budget core line moment bytes) (Ok answer) may_hear (λ e. cc) in
      subst IsTakenUnlessFull (sym right) (fits_at bus core moment bytes outcome frame waits bytes_are few k.going k.at)

  -- ---- all turns

  abbrev NeverFails : List Turn → Type 0
  NeverFails turns = AllByRecursion (λ (turn : Turn). IsHeardOn line turn.0 → IsNoFailure turn.1) turns

  along : {bus last : Bus} {turns : List Turn} (core : Core) → Others → Known bus core → IsChain budget core turns → Serves line meters bus turns last → Known last (leads core turns) × NeverFails turns
  along core some k chain rests = (k, tt)
  along {bus = bus} core some k chain (asks_it {request = request} more) =
      let rest = along core some (asked_on_it bus core request chain.0 k) chain.1 more in
      (rest.0, ((λ e. absurd e), rest.1))
  along core some k chain (has_none more) =
      let rest = along core some k chain.1 more in
      (rest.0, ((λ e. absurd e), rest.1))
  along {bus = bus} core some k chain (gives_it {moment = moment} {bytes = given} {answer = answer} outcome frame waits bytes_are few more) =
      let good = good_at bus core moment given answer outcome frame waits bytes_are few chain.0 k in
      let rest = along (heard_on core line moment given (session_of core line)) some (heard_at bus core moment given outcome frame waits bytes_are few k) chain.1 more in
      (rest.0, ((λ e. good), rest.1))
  along {bus = bus} core some k chain (commits_it more) =
      let rest = along (settled_core core core.pending) some (commit_by bus core k.going core.pending k.at) chain.1 more in
      (rest.0, ((λ e. absurd e), rest.1))
  along {bus = bus} core some k chain (goes_by {turn = turn} away more) =
      let rest = along (next core turn.0 turn.1) some (elsewhere bus core turn.0 turn.1 away some chain.0 k) chain.1 more in
      (rest.0, ((λ e. absurd (not_both line turn.0 away e)), rest.1))

  -- ---- the start

  abbrev pub begun_core : Core
  begun_core = (begun_on line meter.identity start).core

  facts_first : FactsOf (bus_at_first start.positions) first
  facts_first =
      let before : World = record { positions = start.positions; running = None; parts_open = map (λ (m : Meter). []) meters; held = [] } in
      let regular : IsRegularWorld meters before = record { counted = (may.there.counted, length-map meters (λ (m : Meter). [])); whole = tt; agrees = λ r e. absurd cc } in
      record {
        world = started_by place (Some meter) None before;
        running = record { meter = place; session = begun meter.identity meter.address; waiting = None };
        regular = start_keeps meters before place (Some meter) None may.there.stands refl regular;
        runs = refl;
        stand = refl;
        place_is = refl;
        stage = Resets;
        stage_is = refl;
        past = [];
        left = parts;
        count = refl;
        parts_are = refl;
        whole = may.there.whole;
        own = may.there.own;
        tried = omega arith;
        few = omega arith;
        due = record { least = omega arith; most = omega arith; thrice = omega arith };
        holds = record { opened = row.parts; found = may.registered; are_open = inl refl; readings = refl };
      }

  abbrev pub begun_session : Summary
  begun_session = begun meter.identity (address_in (row_of meter.identity first))

  pub on_first : session_of begun_core line ≡ Some begun_session
  on_first = get_or-set_same start.core.lines (line - 1) (Some begun_session) None (low_place line start.core.lines begins.0 may.lines)

  pub asks_first : Asks (bus_at_first start.positions) begun_core
  unfolding facts_first
  asks_first =
      let address : address_in (row_of meter.identity first) ≡ meter.address = ap address_in may.registered ∙ may.address in
      record {
        facts = facts_first;
        on = on_first ∙ ap (λ (o : Option ℕ). Some (begun meter.identity o)) address;
        out = λ frame e. absurd cc;
      }

  pub going_first : (Others → IsOnlyOn line meter.identity start.core) → Going begun_core
  going_first only = record {
    goes = begins.1;
    eight = length-set start.core.lines (line - 1) (Some begun_session) ∙ may.lines;
    others = λ some k s away there.
        let back : k + 1 - 1 ≡ k = omega arith in
        only some (k + 1) s (λ e. away (omega (arith, e))) (ap (λ (n : ℕ). get_or start.core.lines n None) back ∙ sym (get_or-set_other start.core.lines (line - 1) k (Some begun_session) None away) ∙ there);
  }

  -- ---- the end

  pub bounds : (bus : Bus) (state : State) (f : FactsOf bus state) → (bus.heard < total + bus.lost) × (bus.heard < 3 * total)
  bounds bus state f = within_due total f.stage f.running.session.address bus.heard bus.lost bus.row (length f.left) f.few (some_left first meter row parts f.running.session.settled f.left f.whole) f.due

  bounds_after : (o : Option Summary) (bus : Bus) (state : State) → AfterCommit o bus state → (bus.heard ≤ total + bus.lost) × (bus.heard ≤ 3 * total)
  bounds_after (Some s) bus state a = let b = bounds bus state a.0 in let most = b.0 in let thrice = b.1 in (omega (arith, most), omega (arith, thrice))
  bounds_after None bus state a = let most = a.all.most in let thrice = a.all.thrice in (omega (arith, most), omega (arith, thrice))

  pub asked_for : (bus : Bus) (core : Core) (x : Asks bus core) → (frame : FrameSeen) × (asked_by x.facts.running.session ≡ Some frame)
  asked_for bus core x =
      let f = x.facts in
      let s = f.running.session in
      let asks_it = some_asked total f.stage s.address bus.heard bus.lost bus.row (length f.left) s.settled s.meter f.due in
      (asks_it.0, ap (λ (y : Stage). asked_at y s.meter s.address s.settled) f.stage_is ∙ asks_it.1)

  pub asks_here : (bus : Bus) (core : Core) → Going core → (x : Asks bus core) → ask_answer core line ≡ option_map spelling (asked_by x.facts.running.session)
  asks_here bus core g x = asked_is budget line core x.facts.running.session begins.0 g.goes x.on

  asks_some : (bus : Bus) (core : Core) → Going core → Asks bus core → (request : List ℕ) × (ask_answer core line ≡ Some request) × IsSome (frame_of request)
  asks_some bus core g x =
      let due = asked_for bus core x in
      (spelling due.0, asks_here bus core g x ∙ ap (option_map spelling) due.1, ap is_some (frame_of-spelling due.0))

  bounds_at : (bus : Bus) (core : Core) → IsAt bus core → (bus.heard ≤ total + bus.lost) × (bus.heard ≤ 3 * total)
  bounds_at bus core (inl x) = let b = bounds bus (present core) x.facts in let most = b.0 in let thrice = b.1 in (omega (arith, most), omega (arith, thrice))
  bounds_at bus core (inr (inl x)) = bounds_after (settled_on (Some x.session)) bus (present core) x.later
  bounds_at bus core (inr (inr x)) = let most = x.all.most in let thrice = x.all.thrice in (omega (arith, most), omega (arith, thrice))

  few_at : (bus : Bus) (core : Core) (request : List ℕ) → Going core → IsAt bus core → ask_answer core line ≡ Some request → bus.heard < 3 * total
  few_at bus core request g (inl x) sent = (bounds bus (present core) x.facts).1
  few_at bus core request g (inr (inl x)) sent = absurd (let bad = sym sent ∙ asks_none_of core x.session g x.on x.asks_none in cc)
  few_at bus core request g (inr (inr x)) sent = absurd (let bad = sym sent ∙ asks_nothing core line x.free in cc)

  asks_at : (bus : Bus) (core : Core) (s : Summary) → Going core → IsAt bus core → session_of core line ≡ Some s → core.pending ≡ [] → (request : List ℕ) × (ask_answer core line ≡ Some request) × IsSome (frame_of request)
  asks_at bus core s g (inl x) on none = asks_some bus core g x
  asks_at bus core s g (inr (inl x)) on none = absurd (x.pends none)
  asks_at bus core s g (inr (inr x)) on none = absurd (let bad = sym x.free ∙ on in cc)

  ends_at : (bus : Bus) (core : Core) → IsAt bus core → session_of core line ≡ None → Read core.committed
  ends_at bus core (inl x) none = absurd (let bad = sym x.on ∙ none in cc)
  ends_at bus core (inr (inl x)) none = absurd (let bad = sym x.on ∙ none in cc)
  ends_at bus core (inr (inr x)) none = x.kept_read

  goes_beside : (turns : List Turn) (last : Bus) (core : Core) → NeverFails turns → Going core → IsAt last core → GoesBeside budget line meters meter row parts start.core core turns last
  goes_beside turns last core never g at = record {
    never_fails = never;
    within = (bounds_at last core at).0;
    thrice = (bounds_at last core at).1;
    asks_few = λ request sent. few_at last core request g at sent;
    asks_on = λ s on none. asks_at last core s g at on none;
    takes = λ outcome frame moment bytes waits heard few. fits_at last core moment bytes outcome frame waits heard few g at;
    next_part = λ s outcome frame bytes on waits heard few. part_at last core s bytes outcome frame on waits heard few g at;
    ends = λ none. ends_at last core at none;
  }

pub readouts_end_beside_others : ReadoutsEndBesideOthers
readouts_end_beside_others budget line meters scene place meter row parts turns last may only chain serves =
    let k = along budget line meters scene place meter row parts may (Unit {0}) (begun_on line meter.identity scene).core tt
    (record { going = going_first budget line meters scene place meter row parts may (Unit {0}) (λ some. only); at = inl (asks_first budget line meters scene place meter row parts may (Unit {0})) }) chain serves in
    goes_beside budget line meters scene place meter row parts may (Unit {0}) turns last (leads (begun_on line meter.identity scene).core turns) k.1 k.0.going k.0.at
