-- A readout within a talk, thing after thing (for the theorem of specs/Carried).
use Rattle.std.proofs.Common.{◌≡◌, ℕ, ◌<◌, Some, None, Result, Ok, Err, List, [], ◌∷◌, ◌++◌, refl, sym, ◌∙◌, ap, subst, Bool, true, false, ◌+◌, ◌*◌, ◌≤◌, Option, length, arith, append_assoc, append-nil, map, drop}
use Rattle.std.specs.List.{AllByRecursion}
use Rattle.std.specs.Prelude.{is_some}
use Rattle.std.proofs.lemmas.Bool.{eq-eqb}
use Rattle.dc_linkframe.specs.Frame.{FrameSeen}
use Rattle.dc_linkframe.specs.Reading.{frame_of}
use Rattle.dc_readout.specs.declared.world.event.Outcome.{Outcome}
use Rattle.dc_readout.specs.Meter.{Meter, Position}
use Rattle.dc_core.specs.declared.line_heard.LineHeard.{LineHeard}
use Rattle.dc_core.specs.declared.fault.HearFault.{HearFault}
use Rattle.dc_core.specs.declared.fault.CommitFault.{CommitFault}
use Rattle.dc_core.specs.Event.{asks, hears, commits, asked, heard, committed, starts, started}
use Rattle.dc_core.specs.Transcript.{Turn, leads, IsChain}
use Rattle.mbdc_poll.specs.Bus.{Bus}
use Rattle.mbdc_poll.specs.Happening.{Happening, does, tells, happened_on, happened_turns, turns_of, last_of, newest_serial}
use Rattle.mbdc_poll.specs.Talking.{Talk, Talks, rests, begins, has_none, sends_it, waits_it, takes_it, hears_it, stands_by, tells_it, loses_it}
use Rattle.mbdc_poll.specs.declared.phase.Request.{Request}
use Rattle.mbdc_poll.specs.declared.phase.Request.TheVariants.{Quiet, Sent, Answered}
use Rattle.dc_address.specs.declared.identity.Identity.{Identity}
use Rattle.dc_readout.specs.Session.{commands}
use Rattle.dc_readout.specs.Summary.{Summary, verdict_by}
use Rattle.dc_readout.proofs.Events.{length-after}
use Rattle.mbdc_change.specs.State.{State, MeterRow, PartRow, row_of, ReadingRow}
use Rattle.dc_core.specs.Lines.{is_line}
use Rattle.dc_core.specs.declared.fault.HearFault.TheVariants.{Full, Idle, NoLine, NoMemory, PendingFull, Stopped}
use Rattle.dc_core.specs.declared.fault.StartFault.{StartFault}
use Rattle.dc_core.specs.Core.{Core, present, opened, session_of}
use Rattle.dc_core.specs.Step.{ask_answer, hear_answer, is_on, next}
use Rattle.dc_core.proofs.Going.{leads_append, leads_push}
use Rattle.dc_core.proofs.Told.{chain_parts}
use Rattle.mbdc_poll.specs.Queue.{starts_in}
use Rattle.mbdc_poll.specs.declared.event.Event.{Event as Told}
use Rattle.mbdc_poll.specs.declared.event.Event.TheVariants.{Read as told_read, Failed as has_failed, Refused as was_refused, Lost as is_lost, Late as came_late, End as has_ended}
use Rattle.mbdc_poll.specs.Keeping.{AreTrue, IsNewest, IsSettled, Store, some_wait, store_behind}
use Rattle.mbdc_poll.proofs.Meanings.{none_pends}
use Rattle.mbdc_poll.proofs.Polling.{store_append}
use Rattle.mbdc_theorems.specs.Beside.{Bus as Line, bus_at_first, bus_after, IsElsewhere, Serves, rests as none_more, asks_it, has_none as asks_none, gives_it, commits_it, goes_by, HasRead, IsHeardOn, IsNextPart, IsNoFailure, IsOfLines, readings_of, GoesBeside}
use Rattle.mbdc_theorems.specs.Readout.{IsHeard, row_after, IsThere}
use Rattle.mbdc_theorems.proofs.Facts.{AreOfLines, Split, none_on, split_at, IsWiredOn, TellFact, WasNew, WasRead, Facts, PartAt, CutBy, PartsIn, cut, parts_away, parts_none, IsSupplied, IsSuppliedIn, all_left, all_right}
use Rattle.mbdc_theorems.proofs.Rows.{readouts_of_a_run_end, all_free, commit_free, heard_full, hears_free, start_ok, present_is, IsPlaced, stays_placed}
use Rattle.mbdc_theorems.specs.Carried.{GivesTo, IsCarried, IsDone, ReadoutsOfAPollEnd, Wire}
use Rattle.mbdc_theorems.proofs.Turns.{never_unkept, settled_kept, all_running}

pub serves_both : {line : ℕ} {meters : List Meter} {old between last : Line} {front back : List Turn} → Serves line meters old front between → Serves line meters between back last → Serves line meters old (front ++ back) last
serves_both none_more b = b
serves_both (asks_it a) b = asks_it (serves_both a b)
serves_both (asks_none a) b = asks_none (serves_both a b)
serves_both (gives_it outcome frame waits bytes few a) b = gives_it outcome frame waits bytes few (serves_both a b)
serves_both (commits_it a) b = commits_it (serves_both a b)
serves_both (goes_by away a) b = goes_by away (serves_both a b)

module _ (line : ℕ) (meters : List Meter) where
  pub serves_away : (turns : List Turn) (now : Line) → AllByRecursion (λ (turn : Turn). IsElsewhere line turn.0) turns → Serves line meters now turns now
  serves_away [] now all = none_more
  serves_away (turn ∷ turns) now all = goes_by all.0 (serves_away turns now all.1)

  -- ---- an answer that was given and isn't received yet

  pub record Given (bytes : List ℕ) (now start : Line) : Type 0 where
    pub outcome : Outcome
    pub frame : FrameSeen
    pub waited : start.waits ≡ Some frame
    pub bytes_are : IsHeard outcome frame meters start.positions bytes
    pub few : row_after start.row outcome < 3
    pub now_is : now ≡ bus_after meters outcome frame start

  abbrev pub Stands : Request → Line → Line → Type 0
  Stands Quiet now start = now ≡ start
  Stands Sent now start = now ≡ start
  Stands (Answered bytes) now start = Given bytes now start

  pub given_by : (bytes : List ℕ) (now start : Line) (goes_on : Line → Type 0) → now ≡ start → (g : GivesTo meters now bytes goes_on) → Given bytes (bus_after meters g.outcome g.frame now) start
  given_by bytes now start goes_on at g = record {
    outcome = g.outcome;
    frame = g.frame;
    waited = ap (λ (l : Line). l.waits) (sym at) ∙ g.waited;
    bytes_are = subst (λ (l : Line). IsHeard g.outcome g.frame meters l.positions bytes) at g.bytes_are;
    few = subst (λ (l : Line). row_after l.row g.outcome < 3) at g.few;
    now_is = ap (bus_after meters g.outcome g.frame) at;
  }

  -- ---- the talk

  record Left (start : Line) (turns : List Turn) : Type 0 where
    last : Line
    serves : Serves line meters start turns last

  over : (x : Happening) (more full : List Happening) (start next : Line) (p : Split line x more full) → Left next (happened_turns p.rest)
      → ((last : Line) → Serves line meters next (happened_turns p.rest) last → Serves line meters start (turns_of x ++ happened_turns p.rest) last) → Left start (happened_turns full)
  over x more full start next p left step = record {
    last = left.last;
    serves = subst (λ (turns : List Turn). Serves line meters start turns left.last) (sym p.turns_are)
        (serves_both (serves_away p.away start p.elsewhere) (step left.last left.serves));
  }

  hears_on : (start now : Line) (moment : ℕ) (bytes : List ℕ) (answer : Result LineHeard HearFault) (more full : List Happening) → Given bytes now start → IsDone (does (hears line moment bytes, heard answer))
      → (p : Split line (does (hears line moment bytes, heard answer)) more full) → Left now (happened_turns p.rest) → Left start (happened_turns full)
  hears_on start now moment bytes (Err fault) more full given done p left = absurd done
  hears_on start now moment bytes (Ok answer) more full given done p left =
      over (does (hears line moment bytes, heard (Ok answer))) more full start now p left
      (λ last s. gives_it given.outcome given.frame given.waited given.bytes_are given.few (subst (λ (l : Line). Serves line meters l (happened_turns p.rest) last) given.now_is s))

  commits_on : (start : Line) (stored : Result ℕ CommitFault) (more full : List Happening) → IsDone (does (commits, committed stored)) → (p : Split line (does (commits, committed stored)) more full) → Left start (happened_turns p.rest) → Left start (happened_turns full)
  commits_on start (Err fault) more full done p left = absurd done
  commits_on start (Ok count) more full done p left = over (does (commits, committed (Ok count))) more full start start p left (λ last s. commits_it s)

  module _ {B : Type 0} {g : Bus B} where
    served : {first last : Talk B} {on : List Happening} (talk : Talks g line first on last) (full : List Happening) (now start : Line) → on ≡ happened_on line full → AreOfLines full
        → Stands first.request now start → IsCarried meters now talk → AllByRecursion IsDone on → Left start (happened_turns full)
    served rests full now start is of at carried done = record { last = start; serves = serves_away (happened_turns full) start (none_on line full is of) }
    served (begins more) full now start is of at carried done = absurd done.0
    served (has_none {more = later} more) full now start is of at carried done =
        let p = split_at line (does (asks line, asked None)) later full is of in
        over (does (asks line, asked None)) later full start start p (served more p.rest now start p.more_is p.of at carried done.1) (λ last s. asks_none s)
    served (sends_it {request = request} {more = later} sends more) full now start is of at carried done =
        let p = split_at line (does (asks line, asked (Some request))) later full is of in
        let next : Line = record start { waits = frame_of request } in
        over (does (asks line, asked (Some request))) later full start next p
        (served more p.rest (record now { waits = frame_of request }) next p.more_is p.of (ap (λ (l : Line). record l { waits = frame_of request }) at) carried done.1) (λ last s. asks_it s)
    served (waits_it waits more) full now start is of at carried done = served more full now start is of at carried done
    served (takes_it {bytes = bytes} gives more) full now start is of at carried done =
        served more full (bus_after meters carried.outcome carried.frame now) start is of (given_by bytes now start (λ (l : Line). IsCarried meters l more) at carried) carried.then_on done
    served (hears_it {moment = moment} {bytes = bytes} {answer = answer} {more = later} more) full now start is of at carried done =
        let p = split_at line (does (hears line moment bytes, heard answer)) later full is of in
        hears_on start now moment bytes answer later full at done.0 p (served more p.rest now now p.more_is p.of refl carried done.1)
    served (stands_by {stored = stored} {more = later} more) full now start is of at carried done =
        let p = split_at line (does (commits, committed stored)) later full is of in
        commits_on start stored later full done.0 p (served more p.rest now start p.more_is p.of at carried done.1)
    served (tells_it {told = told} {more = later} other more) full now start is of at carried done =
        let p = split_at line (tells line told) later full is of in
        over (tells line told) later full start start p (served more p.rest now start p.more_is p.of at carried done.1) (λ last s. s)
    served (loses_it lost more) full now start is of at carried done = absurd carried

pub readouts_of_a_poll_end : {B : Type 0} (g : Bus B) → ReadoutsOfAPollEnd g
readouts_of_a_poll_end g budget line state before happened meters positions place meter row parts first last talk of_before of chain there registered address quiet carried done =
    let at_first : Line = bus_at_first positions in
    let left = served line meters talk happened at_first at_first refl of (subst (λ (r : Request). Stands line meters r at_first at_first) (sym quiet) refl) carried done in
    record {
      last = left.last;
      goes = readouts_of_a_run_end budget state (happened_turns before) line meters positions place meter row parts (happened_turns happened) left.last of_before chain there registered address left.serves;
    }

-- A talk that its line carries, readout after readout (for the theorem of specs/Every).

-- ---- a readout has few requests

few_commands : (address : Option ℕ) → commands address ≤ 2
few_commands None = omega arith
few_commands (Some a) = omega arith

few_requests : (address : Option ℕ) (parts : List (List ℕ)) → length parts ≤ 32 → 3 * (commands address + length parts) ≤ 102
few_requests address parts few = let two = few_commands address in omega (arith, two, few)

all_last : (P : Turn → Type 0) (turns : List Turn) (turn : Turn) → AllByRecursion P (turns ++ turn ∷ []) → P turn
all_last P turns turn all = (all_right P turns (turn ∷ []) all).0

module _ (budget line : ℕ) (state : State) (wire : Wire) (all : List Turn) (chain : IsChain budget (opened state) all) (of_all : AllByRecursion IsOfLines all)
    (is_one : is_line line ≡ true) (supplied : AllByRecursion (λ (turn : Turn). IsSupplied turn.1) all)
    (settled : (front back : List Turn) → all ≡ front ++ (asks line, asked None) ∷ back → (leads (opened state) front).pending ≡ []) where
  abbrev core_at : List Turn → Core
  core_at turns = leads (opened state) turns

  abbrev Read : Identity → Type 0
  Read x = WasRead line state wire all x

  abbrev start_of : Identity → Turn
  start_of x = (starts line x, started (Ok tt))

  -- ---- a readout that was started

  record Since (x : Identity) (before : List Turn) (now : Line) : Type 0 where
    wired : IsWiredOn line state wire x
    row : MeterRow
    front : List Turn
    since : List Turn
    before_is : before ≡ front ++ start_of x ∷ since
    positions : List Position
    there : IsThere wire.meters positions wired.wired.place wired.wired.meter (wire.parts x)
    registered : row_of x (present (core_at front)) ≡ Some row
    address : row.address ≡ wired.wired.meter.address
    serves : Serves line wire.meters (bus_at_first positions) since now

  abbrev since_more : (x : Identity) (before turns : List Turn) (now next : Line) → Since x before now → Serves line wire.meters now turns next → Since x (before ++ turns) next
  since_more x before turns now next s serves = record {
    wired = s.wired;
    row = s.row;
    front = s.front;
    since = s.since ++ turns;
    before_is = ap (λ (ts : List Turn). ts ++ turns) s.before_is ∙ append_assoc s.front (start_of x ∷ s.since) turns;
    positions = s.positions;
    there = s.there;
    registered = s.registered;
    address = s.address;
    serves = serves_both s.serves serves;
  }

  -- so it goes
  goes_as : (x : Identity) (before more : List Turn) (now : Line) → all ≡ before ++ more → (s : Since x before now)
      → GoesBeside budget line wire.meters s.wired.wired.meter s.row (wire.parts x) (core_at s.front) (core_at before) s.since now
  goes_as x before more now is s =
      let start : Turn = start_of s.wired.wired.meter.identity in
      let same : s.front ++ start ∷ s.since ≡ before = ap (λ (i : Identity). s.front ++ start_of i ∷ s.since) s.wired.wired.who ∙ sym s.before_is in
      let here : all ≡ (s.front ++ start ∷ s.since) ++ more = is ∙ ap (λ (ts : List Turn). ts ++ more) (sym same) in
      let chain_here = (chain_parts budget (opened state) (s.front ++ start ∷ s.since) more (subst (IsChain budget (opened state)) here chain)).0 in
      let of_here = all_left IsOfLines (s.front ++ start ∷ s.since) more (subst (AllByRecursion IsOfLines) here of_all) in
      let of_front = all_left IsOfLines s.front (start ∷ s.since) of_here in
      let registered : row_of s.wired.wired.meter.identity (present (core_at s.front)) ≡ Some s.row = ap (λ (i : Identity). row_of i (present (core_at s.front))) s.wired.wired.who ∙ s.registered in
      let ends = readouts_of_a_run_end budget state s.front line wire.meters s.positions s.wired.wired.place s.wired.wired.meter s.row (wire.parts x) s.since now of_front chain_here s.there registered s.address s.serves in
      subst (λ (ts : List Turn). GoesBeside budget line wire.meters s.wired.wired.meter s.row (wire.parts x) (core_at s.front) (core_at ts) s.since now) same ends

  few_asked : (x : Identity) (before more : List Turn) (request : List ℕ) (now : Line) → all ≡ before ++ (asks line, asked (Some request)) ∷ more → Since x before now → now.heard < 102
  few_asked x before more request now is s =
      let turn : Turn = (asks line, asked (Some request)) in
      let asks_it_now : Some request ≡ ask_answer (core_at before) line = (chain_parts budget (opened state) before (turn ∷ more) (subst (IsChain budget (opened state)) is chain)).1.0 in
      let g = goes_as x before (turn ∷ more) now is s in
      let most : now.heard < 3 * (commands s.wired.wired.meter.address + length (wire.parts x)) = g.asks_few request (sym asks_it_now) in
      let few = few_requests s.wired.wired.meter.address (wire.parts x) s.wired.wired.there.few in
      omega (arith, most, few)

  -- ---- where it has no request any more, its meter was read

  free_at : (x : Identity) (before more : List Turn) (now : Line) → all ≡ before ++ (asks line, asked None) ∷ more → Since x before now → session_of (core_at before) line ≡ None
  free_at x before more now is s = by (session_of (core_at before) line) refl
    where
      asks_nothing : None ≡ ask_answer (core_at before) line
      asks_nothing = (chain_parts budget (opened state) before ((asks line, asked None) ∷ more) (subst (IsChain budget (opened state)) is chain)).1.0

      by : (o : Option Summary) → session_of (core_at before) line ≡ o → o ≡ None
      by (Some session) on = absurd (let one = (goes_as x before ((asks line, asked None) ∷ more) now is s).asks_on session on (settled before more is) in let bad = asks_nothing ∙ one.1 in cc)
      by None free = refl

  abbrev read_at : (x : Identity) (before more : List Turn) (now : Line) → all ≡ before ++ more → Since x before now → session_of (core_at before) line ≡ None → (core_at before).pending ≡ [] → Read x
  read_at x before more now is s free none =
      let g = goes_as x before more now is s in
      let same : before ≡ s.front ++ start_of x ∷ s.since = s.before_is in
      record {
        wired = s.wired;
        row = s.row;
        front = s.front;
        since = s.since;
        back = more;
        all_are = is ∙ ap (λ (ts : List Turn). ts ++ more) same;
        registered = s.registered;
        free = ap (λ (ts : List Turn). session_of (core_at ts) line) (sym same) ∙ free;
        settled = ap (λ (ts : List Turn). (core_at ts).pending) (sym same) ∙ none;
        read = subst (λ (ts : List Turn). HasRead x s.row (wire.parts x) (present (core_at s.front)) (core_at ts).committed) same
            (subst (λ (i : Identity). HasRead i s.row (wire.parts x) (present (core_at s.front)) (core_at before).committed) s.wired.wired.who (g.ends free));
      }

  none_asked : (x : Identity) (before more : List Turn) (now : Line) → all ≡ before ++ (asks line, asked None) ∷ more → Since x before now → Read x
  none_asked x before more now is s = read_at x before ((asks line, asked None) ∷ more) now is s (free_at x before more now is s) (settled before more is)

  -- ---- what is told of it

  abbrev New : Identity → ℕ → Type 0
  New x serial = WasNew line state wire all x serial

  abbrev AreTrueAt : List Turn → List Happening → Type 0
  AreTrueAt before full = AreTrue (core_at before) (store_behind some_wait before) full

  true_more : (before turns : List Turn) (full : List Happening) → AreTrue (leads (core_at before) turns) (store_behind (store_behind some_wait before) turns) full → AreTrueAt (before ++ turns) full
  true_more before turns full t =
      subst (λ (core : Core). AreTrue core (store_behind some_wait (before ++ turns)) full) (sym (leads_append (opened state) before turns))
      (subst (λ (store : Store). AreTrue (leads (core_at before) turns) store full) (sym (store_append some_wait before turns)) t)

  true_away : (before : List Turn) (h : Happening) (more full : List Happening) (p : Split line h more full) → AreTrueAt before full → AreTrueAt (before ++ p.away) (h ∷ p.rest)
  true_away before h more full p t = true_more before p.away (h ∷ p.rest) (p.truly (core_at before) (store_behind some_wait before) t)

  true_does : (before : List Turn) (turn : Turn) (more full : List Happening) (p : Split line (does turn) more full) → AreTrueAt before full → AreTrueAt ((before ++ p.away) ++ turn ∷ []) p.rest
  true_does before turn more full p t = true_more (before ++ p.away) (turn ∷ []) p.rest (true_away before (does turn) more full p t)

  true_tells : (before : List Turn) (told : Told) (more full : List Happening) (p : Split line (tells line told) more full) → AreTrueAt before full → AreTrueAt ((before ++ p.away) ++ []) p.rest
  true_tells before told more full p t = true_more (before ++ p.away) [] p.rest (true_away before (tells line told) more full p t).2

  last_serial : (n : ℕ) (rows : List ReadingRow) (row : ReadingRow) → last_of n (map (λ (r : ReadingRow). r.serial) (rows ++ row ∷ [])) ≡ row.serial
  last_serial n [] row = refl
  last_serial n (r ∷ rows) row = last_serial r.serial rows row

  -- where all is committed, the newest reading is that in which the readout ended
  new_at : (x m : Identity) (serial : ℕ) (parts : List (List ℕ)) (last : Option PartRow) (before more : List Turn) (now : Line) → all ≡ before ++ more → Since x before now → session_of (core_at before) line ≡ None → IsSettled (store_behind some_wait before) → IsNewest (present (core_at before)) (told_read m serial parts last) → m ≡ x → New x serial
  new_at x m serial parts last before more now is s free kept newest same =
      let chain_here = (chain_parts budget (opened state) before more (subst (IsChain budget (opened state)) is chain)).0 in
      let of = all_left IsOfLines before more (subst (AllByRecursion IsOfLines) is of_all) in
      let has = all_left (λ (t : Turn). IsSupplied t.1) before more (subst (AllByRecursion (λ (t : Turn). IsSupplied t.1)) is supplied) in
      let stored = settled_kept (store_behind some_wait before) kept (never_unkept budget (opened state) before some_wait of chain_here has (λ e. cc)) in
      let none : (core_at before).pending ≡ [] = none_pends budget (opened state) before refl chain_here stored in
      let was : Read x = read_at x before more now is s free none in
      let states : present (core_at before) ≡ (core_at (s.front ++ start_of x ∷ s.since)).committed = present_is (core_at before) none ∙ ap (λ (ts : List Turn). (core_at ts).committed) s.before_is in
      let reading : ReadingRow = record { serial = was.read.serial; meter = x; flat = s.row.flat; parts = was.read.read } in
      record {
        was = was;
        serial_is =
            newest.0 ∙ ap (λ (i : Identity). newest_serial i (present (core_at before))) same
            ∙ ap (λ (rows : List ReadingRow). last_of 0 (map (λ (r : ReadingRow). r.serial) rows)) (ap (readings_of x) states ∙ was.read.one_more)
            ∙ last_serial 0 (readings_of x (present (core_at s.front))) reading;
      }

  told_fact : (x : Identity) (idle : Bool) (told : Told) (before more : List Turn) (now : Line) → all ≡ before ++ more → Since x before now → (idle ≡ true → session_of (core_at before) line ≡ None) → IsSettled (store_behind some_wait before) → IsNewest (present (core_at before)) told → TellFact New (Some x) idle told
  told_fact x false told before more now is s free kept newest = tt
  told_fact x true (told_read m serial parts last) before more now is s free kept newest = new_at x m serial parts last before more now is s (free refl) kept newest
  told_fact x true (has_failed at m why brought) before more now is s free kept newest = tt
  told_fact x true (was_refused m refusal) before more now is s free kept newest = tt
  told_fact x true (is_lost lost) before more now is s free kept newest = tt
  told_fact x true (came_late late answers) before more now is s free kept newest = tt
  told_fact x true (has_ended read failed) before more now is s free kept newest = tt

  -- ---- the next thing on the line

  -- it comes behind turns of other lines
  behind : (before : List Turn) (x : Happening) (more full : List Happening) (p : Split line x more full) → all ≡ before ++ happened_turns full → all ≡ ((before ++ p.away) ++ turns_of x) ++ happened_turns p.rest
  behind before x more full p is =
      is ∙ ap (λ (ts : List Turn). before ++ ts) p.turns_are
      ∙ sym (append_assoc before p.away (turns_of x ++ happened_turns p.rest))
      ∙ sym (append_assoc (before ++ p.away) (turns_of x) (happened_turns p.rest))

  -- and here it is
  at_it : (before : List Turn) (x : Happening) (more full : List Happening) (p : Split line x more full) → all ≡ before ++ happened_turns full → all ≡ (before ++ p.away) ++ (turns_of x ++ happened_turns p.rest)
  at_it before x more full p is =
      is ∙ ap (λ (ts : List Turn). before ++ ts) p.turns_are ∙ sym (append_assoc before p.away (turns_of x ++ happened_turns p.rest))

  since_away : (x : Identity) (before : List Turn) (now : Line) (h : Happening) (more full : List Happening) (p : Split line h more full) → Since x before now → Since x (before ++ p.away) now
  since_away x before now h more full p s = since_more x before p.away now now s (serves_away line wire.meters p.away now p.elsewhere)

  -- ---- no readout goes on

  abbrev IsFree : List Turn → Type 0
  IsFree before = session_of (core_at before) line ≡ None

  free_by : (before away more : List Turn) → all ≡ (before ++ away) ++ more → AllByRecursion (λ (turn : Turn). IsElsewhere line turn.0) away → IsFree before → IsFree (before ++ away)
  free_by before away more is elsewhere free =
      let here = (chain_parts budget (opened state) (before ++ away) more (subst (IsChain budget (opened state)) is chain)).0 in
      let there = (chain_parts budget (opened state) before away here).1 in
      ap (λ (core : Core). session_of core line) (leads_append (opened state) before away) ∙ all_free budget line is_one (core_at before) away elsewhere there free

  free_then : (before : List Turn) (turn : Turn) → session_of (next (core_at before) turn.0 turn.1) line ≡ None → IsFree (before ++ turn ∷ [])
  free_then before turn free = ap (λ (core : Core). session_of core line) (leads_append (opened state) before (turn ∷ [])) ∙ free

  -- behind turns of other lines
  free_away : (before : List Turn) (h : Happening) (more full : List Happening) (p : Split line h more full) → all ≡ before ++ happened_turns full → IsFree before → IsFree (before ++ p.away)
  free_away before h more full p is free = free_by before p.away (turns_of h ++ happened_turns p.rest) (at_it before h more full p is) p.elsewhere free

  -- there no start is refused
  never_refused : (y : Identity) (fault : StartFault) (before more : List Turn) → all ≡ before ++ (starts line y, started (Err fault)) ∷ more → IsWiredOn line state wire y → IsFree before → ⊥
  never_refused y fault before more is w free =
      let turn : Turn = (starts line y, started (Err fault)) in
      let core : Core = core_at before in
      let may = (chain_parts budget (opened state) before (turn ∷ more) (subst (IsChain budget (opened state)) is chain)).1.0 in
      let of = all_left IsOfLines before (turn ∷ more) (subst (AllByRecursion IsOfLines) is of_all) in
      let has = all_left (λ (t : Turn). IsSupplied t.1) before (turn ∷ more) (subst (AllByRecursion (λ (t : Turn). IsSupplied t.1)) is supplied) in
      let at = stays_placed y w.wired.row (opened state) before of (record { row = w.wired.row; found = w.wired.registered; is = (refl, refl) }) in
      let on : is_on line (row_of y (present core)) ≡ true = ap (is_on line) at.found ∙ eq-eqb at.row.line line (at.is.0 ∙ w.on_line) in
      let ok = start_ok (is_line line) core.stopped (is_on line (row_of y (present core))) (is_some (session_of core line)) is_one (all_running (opened state) before of has refl) on (ap is_some free) in
      let bad : ◌≡◌ {A = Result (Unit {0}) StartFault} (Err fault) (Ok tt) = may ∙ ok in
      cc

  -- ---- the talk, before the first start

  abbrev IsCounted : Line → Type 0
  IsCounted now = length now.positions ≡ length wire.meters

  counted_after : (outcome : Outcome) (frame : FrameSeen) (now : Line) → IsCounted now → IsCounted (bus_after wire.meters outcome frame now)
  counted_after outcome frame now counted = length-after outcome frame wire.meters now.positions counted

  -- a readout begins
  begun : (x : Identity) (before : List Turn) (now : Line) → AllByRecursion IsOfLines before → IsCounted now → IsWiredOn line state wire x → Since x (before ++ start_of x ∷ []) (bus_at_first now.positions)
  begun x before now of counted w =
      let at : IsPlaced x w.wired.row (present (core_at before)) =
      stays_placed x w.wired.row (opened state) before of (record { row = w.wired.row; found = w.wired.registered; is = (refl, refl) }) in
      record {
        wired = w;
        row = at.row;
        front = before;
        since = [];
        before_is = refl;
        positions = now.positions;
        there = record { regular = w.wired.there.regular; counted = counted; stands = w.wired.there.stands; whole = w.wired.there.whole; few = w.wired.there.few; own = w.wired.there.own };
        registered = at.found;
        address = at.is.1 ∙ w.wired.address;
        serves = none_more;
      }

  of_before : (before more : List Turn) → all ≡ before ++ more → AllByRecursion IsOfLines before
  of_before before more is = all_left IsOfLines before more (subst (AllByRecursion IsOfLines) is of_all)

  -- ---- an answer that was given and isn't received yet

  abbrev GivenOn : List ℕ → Line → Line → Type 0
  GivenOn bytes now start = Given line wire.meters bytes now start

  -- how many requests were sent
  abbrev asks_at : Request → Line → ℕ
  asks_at Quiet start = start.heard
  asks_at Sent start = start.heard + 1
  asks_at (Answered bytes) start = start.heard + 1

  abbrev FactsOf : Option Identity → ℕ → Bool → List Happening → Type 0
  FactsOf m n idle on = Facts Read New m n idle on

  abbrev Parts : List Turn → List Happening → Type 0
  Parts before full = PartsIn line wire (core_at before) (happened_turns full)

  record Going (m : Option Identity) (n : ℕ) (idle : Bool) (on : List Happening) (before : List Turn) (full : List Happening) : Type 0 where
    facts : FactsOf m n idle on
    parts : Parts before full

  -- ---- what is said of parts, behind turns of other lines

  parts_does : (before : List Turn) (turn : Turn) (later full : List Happening) (p : Split line (does turn) later full) → PartAt line wire (core_at (before ++ p.away)) turn.0 → CutBy line turn.0 turn.1 (Parts ((before ++ p.away) ++ turn ∷ []) p.rest) → Parts before full
  parts_does before turn later full p at rest =
      let more : List Turn = happened_turns p.rest in
      let there : CutBy line turn.0 turn.1 (PartsIn line wire (next (core_at (before ++ p.away)) turn.0 turn.1) more) =
      subst (λ (core : Core). CutBy line turn.0 turn.1 (PartsIn line wire core more)) (leads_push (opened state) (before ++ p.away) turn) rest in
      let here : PartsIn line wire (leads (core_at before) p.away) (turn ∷ more) =
      subst (λ (core : Core). PartsIn line wire core (turn ∷ more)) (leads_append (opened state) before p.away) (at, there) in
      subst (PartsIn line wire (core_at before)) (sym p.turns_are) (parts_away line wire (core_at before) p.away (turn ∷ more) p.elsewhere here)

  parts_tells : (before : List Turn) (told : Told) (later full : List Happening) (p : Split line (tells line told) later full) → Parts ((before ++ p.away) ++ []) p.rest → Parts before full
  parts_tells before told later full p rest =
      let more : List Turn = happened_turns p.rest in
      let here : PartsIn line wire (leads (core_at before) p.away) more =
      subst (λ (core : Core). PartsIn line wire core more) (ap core_at (append-nil (before ++ p.away)) ∙ leads_append (opened state) before p.away) rest in
      subst (PartsIn line wire (core_at before)) (sym p.turns_are) (parts_away line wire (core_at before) p.away more p.elsewhere here)

  -- a telegram is the next of the meter's parts
  part_of_it : (x : Identity) (start : Line) (moment : ℕ) (bytes : List ℕ) (before more : List Turn) (now : Line) → GivenOn bytes now start → all ≡ before ++ more → Since x before start → PartAt line wire (core_at before) (hears line moment bytes)
  part_of_it x start moment bytes before more now given is s same session on =
      let part = (goes_as x before more start is s).next_part session given.outcome given.frame bytes on given.waited given.bytes_are given.few in
      let who : session.meter ≡ x = part.0 ∙ s.wired.wired.who in
      subst (λ (i : Identity). IsNextPart (drop session.settled (wire.parts i)) (verdict_by session bytes)) (sym who) part.1

  -- ---- each thing on the line

  -- a readout begins, and its facts begin anew
  starts_one : (m : Option Identity) (n : ℕ) (idle : Bool) (y : Identity) (answer : Result (Unit {0}) StartFault) (before : List Turn) (later full : List Happening) (now : Line) → all ≡ before ++ happened_turns full → AreTrueAt before full → IsCounted now → (idle ≡ true → IsFree before)
      → (p : Split line (does (starts line y, started answer)) later full) → IsWiredOn line state wire y
      → (all ≡ ((before ++ p.away) ++ start_of y ∷ []) ++ happened_turns p.rest → AreTrueAt ((before ++ p.away) ++ start_of y ∷ []) p.rest → Since y ((before ++ p.away) ++ start_of y ∷ []) (bus_at_first now.positions) → Going (Some y) 0 false later ((before ++ p.away) ++ start_of y ∷ []) p.rest)
      → Going m n idle (does (starts line y, started answer) ∷ later) before full
  starts_one m n true y (Err fault) before later full now is truth counted free p w then_so =
      let h : Happening = does (starts line y, started (Err fault)) in
      absurd (never_refused y fault (before ++ p.away) (happened_turns p.rest) (at_it before h later full p is) w (free_away before h later full p is (free refl)))
  starts_one m n false y (Err fault) before later full now is truth counted free p w then_so =
      record { facts = (tt, tt); parts = parts_does before (starts line y, started (Err fault)) later full p tt (λ ne. absurd (ne refl)) }
  starts_one m n idle y (Ok none) before later full now is truth counted free p w then_so =
      let h : Happening = does (start_of y) in
      let rest = then_so (behind before h later full p is) (true_does before (start_of y) later full p truth) (begun y (before ++ p.away) now (of_before (before ++ p.away) (start_of y ∷ happened_turns p.rest) (at_it before h later full p is)) counted w) in
      record { facts = (tt, rest.facts); parts = parts_does before (start_of y) later full p tt rest.parts }

  -- an answer is received
  full_facts : (m : Option Identity) (n : ℕ) (idle : Bool) (moment : ℕ) (bytes : List ℕ) (fault : HearFault) (later : List Happening) → fault ≡ Full → FactsOf m n idle (does (hears line moment bytes, heard (Err fault)) ∷ later)
  full_facts None n idle moment bytes fault later e = subst (λ (f : HearFault). FactsOf None n idle (does (hears line moment bytes, heard (Err f)) ∷ later)) (sym e) (tt, tt)
  full_facts (Some x) n idle moment bytes fault later e = subst (λ (f : HearFault). FactsOf (Some x) n idle (does (hears line moment bytes, heard (Err f)) ∷ later)) (sym e) (tt, tt)

  hears_one : (x : Identity) (now start : Line) (idle : Bool) (moment : ℕ) (bytes : List ℕ) (answer : Result LineHeard HearFault) (before : List Turn) (later full : List Happening) → GivenOn bytes now start → IsCounted start → IsSuppliedIn (does (hears line moment bytes, heard answer))
      → all ≡ before ++ happened_turns full → Since x before start → (p : Split line (does (hears line moment bytes, heard answer)) later full)
      → ((next : Line) → now ≡ next → IsCounted next → Since x ((before ++ p.away) ++ (hears line moment bytes, heard answer) ∷ []) next → Going (Some x) next.heard false later ((before ++ p.away) ++ (hears line moment bytes, heard answer) ∷ []) p.rest)
      → Going (Some x) (start.heard + 1) idle (does (hears line moment bytes, heard answer) ∷ later) before full
  hears_one x now start idle moment bytes (Err fault) before later full given counted well is s p then_so =
      let turn : Turn = (hears line moment bytes, heard (Err fault)) in
      let here : Since x (before ++ p.away) start = since_away x before start (does turn) later full p s in
      let at = at_it before (does turn) later full p is in
      let g = goes_as x (before ++ p.away) (turn ∷ happened_turns p.rest) start at here in
      let may = (chain_parts budget (opened state) (before ++ p.away) (turn ∷ happened_turns p.rest) (subst (IsChain budget (opened state)) at chain)).1.0 in
      let core : Core = core_at (before ++ p.away) in
      let taken = g.takes given.outcome given.frame moment bytes given.waited given.bytes_are given.few in
      let full_is : fault ≡ Full = heard_full (hear_answer budget core line moment bytes) fault taken may well in
      record {
        facts = full_facts (Some x) (start.heard + 1) idle moment bytes fault later full_is;
        parts = parts_does before turn later full p (part_of_it x start moment bytes (before ++ p.away) (turn ∷ happened_turns p.rest) now given at here)
            (subst (λ (f : HearFault). CutBy line (hears line moment bytes) (heard (Err f)) (Parts ((before ++ p.away) ++ turn ∷ []) p.rest)) (sym full_is) (λ ne. absurd (ne refl)));
      }
  hears_one x now start idle moment bytes (Ok answer) before later full given counted well is s p then_so =
      let turn : Turn = (hears line moment bytes, heard (Ok answer)) in
      let next : Line = bus_after wire.meters given.outcome given.frame start in
      let here : Since x (before ++ p.away) start = since_away x before start (does turn) later full p s in
      let there : Since x ((before ++ p.away) ++ turn ∷ []) next =
      since_more x (before ++ p.away) (turn ∷ []) start next here (gives_it given.outcome given.frame given.waited given.bytes_are given.few none_more) in
      let g = goes_as x ((before ++ p.away) ++ turn ∷ []) (happened_turns p.rest) next (behind before (does turn) later full p is) there in
      let good = all_last (λ (t : Turn). IsHeardOn line t.0 → IsNoFailure t.1) here.since turn g.never_fails in
      let rest = then_so next given.now_is (counted_after given.outcome given.frame start counted) there in
      record {
        facts = (good refl, rest.facts);
        parts = parts_does before turn later full p (part_of_it x start moment bytes (before ++ p.away) (turn ∷ happened_turns p.rest) now given (at_it before (does turn) later full p is) here) rest.parts;
      }

  -- all that waits is committed
  commits_one : (x : Identity) (n : ℕ) (start : Line) (idle : Bool) (stored : Result ℕ CommitFault) (before : List Turn) (later full : List Happening) → IsSuppliedIn (does (commits, committed stored)) → all ≡ before ++ happened_turns full → (idle ≡ true → IsFree before) → Since x before start
      → (p : Split line (does (commits, committed stored)) later full)
      → ((idle ≡ true → IsFree ((before ++ p.away) ++ (commits, committed stored) ∷ [])) → Since x ((before ++ p.away) ++ (commits, committed stored) ∷ []) start → Going (Some x) n idle later ((before ++ p.away) ++ (commits, committed stored) ∷ []) p.rest)
      → Going (Some x) n idle (does (commits, committed stored) ∷ later) before full
  commits_one x n start idle (Err fault) before later full well is free s p then_so = absurd well
  commits_one x n start idle (Ok count) before later full well is free s p then_so =
      let turn : Turn = (commits, committed (Ok count)) in
      let here : Since x (before ++ p.away) start = since_away x before start (does turn) later full p s in
      let still : idle ≡ true → IsFree ((before ++ p.away) ++ turn ∷ []) = λ e. free_then (before ++ p.away) turn (commit_free (core_at (before ++ p.away)) line count (free_away before (does turn) later full p is (free e))) in
      let rest = then_so still (since_more x (before ++ p.away) (turn ∷ []) start start here (commits_it none_more)) in
      record { facts = (tt, rest.facts); parts = parts_does before turn later full p tt rest.parts }

  free_commit : (stored : Result ℕ CommitFault) (before : List Turn) (later full : List Happening) → IsSuppliedIn (does (commits, committed stored)) → all ≡ before ++ happened_turns full → IsFree before
      → (p : Split line (does (commits, committed stored)) later full) → IsFree ((before ++ p.away) ++ (commits, committed stored) ∷ [])
  free_commit (Err fault) before later full well is free p = absurd well
  free_commit (Ok count) before later full well is free p =
      let turn : Turn = (commits, committed (Ok count)) in
      free_then (before ++ p.away) turn (commit_free (core_at (before ++ p.away)) line count (free_away before (does turn) later full p is free))

  -- an event is told
  free_told : (told : Told) (before : List Turn) (later full : List Happening) → all ≡ before ++ happened_turns full → IsFree before → (p : Split line (tells line told) later full) → IsFree ((before ++ p.away) ++ [])
  free_told told before later full is free p =
      ap (λ (ts : List Turn). session_of (core_at ts) line) (append-nil (before ++ p.away)) ∙ free_away before (tells line told) later full p is free

  not_idle : (before : List Turn) → false ≡ true → IsFree before
  not_idle before e = absurd cc

  -- no session takes anything
  part_of_none : (before : List Turn) (moment : ℕ) (bytes : List ℕ) → IsFree before → PartAt line wire (core_at before) (hears line moment bytes)
  part_of_none before moment bytes free same session on = absurd (let bad = sym free ∙ on in cc)

  cut_of_none : (moment : ℕ) (bytes : List ℕ) (answer : Result LineHeard HearFault) (P : Type 0) → P → CutBy line (hears line moment bytes) (heard answer) P
  cut_of_none moment bytes answer P p = cut line (hears line moment bytes) (heard answer) P p

  facts_of_none : (n : ℕ) (idle : Bool) (moment : ℕ) (bytes : List ℕ) (answer : Result LineHeard HearFault) (later : List Happening) → FactsOf None n false later → FactsOf None n idle (does (hears line moment bytes, heard answer) ∷ later)
  facts_of_none n idle moment bytes (Ok good) later rest = (tt, rest)
  facts_of_none n idle moment bytes (Err NoLine) later rest = (tt, rest)
  facts_of_none n idle moment bytes (Err Idle) later rest = (tt, rest)
  facts_of_none n idle moment bytes (Err Full) later rest = (tt, tt)
  facts_of_none n idle moment bytes (Err NoMemory) later rest = (tt, rest)
  facts_of_none n idle moment bytes (Err PendingFull) later rest = (tt, rest)
  facts_of_none n idle moment bytes (Err Stopped) later rest = (tt, rest)

  module _ {B : Type 0} {g : Bus B} where
    along : {first last : Talk B} {on : List Happening} (talk : Talks g line first on last) (x : Identity) (idle : Bool) (full : List Happening) (before : List Turn) (now start : Line) → on ≡ happened_on line full → AreOfLines full → all ≡ before ++ happened_turns full → AreTrueAt before full
        → Stands line wire.meters first.request now start → IsCounted start → (idle ≡ true → IsFree before) → Since x before start → IsCarried wire.meters now talk → AllByRecursion IsSuppliedIn on → AllByRecursion (IsWiredOn line state wire) (starts_in on) → Going (Some x) (asks_at first.request start) idle on before full
    along (rests {last = t}) x idle full before now start on of is truth at counted free s carried well wired = record { facts = tt; parts = parts_none line wire (core_at before) (happened_turns full) (none_on line full on of) }
    along (begins {meter = y} {answer = answer} {more = later} more) x idle full before now start on of is truth at counted free s carried well wired =
        let p = split_at line (does (starts line y, started answer)) later full on of in
        let counted_now : IsCounted now = ap (λ (l : Line). length l.positions) at ∙ counted in
        let first : Line = bus_at_first now.positions in
        starts_one (Some x) start.heard idle y answer before later full now is truth counted_now free p wired.0 (λ there truly since.
        along more y false p.rest ((before ++ p.away) ++ start_of y ∷ []) first first p.more_is p.of there truly refl counted_now (not_idle ((before ++ p.away) ++ start_of y ∷ [])) since carried well.1 wired.1)
    along (has_none {more = later} more) x idle full before now start on of is truth at counted free s carried well wired =
        let turn : Turn = (asks line, asked None) in
        let p = split_at line (does turn) later full on of in
        let here = since_away x before start (does turn) later full p s in
        let there = since_more x (before ++ p.away) (turn ∷ []) start start here (asks_none none_more) in
        let there_is = at_it before (does turn) later full p is in
        let over = free_then (before ++ p.away) turn (free_at x (before ++ p.away) (happened_turns p.rest) start there_is here) in
        let rest = along more x true p.rest ((before ++ p.away) ++ turn ∷ []) now start p.more_is p.of (behind before (does turn) later full p is) (true_does before turn later full p truth) at counted (λ e. over) there carried well.1 wired in
        record { facts = (none_asked x (before ++ p.away) (happened_turns p.rest) start there_is here, rest.facts); parts = parts_does before turn later full p tt rest.parts }
    along (sends_it {request = request} {more = later} sends more) x idle full before now start on of is truth at counted free s carried well wired =
        let turn : Turn = (asks line, asked (Some request)) in
        let next : Line = record start { waits = frame_of request } in
        let p = split_at line (does turn) later full on of in
        let here = since_away x before start (does turn) later full p s in
        let there = since_more x (before ++ p.away) (turn ∷ []) start next here (asks_it none_more) in
        let few = few_asked x (before ++ p.away) (happened_turns p.rest) request start (at_it before (does turn) later full p is) here in
        let rest = along more x false p.rest ((before ++ p.away) ++ turn ∷ []) (record now { waits = frame_of request }) next p.more_is p.of (behind before (does turn) later full p is) (true_does before turn later full p truth)
        (ap (λ (l : Line). record l { waits = frame_of request }) at) counted (not_idle ((before ++ p.away) ++ turn ∷ [])) there carried well.1 wired in
        record { facts = (few, rest.facts); parts = parts_does before turn later full p tt rest.parts }
    along (waits_it waits more) x idle full before now start on of is truth at counted free s carried well wired =
        along more x idle full before now start on of is truth at counted free s carried well wired
    along (takes_it {bytes = bytes} gives more) x idle full before now start on of is truth at counted free s carried well wired =
        along more x idle full before (bus_after wire.meters carried.outcome carried.frame now) start on of is truth
        (given_by line wire.meters bytes now start (λ (l : Line). IsCarried wire.meters l more) at carried) counted free s carried.then_on well wired
    along (hears_it {moment = moment} {bytes = bytes} {answer = answer} {more = later} more) x idle full before now start on of is truth at counted free s carried well wired =
        let turn : Turn = (hears line moment bytes, heard answer) in
        let p = split_at line (does turn) later full on of in
        hears_one x now start idle moment bytes answer before later full at counted well.0 is s p (λ next now_is counted_next there.
        along more x false p.rest ((before ++ p.away) ++ turn ∷ []) now next p.more_is p.of (behind before (does turn) later full p is) (true_does before turn later full p truth) now_is counted_next (not_idle ((before ++ p.away) ++ turn ∷ [])) there carried well.1 wired)
    along {first = t} (stands_by {stored = stored} {more = later} more) x idle full before now start on of is truth at counted free s carried well wired =
        let turn : Turn = (commits, committed stored) in
        let p = split_at line (does turn) later full on of in
        commits_one x (asks_at t.request start) start idle stored before later full well.0 is free s p (λ still there.
        along more x idle p.rest ((before ++ p.away) ++ turn ∷ []) now start p.more_is p.of (behind before (does turn) later full p is) (true_does before turn later full p truth) at counted still there carried well.1 wired)
    along (tells_it {told = told} {more = later} other more) x idle full before now start on of is truth at counted free s carried well wired =
        let h : Happening = tells line told in
        let p = split_at line h later full on of in
        let there = since_more x (before ++ p.away) [] start start (since_away x before start h later full p s) none_more in
        let told_here = true_away before h later full p truth in
        let free_here : idle ≡ true → IsFree (before ++ p.away) = λ e. free_away before h later full p is (free e) in
        let fact = told_fact x idle told (before ++ p.away) (happened_turns p.rest) start (at_it before h later full p is) (since_away x before start h later full p s) free_here told_here.0 told_here.1 in
        let rest = along more x idle p.rest ((before ++ p.away) ++ []) now start p.more_is p.of (behind before h later full p is) (true_tells before told later full p truth) at counted (λ e. free_told told before later full is (free e) p) there carried well.1 wired in
        record { facts = (fact, rest.facts); parts = parts_tells before told later full p rest.parts }
    along (loses_it lost more) x idle full before now start on of is truth at counted free s carried well wired = absurd carried

    -- before the first start
    pub along_first : {first last : Talk B} {on : List Happening} (talk : Talks g line first on last) (n : ℕ) (idle : Bool) (full : List Happening) (before : List Turn) (now : Line) → on ≡ happened_on line full → AreOfLines full → all ≡ before ++ happened_turns full → AreTrueAt before full
        → length now.positions ≡ length wire.meters → session_of (leads (opened state) before) line ≡ None → IsCarried wire.meters now talk → AllByRecursion IsSuppliedIn on → AllByRecursion (IsWiredOn line state wire) (starts_in on)
        → Facts (λ (x : Identity). WasRead line state wire all x) (λ (x : Identity) (serial : ℕ). WasNew line state wire all x serial) None n idle on × PartsIn line wire (leads (opened state) before) (happened_turns full)
    along_first rests n idle full before now on of is truth counted free carried well wired = (tt, parts_none line wire (core_at before) (happened_turns full) (none_on line full on of))
    along_first (begins {meter = y} {answer = answer} {more = later} more) n idle full before now on of is truth counted free carried well wired =
        let p = split_at line (does (starts line y, started answer)) later full on of in
        let first : Line = bus_at_first now.positions in
        let one = starts_one None n idle y answer before later full now is truth counted (λ e. free) p wired.0 (λ there truly since.
        along more y false p.rest ((before ++ p.away) ++ start_of y ∷ []) first first p.more_is p.of there truly refl counted (not_idle ((before ++ p.away) ++ start_of y ∷ [])) since carried well.1 wired.1) in
        (one.facts, one.parts)
    along_first (has_none {more = later} more) n idle full before now on of is truth counted free carried well wired =
        let turn : Turn = (asks line, asked None) in
        let p = split_at line (does turn) later full on of in
        let still = free_then (before ++ p.away) turn (free_away before (does turn) later full p is free) in
        let rest = along_first more n idle p.rest ((before ++ p.away) ++ turn ∷ []) now p.more_is p.of (behind before (does turn) later full p is) (true_does before turn later full p truth) counted still carried well.1 wired in
        ((tt, rest.0), parts_does before turn later full p tt rest.1)
    along_first (sends_it {request = request} {more = later} sends more) n idle full before now on of is truth counted free carried well wired =
        let turn : Turn = (asks line, asked (Some request)) in
        let p = split_at line (does turn) later full on of in
        let still = free_then (before ++ p.away) turn (free_away before (does turn) later full p is free) in
        let rest = along_first more (n + 1) false p.rest ((before ++ p.away) ++ turn ∷ []) (record now { waits = frame_of request }) p.more_is p.of (behind before (does turn) later full p is) (true_does before turn later full p truth) counted still carried well.1 wired in
        ((tt, rest.0), parts_does before turn later full p tt rest.1)
    along_first (waits_it waits more) n idle full before now on of is truth counted free carried well wired = along_first more n idle full before now on of is truth counted free carried well wired
    along_first (takes_it gives more) n idle full before now on of is truth counted free carried well wired =
        along_first more n idle full before (bus_after wire.meters carried.outcome carried.frame now) on of is truth (counted_after carried.outcome carried.frame now counted) free carried.then_on well wired
    along_first (hears_it {moment = moment} {bytes = bytes} {answer = answer} {more = later} more) n idle full before now on of is truth counted free carried well wired =
        let turn : Turn = (hears line moment bytes, heard answer) in
        let p = split_at line (does turn) later full on of in
        let here = free_away before (does turn) later full p is free in
        let still = free_then (before ++ p.away) turn (hears_free (core_at (before ++ p.away)) line moment bytes answer here) in
        let rest = along_first more n false p.rest ((before ++ p.away) ++ turn ∷ []) now p.more_is p.of (behind before (does turn) later full p is) (true_does before turn later full p truth) counted still carried well.1 wired in (
          facts_of_none n idle moment bytes answer later rest.0,
          parts_does before turn later full p (part_of_none (before ++ p.away) moment bytes here) (cut_of_none moment bytes answer (Parts ((before ++ p.away) ++ turn ∷ []) p.rest) rest.1),
        )
    along_first (stands_by {stored = stored} {more = later} more) n idle full before now on of is truth counted free carried well wired =
        let turn : Turn = (commits, committed stored) in
        let p = split_at line (does turn) later full on of in
        let rest = along_first more n idle p.rest ((before ++ p.away) ++ turn ∷ []) now p.more_is p.of (behind before (does turn) later full p is) (true_does before turn later full p truth) counted (free_commit stored before later full well.0 is free p) carried well.1 wired in
        ((tt, rest.0), parts_does before turn later full p tt rest.1)
    along_first (tells_it {told = told} {more = later} other more) n idle full before now on of is truth counted free carried well wired =
        let h : Happening = tells line told in
        let p = split_at line h later full on of in
        let rest = along_first more n idle p.rest ((before ++ p.away) ++ []) now p.more_is p.of (behind before h later full p is) (true_tells before told later full p truth) counted (free_told told before later full is free p) carried well.1 wired in
        ((tt, rest.0), parts_tells before told later full p rest.1)
    along_first (loses_it lost more) n idle full before now on of is truth counted free carried well wired = absurd carried
