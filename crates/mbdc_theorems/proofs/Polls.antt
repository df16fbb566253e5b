-- How long an answer of a meter is.
use Rattle.std.proofs.Common.{◌≡◌, ℕ, ◌-◌, ◌≤◌, Bool, true, false, List, [], ◌∷◌, length, Option, Some, None, cond, ◌==◌, arith, refl, length-append, ◌≢◌, ◌<◌, inl, inr, ◌+◌, ◌*◌, Result, Ok, Err, sym, ◌∙◌, ap, subst, zero, suc}
use Rattle.std.specs.Prelude.{slice_get, unwrap_or, ◌&&◌, option_map}
use Rattle.dc_linkframe.specs.Control.{snd_nke, variable_data}
use Rattle.dc_linkframe.specs.Frame.{FrameSeen, ack, short, long, spelling, checksum}
use Rattle.dc_address.specs.Mask.{mask_at, matches}
use Rattle.dc_readout.specs.Meter.{Meter, Position, is_own, is_request, is_selection, hears_at, body_at, rsp_ud, response, answer_to, moved_by}
use Rattle.dc_readout.specs.Regular.{Fits}
use Rattle.dc_readout.specs.Reply.{bytes_of}
use Rattle.dc_linkframe.specs.Reading.{frame_of}
use Rattle.dc_readout.specs.Summary.{asked_by}
use Rattle.dc_readout.specs.declared.world.event.Outcome.{Outcome}
use Rattle.dc_readout.specs.World.{heard_in}
use Rattle.dc_readout.proofs.Asked.{sent_frame}
use Rattle.mbdc_change.specs.State.{MeterRow}
use Rattle.dc_core.specs.declared.line_heard.LineHeard.{LineHeard}
use Rattle.dc_core.specs.declared.line_heard.LineHeard.TheVariants.{Again, Ready, Accepted, Failed}
use Rattle.dc_core.specs.declared.fault.HearFault.{HearFault}
use Rattle.dc_core.specs.declared.fault.HearFault.TheVariants.{NoMemory, NoLine, Idle, Full, PendingFull, Stopped}
use Rattle.dc_core.specs.Core.{Core}
use Rattle.dc_core.specs.Event.{Event, Answer, starts, asks, hears, commits, started, asked, heard, committed, replied}
use Rattle.dc_core.specs.Step.{May, next, MayHear, ask_answer, hear_answer, after_hear, settled_core}
use Rattle.dc_core.specs.Transcript.{Turn, leads, IsChain}
use Rattle.dc_core.proofs.Followed.{nothing_left}
use Rattle.dc_poller.specs.Link.{Link, linked}
use Rattle.dc_poller.specs.Poll.{Happening, does, talks, loses, Due, to_start, to_ask, to_send, to_hear, to_commit, to_make_room, to_hear_again, is_over, Phase, IsDueEvent, IsWay, behind, behind_turn, behind_first_heard, happened_turns, happened_exchanges, happened_text}
use Rattle.dc_linkframe.proofs.Spellings.{frame_of-spelling}
use Rattle.dc_readout.specs.declared.world.event.Outcome.TheVariants.{AsSent}
use Rattle.dc_readout.proofs.Replies.{heard_as_sent}
use Rattle.mbdc_bus.specs.Limits.{most_answer}
use Rattle.mbdc_bus.specs.Bus.{Exchange}
use Rattle.mbdc_theorems.specs.Beside.{Bus, bus_after, bus_at_first}
use Rattle.mbdc_theorems.specs.Readout.{MayBeRead, IsRead, requests_of, Scene, row_after, begun_on}
use Rattle.mbdc_theorems.proofs.Rounds.{Told, GoesOn, asks_nothing, right_answer, still_running, IsCommand, quiet_heard, never_memory}
use Rattle.mbdc_theorems.proofs.Along.{Runs, Behind, due_is, due_frame, some_due, within, went, at_first}
use Rattle.mbdc_theorems.specs.Polled.{asks_by, rounds_in, GivesTo, Works, IsServed, EndsRead, PollsEnd, ServedPoll, PollsAreServed}

long_short : (control address ci : ℕ) (body : List ℕ) → length body ≤ 252 → length (spelling (long control address ci body)) ≤ 300
long_short control address ci body fits =
    let sum = length-append body (checksum (control ∷ address ∷ ci ∷ body) ∷ 0x16 ∷ []) in
    omega (arith, sum, fits)

response_short : (m : Meter) (found : Option (List ℕ)) → ((body : List ℕ) → found ≡ Some body → length body ≤ 252) → length (bytes_of (response m found)) ≤ 300
response_short m None fits = omega arith
response_short m (Some body) fits = long_short rsp_ud (unwrap_or m.address 0) variable_data body (fits body refl)

body_fits : (place : ℕ) (bodies : List (List ℕ)) → Fits bodies → (body : List ℕ) → body_at place bodies ≡ Some body → length body ≤ 252
body_fits place bodies fits body e = go (place == 0) e
  where
    go : (b : Bool) → cond b None (slice_get bodies (place - 1)) ≡ Some body → length body ≤ 252
    go true e = absurd cc
    go false e = fits (place - 1) body e

cond_short : (b : Bool) (o : Option FrameSeen) → length (bytes_of o) ≤ 300 → length (bytes_of (cond b o None)) ≤ 300
cond_short true o few = few
cond_short false o few = omega arith

two_short : (b : Bool) (one other : Option FrameSeen) → length (bytes_of one) ≤ 300 → length (bytes_of other) ≤ 300 → length (bytes_of (cond b one other)) ≤ 300
two_short true one other a b = a
two_short false one other a b = b

pub answer_short : (frame : FrameSeen) (m : Meter) (p : Position) → Fits m.bodies → length (bytes_of (answer_to frame m p)) ≤ 300
unfolding answer_to
answer_short ack m p fits = omega arith
answer_short (short control address) m p fits =
    two_short (control == snd_nke) (cond (is_own m.address address) (Some ack) None) (cond (is_request control && hears_at m.address address p) (response m (body_at p.place m.bodies)) None)
    (cond_short (is_own m.address address) (Some ack) (omega arith))
    (cond_short (is_request control && hears_at m.address address p) (response m (body_at p.place m.bodies)) (response_short m (body_at p.place m.bodies) (body_fits p.place m.bodies fits)))
answer_short (long control address ci body) m p fits =
    cond_short (is_selection control address ci) (cond (matches (mask_at body) m.identity) (Some ack) None) (cond_short (matches (mask_at body) m.identity) (Some ack) (omega arith))

-- A poll, one thing after the other (the theorem of specs/Polled).

module _ (line : ℕ) (budget moment place : ℕ) (meters : List Meter) (start : Scene) (meter : Meter) (row : MeterRow) (parts : List (List ℕ)) (may : MayBeRead budget line meters start place meter row parts) (quiet_start : start.core.pending ≡ []) where
  abbrev pub total : ℕ
  total = requests_of meter.address parts

  abbrev pub Running : Bus → Core → Type 0
  Running bus core = Runs budget line meters start place meter row parts may bus core

  abbrev pub Stands : Bus → Core → Type 0
  Stands bus core = Behind budget line meters start place meter row parts may bus core

  -- ---- what is known by what is due, after this many requests

  pub record Asking (bus : Bus) (core : Core) (k : ℕ) : Type 0 where
    pub count : k ≡ bus.heard
    pub stands : Stands bus core
    pub quiet : core.pending ≡ []

  pub record Sending (request : List ℕ) (bus : Bus) (core : Core) (k : ℕ) : Type 0 where
    pub count : k ≡ bus.heard + 1
    pub runs : Running bus core
    pub quiet : core.pending ≡ []
    pub is_asked : Some request ≡ ask_answer core line
    pub frame : FrameSeen
    pub is_frame : frame_of request ≡ Some frame

  -- the bus before the exchange, and what the line did to it
  pub record Hearing (bytes : List ℕ) (bus : Bus) (core : Core) (k : ℕ) : Type 0 where
    pub request : List ℕ
    pub before : Bus
    pub sent : Sending request before core k
    pub outcome : Outcome
    pub bytes_are : bytes ≡ heard_in outcome sent.frame meters before.positions
    pub few : row_after before.row outcome < 3
    pub bus_is : bus ≡ bus_after meters outcome sent.frame before

  pub record Committing (bus : Bus) (core : Core) (k : ℕ) : Type 0 where
    pub count : k ≡ bus.heard
    pub stands : Stands bus (settled_core core core.pending)
    pub goes : core.stopped ≡ false

  pub record Ended (core : Core) (k : ℕ) : Type 0 where
    pub few : k ≤ 3 * total + 1
    pub read : IsRead line meter.identity row parts start.core core

  abbrev pub At : Due → Bus → Core → ℕ → Type 0
  At to_start bus core k = ⊥
  At to_ask bus core k = Asking bus core k
  At (to_send request) bus core k = Sending request bus core k
  At (to_hear bytes) bus core k = Hearing bytes bus core k
  At to_commit bus core k = Committing bus core k
  At (to_make_room bytes) bus core k = ⊥
  At (to_hear_again bytes) bus core k = ⊥
  At is_over bus core k = Ended core k

  pub bound : (bus : Bus) (core : Core) → Stands bus core → bus.heard ≤ 3 * total
  bound bus core (inl x) =
      let less = (within budget line meters start place meter row parts may bus core x).1 in
      omega (arith, less)
  bound bus core (inr over) = let most = over.all.thrice in omega (arith, most)

  -- ---- a request is asked for

  none_step : (bus : Bus) (core : Core) (k : ℕ) → k ≡ bus.heard → Stands bus core → None ≡ ask_answer core line → Ended core (k + 1)
  none_step bus core k count (inl x) none = absurd (some_due budget line meters start place meter row parts may bus core x (sym none))
  none_step bus core k count (inr over) none =
      let most = over.all.thrice in
      record { few = omega (arith, count, most); read = over.read }

  some_step : (bus : Bus) (core : Core) (k : ℕ) (request : List ℕ) → k ≡ bus.heard → core.pending ≡ [] → Stands bus core → Some request ≡ ask_answer core line → Sending request bus core (k + 1)
  some_step bus core k request count quiet (inr over) some = absurd (let bad = some ∙ asks_nothing core line over.read.free in cc)
  some_step bus core k request count quiet (inl x) some =
      let asks = due_frame budget line meters start place meter row parts may bus core x in
      record {
        count = omega (arith, count);
        runs = x;
        quiet = quiet;
        is_asked = some;
        frame = asks.0;
        is_frame = sent_frame (asked_by x.asks.facts.running.session) request (some ∙ due_is budget line meters start place meter row parts may bus core x) ∙ asks.1;
      }

  ask_step : (bus : Bus) (core : Core) (k : ℕ) (answer : Answer) → Asking bus core k → May budget core (asks line) answer
      → At (behind_turn to_ask (asks line) answer) bus (next core (asks line) answer) (k + 1)
  ask_step bus core k (asked None) a is = none_step bus core k a.count a.stands is
  ask_step bus core k (asked (Some request)) a is = some_step bus core k request a.count a.quiet a.stands is
  ask_step bus core k (started answer) a is = absurd is
  ask_step bus core k (heard answer) a is = absurd is
  ask_step bus core k (committed answer) a is = absurd is
  ask_step bus core k (replied reply) a is = absurd is

  -- ---- it goes over the bus

  pub sent_at : (request : List ℕ) (bus : Bus) (core : Core) (k : ℕ) (answer : List ℕ) (goes_on : Bus → Type 0) → Sending request bus core k
      → (g : GivesTo meters bus (record { request = request; answer = answer }) goes_on) → Hearing answer (bus_after meters g.outcome g.frame bus) core k
  sent_at request bus core k answer goes_on x g =
      let same : g.frame ≡ x.frame = (let both : Some g.frame ≡ Some x.frame = sym g.is_frame ∙ x.is_frame in cc) in
      record {
        request = request;
        before = bus;
        sent = x;
        outcome = g.outcome;
        bytes_are = g.answer_is ∙ ap (λ (frame : FrameSeen). heard_in g.outcome frame meters bus.positions) same;
        few = g.few;
        bus_is = ap (λ (frame : FrameSeen). bus_after meters g.outcome frame bus) same;
      }

  -- ---- its answer is received

  pub heard_at : (bytes : List ℕ) (bus : Bus) (core : Core) (k : ℕ) (answer : Result LineHeard HearFault) → Hearing bytes bus core k → MayHear (hear_answer budget core line moment bytes) answer
      → answer ≢ Err NoMemory → At (behind_first_heard bytes answer) bus (after_hear core line moment bytes answer) (k + 0)
  heard_at bytes bus core k answer x is memory = at_answer
    where
      h : Sending x.request x.before core k
      h = x.sent

      given : List ℕ
      given = heard_in x.outcome h.frame meters x.before.positions

      heard_given : MayHear (hear_answer budget core line moment given) answer
      heard_given = subst (λ (b : List ℕ). MayHear (hear_answer budget core line moment b) answer) x.bytes_are is

      now : Core
      now = after_hear core line moment given answer

      after_it : Bus
      after_it = bus_after meters x.outcome h.frame x.before

      stands : Stands after_it (settled_core now now.pending)
      stands = (went budget line meters start place meter row parts may x.before core h.runs x.outcome x.request h.frame moment answer h.is_asked h.is_frame heard_given memory x.few).behind

      told : Told answer
      told = (went budget line meters start place meter row parts may x.before core h.runs x.outcome x.request h.frame moment answer h.is_asked h.is_frame heard_given memory x.few).is_told

      one_more : k + 0 ≡ after_it.heard
      one_more = let count = h.count in omega (arith, count)

      -- no telegram came
      goes_back : (good : LineHeard) → answer ≡ Ok good → IsCommand good → Asking after_it now (k + 0)
      goes_back good e command =
          let right : hear_answer budget core line moment given ≡ Ok good = sym (right_answer (hear_answer budget core line moment given) answer heard_given memory) ∙ e in
          let quiet : now.pending ≡ [] =
          ap (λ (a : Result LineHeard HearFault). (after_hear core line moment given a).pending) e ∙ quiet_heard budget core moment given good command line right ∙ h.quiet in
          record { count = one_more; stands = subst (λ (c : Core). Stands after_it c) (ap (settled_core now) quiet) stands; quiet = quiet }

      at_good : (good : LineHeard) → answer ≡ Ok good → GoesOn good → At (behind_first_heard bytes (Ok good)) after_it now (k + 0)
      at_good Again e goes = goes_back Again e tt
      at_good Ready e goes = goes_back Ready e tt
      at_good (Accepted part more) e goes = record { count = one_more; stands = stands; goes = still_running core line moment given answer ∙ h.runs.going.goes }
      at_good (Failed why) e goes = absurd goes

      at_answer : At (behind_first_heard bytes answer) bus (after_hear core line moment bytes answer) (k + 0)
      at_answer =
          subst (λ (b : Bus). At (behind_first_heard bytes answer) b (after_hear core line moment bytes answer) (k + 0)) (sym x.bus_is)
          (subst (λ (b : List ℕ). At (behind_first_heard bytes answer) after_it (after_hear core line moment b answer) (k + 0)) (sym x.bytes_are)
          (subst (λ (a : Result LineHeard HearFault). At (behind_first_heard bytes a) after_it now (k + 0)) (sym told.is) (at_good told.good told.is told.goes_on)))

  hear_step : (bytes : List ℕ) (bus : Bus) (core : Core) (k : ℕ) (answer : Answer) → Hearing bytes bus core k → May budget core (hears line moment bytes) answer
      → Works (hears line moment bytes) answer → At (behind_turn (to_hear bytes) (hears line moment bytes) answer) bus (next core (hears line moment bytes) answer) (k + 0)
  hear_step bytes bus core k (heard answer) h is works = heard_at bytes bus core k answer h is works
  hear_step bytes bus core k (started answer) h is works = absurd is
  hear_step bytes bus core k (asked answer) h is works = absurd is
  hear_step bytes bus core k (committed answer) h is works = absurd is
  hear_step bytes bus core k (replied reply) h is works = absurd is

  -- ---- a part is committed

  commit_step : (bus : Bus) (core : Core) (k : ℕ) (answer : Answer) → Committing bus core k → May budget core commits answer → Works commits answer
      → At (behind_turn to_commit commits answer) bus (next core commits answer) (k + 0)
  commit_step bus core k (committed (Ok count)) c is works =
      record { count = (let same = c.count in omega (arith, same)); stands = c.stands; quiet = nothing_left core core.pending refl }
  commit_step bus core k (committed (Err fault)) c is works = absurd works
  commit_step bus core k (started answer) c is works = absurd is
  commit_step bus core k (asked answer) c is works = absurd is
  commit_step bus core k (heard answer) c is works = absurd is
  commit_step bus core k (replied reply) c is works = absurd is

  -- ---- one thing after the other

  abbrev Steps : Due → Bus → Core → ℕ → Event → Answer → Type 0
  Steps due bus core k event answer = May budget core event answer → Works event answer → At (behind_turn due event answer) bus (next core event answer) (k + asks_by event)

  turn_step : (due : Due) (bus : Bus) (core : Core) (k : ℕ) (event : Event) (answer : Answer) → At due bus core k → IsDueEvent line moment meter.identity due event → Steps due bus core k event answer
  turn_step to_start bus core k event answer at is = absurd at
  turn_step to_ask bus core k event answer at is = subst (λ (e : Event). Steps to_ask bus core k e answer) (sym is) (λ allowed works. ask_step bus core k answer at allowed)
  turn_step (to_send request) bus core k event answer at is = absurd is
  turn_step (to_hear bytes) bus core k event answer at is = subst (λ (e : Event). Steps (to_hear bytes) bus core k e answer) (sym is) (hear_step bytes bus core k answer at)
  turn_step to_commit bus core k event answer at is = subst (λ (e : Event). Steps to_commit bus core k e answer) (sym is) (commit_step bus core k answer at)
  turn_step (to_make_room bytes) bus core k event answer at is = absurd at
  turn_step (to_hear_again bytes) bus core k event answer at is = absurd at
  turn_step is_over bus core k event answer at is = absurd is

  abbrev Final : Due → Core → ℕ → Type 0
  Final due core k = (bus : Bus) × At due bus core k

  along : (happened : List Happening) (phase last : Phase) (bus : Bus) (core : Core) (k : ℕ) → At phase.due bus core k → IsWay line moment meter.identity phase happened last
      → IsChain budget core (happened_turns happened) → IsServed meters bus happened → Final last.due (leads core (happened_turns happened)) (k + rounds_in happened)
  along [] phase last bus core k at way chain served =
      let same : k ≡ k + 0 = omega arith in
      (bus, subst (λ (p : Phase). At p.due bus core (k + 0)) (sym way) (subst (λ (n : ℕ). At phase.due bus core n) same at))
  along (loses ∷ more) phase last bus core k at way chain served = absurd served
  along (talks exchange ∷ more) phase last bus core k at way chain served =
      let sending : Sending exchange.request bus core k = subst (λ (due : Due). At due bus core k) way.0.0 at in
      let heard = sent_at exchange.request bus core k exchange.answer (λ (now : Bus). IsServed meters now more) sending served in
      let sum : k + rounds_in more ≡ k + rounds_in (talks exchange ∷ more) = omega arith in
      subst (λ (m : ℕ). Final last.due (leads core (happened_turns more)) m) sum
      (along more (behind phase (talks exchange)) last (bus_after meters served.outcome served.frame bus) core k heard way.1 chain served.then_on)
  along (does turn ∷ more) phase last bus core k at way chain served =
      let now = turn_step phase.due bus core k turn.0 turn.1 at way.0 chain.0 served.0 in
      let rest = along more (behind phase (does turn)) last bus (next core turn.0 turn.1) (k + asks_by turn.0) now way.1 chain.1 served.1 in
      let sum : k + asks_by turn.0 + rounds_in more ≡ k + rounds_in (does turn ∷ more) = omega arith in
      subst (λ (m : ℕ). Final last.due (leads core (happened_turns (does turn ∷ more))) m) sum rest

  -- ---- the end

  final : (due : Due) (core : Core) (k : ℕ) → Final due core k → due ≡ is_over → Ended core k
  final to_start core k f over = absurd f.1
  final to_ask core k f over = absurd cc
  final (to_send request) core k f over = absurd cc
  final (to_hear bytes) core k f over = absurd cc
  final to_commit core k f over = absurd cc
  final (to_make_room bytes) core k f over = absurd f.1
  final (to_hear_again bytes) core k f over = absurd f.1
  final is_over core k f over = f.1

  -- ---- the start

  abbrev pub begun : Core
  begun = (begun_on line meter.identity start).core

  abbrev pub first_bus : Bus
  first_bus = bus_at_first start.positions

  pub asking_first : Asking first_bus begun 0
  asking_first = record {
    count = refl;
    stands = inl (at_first budget line meters start place meter row parts may);
    quiet = quiet_start;
  }

  start_step : (answer : Answer) → May budget start.core (starts line meter.identity) answer
      → At (behind_turn to_start (starts line meter.identity) answer) first_bus (next start.core (starts line meter.identity) answer) 0
  start_step (started (Ok done)) is = asking_first
  start_step (started (Err fault)) is = absurd (let bad = is ∙ may.begins.may_start in cc)
  start_step (asked answer) is = absurd is
  start_step (heard answer) is = absurd is
  start_step (committed answer) is = absurd is
  start_step (replied reply) is = absurd is

  first_step : (event : Event) (answer : Answer) → event ≡ starts line meter.identity → May budget start.core event answer → At (behind_turn to_start event answer) first_bus (next start.core event answer) (asks_by event)
  first_step event answer is =
      subst (λ (e : Event). May budget start.core e answer → At (behind_turn to_start e answer) first_bus (next start.core e answer) (asks_by e)) (sym is) (start_step answer)

  from_first : (happened : List Happening) (link : Link) (last : Phase) → IsWay line moment meter.identity (record { due = to_start; link = link }) happened last → last.due ≡ is_over
      → IsChain budget start.core (happened_turns happened) → IsServed meters first_bus happened → Ended (leads start.core (happened_turns happened)) (rounds_in happened)
  from_first [] link last way over chain served = absurd (let bad = sym (ap (λ (p : Phase). p.due) way) ∙ over in cc)
  from_first (loses ∷ more) link last way end chain served = absurd served
  from_first (talks exchange ∷ more) link last way end chain served = absurd (let bad = way.0.0 in cc)
  from_first (does turn ∷ more) link last way end chain served =
      let phase : Phase = record { due = to_start; link = link } in
      let now = first_step turn.0 turn.1 way.0 chain.0 in
      let rest = along more (behind phase (does turn)) last first_bus (next start.core turn.0 turn.1) (asks_by turn.0) now way.1 chain.1 served.1 in
      final last.due (leads start.core (happened_turns (does turn ∷ more))) (rounds_in (does turn ∷ more)) rest end

  ends_read : (happened : List Happening) (turns : List Turn) → turns ≡ happened_turns happened → Ended (leads start.core (happened_turns happened)) (rounds_in happened)
      → EndsRead line meter row parts happened start.core (leads start.core turns)
  ends_read happened turns same ended = record {
    within = ended.few;
    read = subst (λ (ts : List Turn). IsRead line meter.identity row parts start.core (leads start.core ts)) (sym same) ended.read;
  }

pub polls_end : PollsEnd
polls_end line budget moment place meters scene meter row parts left turns exchanges text polls may quiet chain served =
    ends_read line budget moment place meters scene meter row parts may quiet polls.happened turns polls.turns_are
    (from_first line budget moment place meters scene meter row parts may quiet polls.happened linked polls.last polls.way polls.ends
    (subst (IsChain budget scene.core) polls.turns_are chain) served)

-- A poll that is served (the theorem of specs/Polled).

module _ (line : ℕ) (budget moment place : ℕ) (meters : List Meter) (start : Scene) (meter : Meter) (row : MeterRow) (parts : List (List ℕ)) (may : MayBeRead budget line meters start place meter row parts) (quiet_start : start.core.pending ≡ []) where
  abbrev phase_of : Due → Phase
  phase_of due = record { due = due; link = linked }

  -- what may happen from now on, to the end
  record Rest (due : Due) (bus : Bus) (core : Core) : Type 0 where
    happened : List Happening
    last : Phase
    way : IsWay line moment meter.identity (phase_of due) happened last
    over : last.due ≡ is_over
    chain : IsChain budget core (happened_turns happened)
    served : IsServed meters bus happened

  abbrev Known : Due → Bus → Core → ℕ → Type 0
  Known due bus core k = At line budget moment place meters start meter row parts may quiet_start due bus core k

  -- each request takes four steps at most
  abbrev IsEnough : Due → ℕ → ℕ → Type 0
  IsEnough to_start k fuel = Unit {0}
  IsEnough to_ask k fuel = 12 * requests_of meter.address parts + 1 ≤ 4 * k + fuel
  IsEnough (to_send request) k fuel = 12 * requests_of meter.address parts + 4 ≤ 4 * k + fuel
  IsEnough (to_hear bytes) k fuel = 12 * requests_of meter.address parts + 3 ≤ 4 * k + fuel
  IsEnough to_commit k fuel = 12 * requests_of meter.address parts + 2 ≤ 4 * k + fuel
  IsEnough (to_make_room bytes) k fuel = Unit {0}
  IsEnough (to_hear_again bytes) k fuel = Unit {0}
  IsEnough is_over k fuel = Unit {0}

  abbrev Onward : ℕ → Type 0
  Onward fuel = (due : Due) (bus : Bus) (core : Core) (k : ℕ) → Known due bus core k → IsEnough due k fuel → Rest due bus core

  enough_heard : (bytes : List ℕ) (answer : Result LineHeard HearFault) (k fuel : ℕ) → 12 * requests_of meter.address parts + 3 ≤ 4 * k + suc fuel → IsEnough (behind_first_heard bytes answer) (k + 0) fuel
  enough_heard bytes (Ok Again) k fuel enough = omega (arith, enough)
  enough_heard bytes (Ok Ready) k fuel enough = omega (arith, enough)
  enough_heard bytes (Ok (Accepted part more)) k fuel enough = omega (arith, enough)
  enough_heard bytes (Ok (Failed why)) k fuel enough = tt
  enough_heard bytes (Err PendingFull) k fuel enough = tt
  enough_heard bytes (Err NoLine) k fuel enough = tt
  enough_heard bytes (Err Idle) k fuel enough = tt
  enough_heard bytes (Err Full) k fuel enough = tt
  enough_heard bytes (Err NoMemory) k fuel enough = tt
  enough_heard bytes (Err Stopped) k fuel enough = tt

  -- ---- one thing more

  over_rest : (bus : Bus) (core : Core) → Rest is_over bus core
  over_rest bus core = record { happened = []; last = phase_of is_over; way = refl; over = refl; chain = tt; served = tt }

  one_more : (due : Due) (event : Event) (answer : Answer) (bus : Bus) (core : Core) → IsDueEvent line moment meter.identity due event → May budget core event answer → Works event answer
      → Rest (behind_turn due event answer) bus (next core event answer) → Rest due bus core
  one_more due event answer bus core is allowed works rest = record {
    happened = does (event, answer) ∷ rest.happened;
    last = rest.last;
    way = (is, rest.way);
    over = rest.over;
    chain = (allowed, rest.chain);
    served = (works, rest.served);
  }

  -- ---- a request is asked for

  asks_rest : (fuel : ℕ) → Onward fuel → (bus : Bus) (core : Core) (k : ℕ) (a : Asking line budget moment place meters start meter row parts may quiet_start bus core k)
      → Stands line budget moment place meters start meter row parts may quiet_start bus core
      → 12 * requests_of meter.address parts + 1 ≤ 4 * k + suc fuel → Rest to_ask bus core
  asks_rest fuel more bus core k a (inr over) enough =
      one_more to_ask (asks line) (asked None) bus core refl (sym (asks_nothing core line over.read.free)) tt (over_rest bus core)
  asks_rest fuel more bus core k a (inl x) enough =
      let asks_it = due_frame budget line meters start place meter row parts may bus core x in
      let request : List ℕ = spelling asks_it.0 in
      let is_asked : Some request ≡ ask_answer core line = sym (due_is budget line meters start place meter row parts may bus core x ∙ ap (option_map spelling) asks_it.1) in
      let count = a.count in
      let known : Sending line budget moment place meters start meter row parts may quiet_start request bus core (k + 1) =
      record { count = omega (arith, count); runs = x; quiet = a.quiet; is_asked = is_asked; frame = asks_it.0; is_frame = frame_of-spelling asks_it.0 } in
      one_more to_ask (asks line) (asked (Some request)) bus core refl is_asked tt (more (to_send request) bus core (k + 1) known (omega (arith, enough)))

  -- ---- it goes over the bus

  given_short : (request : List ℕ) (bus : Bus) (core : Core) (k : ℕ) (h : Sending line budget moment place meters start meter row parts may quiet_start request bus core k)
      → length (heard_in AsSent h.frame meters bus.positions) ≤ most_answer
  given_short request bus core k h =
      let x = h.runs.asks.facts in
      let agrees = x.regular.agrees x.running x.runs in
      let at : slice_get meters x.running.meter ≡ Some meter = ap (slice_get meters) x.place_is ∙ may.begins.there.stands in
      let here = due_is budget line meters start place meter row parts may bus core h.runs in
      let asks_it : asked_by x.running.session ≡ Some h.frame = sym (sent_frame (asked_by x.running.session) request (h.is_asked ∙ here)) ∙ h.is_frame in
      let moved = moved_by h.frame meter agrees.position in
      let sent = heard_as_sent meters may.begins.there.regular x.world x.running h.frame meter agrees.position agrees asks_it at agrees.stands.1 in
      let same : heard_in AsSent h.frame meters bus.positions ≡ bytes_of (answer_to h.frame meter moved) = ap (heard_in AsSent h.frame meters) (sym x.stand) ∙ sent in
      let few = answer_short h.frame meter moved (λ j body there. may.begins.there.regular.fit place j meter body may.begins.there.stands there) in
      subst (λ (bytes : List ℕ). length bytes ≤ most_answer) (sym same) few

  sends_rest : (fuel : ℕ) → Onward fuel → (request : List ℕ) (bus : Bus) (core : Core) (k : ℕ) → Sending line budget moment place meters start meter row parts may quiet_start request bus core k
      → 12 * requests_of meter.address parts + 4 ≤ 4 * k + suc fuel → Rest (to_send request) bus core
  sends_rest fuel more request bus core k h enough =
      let bytes : List ℕ = heard_in AsSent h.frame meters bus.positions in
      let exchange : Exchange = record { request = request; answer = bytes } in
      let now : Bus = bus_after meters AsSent h.frame bus in
      let given : GivesTo meters bus exchange (λ (b : Bus). Unit {0}) = record {
        outcome = AsSent;
        frame = h.frame;
        is_frame = h.is_frame;
        answer_is = refl;
        few = omega arith;
        then_on = tt;
      } in
      let known = sent_at line budget moment place meters start meter row parts may quiet_start request bus core k bytes (λ (b : Bus). Unit {0}) h given in
      let rest = more (to_hear bytes) now core k known (omega (arith, enough)) in
      record {
        happened = talks exchange ∷ rest.happened;
        last = rest.last;
        way = ((refl, given_short request bus core k h, tt), rest.way);
        over = rest.over;
        chain = rest.chain;
        served = record { outcome = AsSent; frame = h.frame; is_frame = h.is_frame; answer_is = refl; few = omega arith; then_on = rest.served };
      }

  -- ---- its answer is received

  hears_rest : (fuel : ℕ) → Onward fuel → (bytes : List ℕ) (bus : Bus) (core : Core) (k : ℕ) → Hearing line budget moment place meters start meter row parts may quiet_start bytes bus core k
      → 12 * requests_of meter.address parts + 3 ≤ 4 * k + suc fuel → Rest (to_hear bytes) bus core
  hears_rest fuel more bytes bus core k h enough =
      let answer : Result LineHeard HearFault = hear_answer budget core line moment bytes in
      let memory = never_memory budget core line moment bytes in
      let known : Known (behind_first_heard bytes answer) bus (after_hear core line moment bytes answer) (k + 0) =
      heard_at line budget moment place meters start meter row parts may quiet_start bytes bus core k answer h (inl refl) memory in
      let rest = more (behind_first_heard bytes answer) bus (after_hear core line moment bytes answer) (k + 0) known (enough_heard bytes answer k fuel enough) in
      one_more (to_hear bytes) (hears line moment bytes) (heard answer) bus core refl (inl refl) memory rest

  -- ---- a part is committed

  commits_rest : (fuel : ℕ) → Onward fuel → (bus : Bus) (core : Core) (k : ℕ) → Committing line budget moment place meters start meter row parts may quiet_start bus core k → 12 * requests_of meter.address parts + 2 ≤ 4 * k + suc fuel → Rest to_commit bus core
  commits_rest fuel more bus core k c enough =
      let known : Asking line budget moment place meters start meter row parts may quiet_start bus (settled_core core core.pending) k =
      record { count = c.count; stands = c.stands; quiet = nothing_left core core.pending refl } in
      let rest = more to_ask bus (settled_core core core.pending) k known (omega (arith, enough)) in
      one_more to_commit commits (committed (Ok (length core.pending))) bus core refl (refl, inr c.goes) tt rest

  -- ---- to the end

  rest_of : (fuel : ℕ) → Onward fuel
  rest_of zero to_start bus core k known enough = absurd known
  rest_of (suc fuel) to_start bus core k known enough = absurd known
  rest_of zero to_ask bus core k known enough =
      let most = bound line budget moment place meters start meter row parts may quiet_start bus core known.stands in
      let count = known.count in
      absurd (omega (arith, enough, most, count))
  rest_of (suc fuel) to_ask bus core k known enough = asks_rest fuel (rest_of fuel) bus core k known known.stands enough
  rest_of zero (to_send request) bus core k known enough =
      let less = (within budget line meters start place meter row parts may bus core known.runs).1 in
      let count = known.count in
      absurd (omega (arith, enough, less, count))
  rest_of (suc fuel) (to_send request) bus core k known enough = sends_rest fuel (rest_of fuel) request bus core k known enough
  rest_of zero (to_hear bytes) bus core k known enough =
      let less = (within budget line meters start place meter row parts may known.before core known.sent.runs).1 in
      let count = known.sent.count in
      absurd (omega (arith, enough, less, count))
  rest_of (suc fuel) (to_hear bytes) bus core k known enough = hears_rest fuel (rest_of fuel) bytes bus core k known enough
  rest_of zero to_commit bus core k known enough =
      let most = bound line budget moment place meters start meter row parts may quiet_start bus (settled_core core core.pending) known.stands in
      let count = known.count in
      absurd (omega (arith, enough, most, count))
  rest_of (suc fuel) to_commit bus core k known enough = commits_rest fuel (rest_of fuel) bus core k known enough
  rest_of zero (to_make_room bytes) bus core k known enough = absurd known
  rest_of (suc fuel) (to_make_room bytes) bus core k known enough = absurd known
  rest_of zero (to_hear_again bytes) bus core k known enough = absurd known
  rest_of (suc fuel) (to_hear_again bytes) bus core k known enough = absurd known
  rest_of zero is_over bus core k known enough = over_rest bus core
  rest_of (suc fuel) is_over bus core k known enough = over_rest bus core

  from_start : Rest to_start (bus_at_first start.positions) start.core
  from_start =
      let first = bus_at_first start.positions in
      let core = begun line budget moment place meters start meter row parts may quiet_start in
      let rest = rest_of (12 * requests_of meter.address parts + 1) to_ask first core 0 (asking_first line budget moment place meters start meter row parts may quiet_start) (omega arith) in
      one_more to_start (starts line meter.identity) (started (Ok tt)) first start.core refl (sym may.begins.may_start) tt rest

  served_poll : ServedPoll line budget moment meters start meter
  served_poll =
      let rest = from_start in
      record {
        left = rest.last.link;
        turns = happened_turns rest.happened;
        exchanges = happened_exchanges rest.happened;
        text = happened_text rest.happened;
        polls = record { happened = rest.happened; last = rest.last; way = rest.way; ends = rest.over; left_is = refl; turns_are = refl; exchanges_are = refl; text_is = refl };
        chain = rest.chain;
        served = rest.served;
      }

pub polls_are_served : PollsAreServed
polls_are_served line budget moment place meters scene meter row parts may quiet = served_poll line budget moment place meters scene meter row parts may quiet
