-- What a concentrator does while that meter is read, on a disk where what is written is durable at once.
use Rattle.std.proofs.Common.{◌≡◌, inl, inr, ℕ, ◌+◌, ◌≤◌, true, false, List, [], ◌∷◌, ◌++◌, length, take, Option, Some, None, Ok, arith, refl, sym, ◌∙◌, ap, subst, ◌≢◌, zero, suc, ◌<◌, Bool}
use Rattle.std.specs.Prelude.{All, if◌then◌else◌, slice_index_or, ◌==◌}
use Rattle.std.proofs.lemmas.List.Elements.{All-nil, All-cons}
use Rattle.std.proofs.lemmas.Bool.Decides.{nat_tests}
use Rattle.mbdc_change.specs.Encoding.{changes_bytes}
use Rattle.mbdc_change.specs.History.{AcceptsAll, after}
use Rattle.mbdc_change.specs.State.{State}
use Rattle.mbdc_change.specs.Valid.{IsChange}
use Rattle.mbdc_change.specs.declared.change.Change.{Change}
use Rattle.dc_core.specs.Core.{Core, opened, present, with_session}
use Rattle.dc_core.specs.Event.{starts, asks, hears, commits, started, asked, heard, committed}
use Rattle.dc_core.specs.Images.{IsAt, Machine, StandsForPromised}
use Rattle.dc_core.specs.OpenedOn.{IsOpenedOn}
use Rattle.dc_core.specs.Promised.{HoldsFront, promised_in}
use Rattle.dc_core.specs.Run.{DidAll, IsShown, fault_in}
use Rattle.dc_core.specs.Step.{May, judged, next, verdict_answer}
use Rattle.dc_core.specs.Transcript.{IsChain, Turn, accepted_by, accepted_in, leads}
use Rattle.dc_core.specs.Went.{Went}
use Rattle.dc_core.specs.declared.line_heard.LineHeard.TheVariants.{Accepted, Ready}
use Rattle.dc_core.proofs.Followed.{none_is_unknown}
use Rattle.dc_core.proofs.Fronts.{promised_is_committed}
use Rattle.dc_core.proofs.Headline.{stopped_reads}
use Rattle.dc_sectors.specs.Disk.{Image, IsImage, settled}
use Rattle.dc_sectors.specs.Images.{settled_image, settled_is_image}
use Rattle.dc_sectors.specs.Runs.{LeavesOnly}
use Rattle.dc_linkframe.specs.Control.{request_to, reset_to, variable_data}
use Rattle.dc_linkframe.specs.Frame.{FrameSeen, ack, long, spelling}
use Rattle.dc_linkframe.specs.Reading.{frame_of}
use Rattle.dc_linkframe.proofs.Spellings.{frame_of-spelling}
use Rattle.mbdc_log.specs.Stands.{IsReady}
use Rattle.dc_core.specs.PendingImages.{Reads, Stands, StandsForFront, StandsForOne}
use Rattle.dc_core.specs.Lines.{settled_lines}
use Rattle.dc_readout.specs.Summary.{Summary, Verdict, begun, heard_by, meaning_at, new, ready, verdict_of_meaning}
use Rattle.dc_meters.specs.Language.{register}
use Rattle.dc_readout.specs.Meter.{rsp_ud, answer_to, first_position, moved_by}
use Rattle.dc_readout.specs.declared.world.event.Outcome.TheVariants.{AsSent}
use Rattle.dc_readout.specs.World.{heard_in}
use Rattle.mbdc_poll.specs.Happening.{Happening, does, tells, happened_on}
use Rattle.mbdc_poll.specs.ImagePoll.{ImageTurned}
use Rattle.mbdc_poll.specs.Keeping.{AreTrue, InRounds, IsAsking, IsHearing, IsNewest, IsRound, at_first, and_round, some_wait}
use Rattle.mbdc_poll.specs.Missed.{Brings, brought_after}
use Rattle.mbdc_poll.specs.Planned.{IsPlanned}
use Rattle.mbdc_poll.specs.Queue.{Goes}
use Rattle.mbdc_poll.specs.Round.{IsCommitTurn, IsOver, IsSilent, LineGoes}
use Rattle.mbdc_poll.specs.Station.{part_of, talk_of}
use Rattle.mbdc_poll.specs.Talking.{Talks}
use Rattle.mbdc_poll.specs.declared.event.Event.{Event as Told}
use Rattle.mbdc_poll.specs.declared.event.Event.TheVariants.{Lost as is_lost, Read as was_read}
use Rattle.mbdc_poll.specs.declared.outcome.Outcome.{Outcome}
use Rattle.mbdc_poll.specs.declared.phase.Phase.TheVariants.{Free}
use Rattle.mbdc_poll.specs.declared.phase.Request.TheVariants.{Quiet}
use Rattle.mbdc_poll.specs.declared.station.Station.{Station}
use Rattle.mbdc_poll.specs.Telling.{TakesAll}
use Rattle.mbdc_theorems.specs.Met.{durable_disk, AnyPoll, IsMet, any_bus}
use Rattle.mbdc_theorems.proofs.OneHouse.{body, house, one, read_as, reads, accepted, are_changes, budget, change, half, house_read, image_0, image_1, ready_0, ready_1, root, ascends, meter, wire, wired, part}
use Rattle.mbdc_theorems.specs.Beside.{Bus as Line, bus_after, bus_at_first}
use Rattle.mbdc_theorems.specs.Carried.{IsCarried, NothingIsWanting}
use Rattle.mbdc_theorems.specs.Every.{EachIsRead, HasRoom, IsInOrder}
use Rattle.mbdc_theorems.proofs.Every.{each_is_read}
use Rattle.mbdc_poll.specs.Queue as queue
use Rattle.mbdc_poll.specs.Talking as talking

-- ---- the turns

abbrev pub reset : FrameSeen
reset = reset_to 1

abbrev pub request : FrameSeen
request = request_to true 1

abbrev pub acked : List ℕ
acked = spelling ack

abbrev pub reply : FrameSeen
reply = long rsp_ud 1 variable_data body

abbrev pub sent : List ℕ
sent = spelling reply

-- nothing is pending
abbrev pub commits_none : Turn
commits_none = (commits, committed (Ok 0))

abbrev pub starts_it : Turn
starts_it = (starts 1 one, started (Ok tt))

abbrev pub resets_it : Turn
resets_it = (asks 1, asked (Some (spelling reset)))

abbrev pub hears_ack : Turn
hears_ack = (hears 1 0 acked, heard (Ok Ready))

abbrev pub requests_it : Turn
requests_it = (asks 1, asked (Some (spelling request)))

abbrev pub hears_it : Turn
hears_it = (hears 1 0 sent, heard (Ok (Accepted 1 false)))

abbrev pub commits_it : Turn
commits_it = (commits, committed (Ok 1))

abbrev pub asks_none : Turn
asks_none = (asks 1, asked None)

abbrev pub turns : List Turn
turns = commits_none ∷ starts_it ∷ resets_it ∷ hears_ack ∷ commits_none ∷ requests_it ∷ hears_it ∷ commits_it ∷ asks_none ∷ commits_none ∷ []

-- ---- where they lead

abbrev at_start : Summary
at_start = begun one (Some 1)

abbrev at_request : Summary
at_request = heard_by at_start ready

abbrev pub core_0 : Core
core_0 = opened house

abbrev core_1 : Core
core_1 = with_session 1 (Some at_start) core_0

abbrev core_2 : Core
core_2 = with_session 1 (Some at_request) core_1

abbrev core_3 : Core
core_3 = record (with_session 1 (Some (heard_by at_request (new 1 read_as))) core_2) { pending = change ∷ [] }

abbrev pub core_4 : Core
core_4 = record core_3 { committed = house_read; pending = []; lines = settled_lines core_3.lines }

-- what a verdict on an answer of the session comes to
abbrev meant : Summary → Option FrameSeen → Verdict
meant s frame = verdict_of_meaning s.tries s.settled (meaning_at s.stage s.meter s.address s.settled frame)

ready_by : meant at_start (frame_of acked) ≡ ready
ready_by = ap (meant at_start) (frame_of-spelling ack)

new_by : meant at_request (frame_of sent) ≡ new 1 read_as
new_by = ap (meant at_request) (frame_of-spelling reply) ∙ rw reads refl

may_ack : May budget core_1 hears_ack.0 hears_ack.1
may_ack = inl (sym (ap (verdict_answer budget core_1 0) ready_by))

to_ready : next core_1 hears_ack.0 hears_ack.1 ≡ core_2
to_ready = ap (judged core_1 1 0 at_start) ready_by

may_telegram : May budget core_2 hears_it.0 hears_it.1
may_telegram = inl (sym (ap (verdict_answer budget core_2 0) new_by))

to_pending : next core_2 hears_it.0 hears_it.1 ≡ core_3
to_pending = ap (judged core_2 1 0 at_request) new_by

-- ---- a machine in a state

-- the image of its disk, and how many groups of changes that has
record Shelf : Type 0 where
  image : Image
  groups : ℕ
  place : ℕ

abbrev shelf_0 : Shelf
shelf_0 = record { image = image_0; groups = 0; place = 5 }

abbrev shelf_1 : Shelf
shelf_1 = record { image = image_1; groups = 1; place = 7 }

abbrev machine : Shelf → Core → Machine Image
machine shelf core = record {
  store = record { disk = shelf.image; root = root; place = shelf.place; last = root.base_sequence + shelf.groups; is_stopped = core.stopped };
  house = record { state = present core; budget = budget };
  waiting = record { bytes = changes_bytes core.pending; count = length core.pending };
  lines = core.lines;
}

abbrev pub machine_0 : Machine Image
machine_0 = machine shelf_0 core_0

abbrev pub machine_1 : Machine Image
machine_1 = machine shelf_1 core_4

-- what is pending is accepted, and the image stands for what is committed
record IsFit (shelf : Shelf) (core : Core) : Type 0 where
  are_changes : All IsChange core.pending
  accepted : AcceptsAll budget core.committed core.pending
  ready : IsReady register half root shelf.groups shelf.place core.committed shelf.image

stands : (shelf : Shelf) (state : State) → IsReady register half root shelf.groups shelf.place state shelf.image → Stands half state shelf.image
stands shelf state is = record { root = root; m = shelf.groups; place = shelf.place; by = is.stands }

-- what the one image of a durable disk is, each of its images is
each_image : (P : Image → Type 0) (disk image : Image) → P disk → IsImage (settled disk) image → P image
each_image P disk image holds is = subst P (sym (settled_image disk image is)) holds

leaves_only : (P : Image → Type 0) (old now : Image) → P now → LeavesOnly durable_disk old now P
leaves_only P old now holds = record {
  later = omega arith;
  each = λ image is. each_image P now image holds is;
  before = λ t image le is. inr (each_image P now image holds is);
}

-- none of the changes is needed
front_none : (shelf : Shelf) (state : State) (changes : List Change) → IsReady register half root shelf.groups shelf.place state shelf.image → StandsForFront half state changes shelf.image
front_none shelf state changes is = record { count = 0; within = omega arith; stands = stands shelf state is }

at : (origin : Image) (shelf : Shelf) (core : Core) → IsFit shelf core → IsAt durable_disk origin (machine shelf core) core
at origin shelf core fit = record {
  house_is = refl;
  spells = record { spelled = refl; are_changes = fit.are_changes };
  count_is = refl;
  accepted = fit.accepted;
  lines_are = refl;
  stopped_is = refl;
  keeps = λ keeps running. record { running = running; version = refl; is_settled = refl; m = shelf.groups; ready = fit.ready; last_is = refl };
  stands = λ keeps running image is. each_image (Stands half core.committed) shelf.image image (stands shelf core.committed fit.ready) is;
  leaves = λ keeps image is. each_image (StandsForFront half core.committed core.pending) shelf.image image (front_none shelf core.committed core.pending fit.ready) is;
}

-- a chain of steps, machine to machine
data Leads : Shelf → Core → List Turn → Shelf → Core → Type 0 where
  rests : {shelf : Shelf} {core : Core} → IsFit shelf core → Leads shelf core [] shelf core
  steps : {shelf next_shelf last_shelf : Shelf} {core mid last : Core} {turn : Turn} {more : List Turn} → May budget core turn.0 turn.1 → fault_in turn.1 ≡ None
      → StandsForFront half core.committed (core.pending ++ accepted_by core turn.0 turn.1) next_shelf.image → next core turn.0 turn.1 ≡ mid → Leads next_shelf mid more last_shelf last
      → IsFit shelf core → Leads shelf core (turn ∷ more) last_shelf last

fit_first : {shelf last_shelf : Shelf} {core last : Core} {ts : List Turn} → Leads shelf core ts last_shelf last → IsFit shelf core
fit_first (rests fit) = fit
fit_first (steps may passed front is more fit) = fit

leads_to : {shelf last_shelf : Shelf} {core last : Core} {ts : List Turn} → Leads shelf core ts last_shelf last → leads core ts ≡ last
leads_to (rests fit) = refl
leads_to (steps {more = ts} may passed front is more fit) = ap (λ (c : Core). leads c ts) is ∙ leads_to more

chain_of : {shelf last_shelf : Shelf} {core last : Core} {ts : List Turn} → Leads shelf core ts last_shelf last → IsChain budget core ts
chain_of (rests fit) = tt
chain_of (steps {more = ts} may passed front is more fit) = (may, subst (λ (c : Core). IsChain budget c ts) (sym is) (chain_of more))

did_all : {shelf last_shelf : Shelf} {core last : Core} {ts : List Turn} → Leads shelf core ts last_shelf last → DidAll durable_disk image_0 budget core ts (machine shelf core) (machine last_shelf last)
did_all (rests fit) = refl
did_all (steps {shelf = shelf} {next_shelf = shelf'} {last_shelf = last_shelf} {core = core} {mid = mid} {last = last} {turn = turn} {more = ts} may passed front is more fit) = (
  machine shelf' mid,
  record {
    may = may;
    at = subst (IsAt durable_disk image_0 (machine shelf' mid)) (sym is) (at image_0 shelf' mid (fit_first more));
    count = refl;
    failed = subst (IsShown durable_disk (machine shelf core) (machine shelf' mid)) (sym passed) tt;
    leaves = λ keeps. leaves_only (StandsForFront half core.committed (core.pending ++ accepted_by core turn.0 turn.1)) shelf.image shelf'.image front;
  },
  subst (λ (c : Core). DidAll durable_disk image_0 budget c ts (machine shelf' mid) (machine last_shelf last)) (sym is) (did_all more),
)

-- a step that leaves the disk
stays : {shelf last_shelf : Shelf} {core mid last : Core} {turn : Turn} {more : List Turn} → May budget core turn.0 turn.1 → fault_in turn.1 ≡ None → next core turn.0 turn.1 ≡ mid
    → Leads shelf mid more last_shelf last → IsFit shelf core → Leads shelf core (turn ∷ more) last_shelf last
stays {shelf = shelf} {core = core} {turn = turn} may passed is more fit = steps may passed (front_none shelf core.committed (core.pending ++ accepted_by core turn.0 turn.1) fit.ready) is more fit

quiet : (shelf : Shelf) (core : Core) → core.pending ≡ [] → IsReady register half root shelf.groups shelf.place core.committed shelf.image → IsFit shelf core
quiet shelf core none is = record { are_changes = subst (All IsChange) (sym none) (All-nil IsChange); accepted = subst (AcceptsAll budget core.committed) (sym none) tt; ready = is }

run : Leads shelf_0 core_0 turns shelf_1 core_4
run =
    let first : IsFit shelf_0 core_0 = quiet shelf_0 core_0 refl ready_0 in
    let begun_on : IsFit shelf_0 core_1 = quiet shelf_0 core_1 refl ready_0 in
    let reset_on : IsFit shelf_0 core_2 = quiet shelf_0 core_2 refl ready_0 in
    let waits : IsFit shelf_0 core_3 = record { are_changes = are_changes; accepted = accepted; ready = ready_0 } in
    let over : IsFit shelf_1 core_4 = quiet shelf_1 core_4 refl ready_1 in
    let front : StandsForFront half house (change ∷ []) image_1 = record { count = 1; within = omega arith; stands = stands shelf_1 house_read ready_1 } in
    stays (refl, inl refl) refl refl
    (stays refl refl refl
    (stays refl refl refl
    (stays may_ack refl to_ready
    (stays (refl, inl refl) refl refl
    (stays refl refl refl
    (stays may_telegram refl to_pending
    (steps (refl, inr refl) refl front refl
    (stays refl refl refl
    (stays (refl, inl refl) refl refl (rests over) over) over) waits) reset_on) reset_on) reset_on) begun_on) begun_on) first) first

-- ---- the run

pub leads_is : leads core_0 turns ≡ core_4
leads_is = leads_to run

chain : IsChain budget core_0 turns
chain = chain_of run

pub opening : IsOpenedOn durable_disk image_0 house machine_0
opening = record {
  budget_is = refl;
  count = refl;
  at = at image_0 shelf_0 core_0 (quiet shelf_0 core_0 refl ready_0);
  reads_as = λ keeps. reads_0;
  leaves = λ keeps. leaves_only (StandsForOne half (settled image_0)) image_0 image_0 (record { state = house; stands = stands shelf_0 house ready_0; was = image_0; was_image = settled_is_image image_0; stood = stands shelf_0 house ready_0 });
  kept = λ was done more stopped keeps. (stopped_reads durable_disk (λ disk image is. is) was done more stopped).kept house reads_0;
}
  where
    reads_0 : Reads half house image_0
    reads_0 = record { root = root; m = 0; place = 5; by = ready_0.stands.reads }

held : HoldsFront house turns (leads core_0 turns)
held = promised_is_committed budget house turns chain

promised : (count : ℕ) → count ≤ held.count → StandsForPromised half house count (accepted_in core_0 turns) image_1
promised count le =
    let is : house_read ≡ after house (take held.count (accepted_in core_0 turns)) = ap (λ (c : Core). c.committed) (sym leads_is) ∙ held.committed in
    record { front = record { count = held.count; within = held.within; stands = subst (λ (s : State). Stands half s image_1) is (stands shelf_1 house_read ready_1) }; all_promised = le }

pub went : Went durable_disk image_0 budget house [] turns machine_0 machine_1
went = record {
  ran = record {
    turns = turns;
    events_are = refl;
    steps = did_all run;
    chain = chain;
    text = tt;
    at = subst (IsAt durable_disk image_0 machine_1) (sym leads_is) (at image_0 shelf_1 core_4 (quiet shelf_1 core_4 refl ready_1));
    holds = held;
    knows = none_is_unknown budget house turns chain;
    count = refl;
    kept = omega arith;
    leaves = λ keeps. leaves_only (StandsForPromised half house 0 (accepted_in core_0 turns)) image_0 image_1 (promised 0 (omega arith));
    behind = λ keeps image is. each_image (StandsForPromised half house (promised_in turns) (accepted_in core_0 turns)) image_1 image (promised (promised_in turns) held.promised) is;
  };
  turns_are = refl;
}

-- The poll in which that meter is read (the law of specs/Met).

-- ---- what happens

abbrev told : Told
told = was_read one 1 (part.body ∷ []) (Some part)

abbrev happened : List Happening
happened = does commits_none ∷ does starts_it ∷ does resets_it ∷ does hears_ack ∷ does commits_none ∷ does requests_it ∷ does hears_it ∷ does commits_it ∷ does asks_none ∷ does commits_none ∷ tells 1 told ∷ []

abbrev first : Station (Unit {0})
first = record { bus = tt; left = record { ref_ptr = (0, 0); ghost_name = 0; now = one ∷ [] }; due = 1; pass = 1; phase = Free; request = Quiet; said = false; brought = record { misses = record { silent = 0; noise = 0; others = 0 }; last = [] } }

abbrev last : Station (Unit {0})
last = record first { left = record first.left { now = [] }; due = 0; brought = brought_after first.brought happened }

-- ---- the line

goes_it : Goes 1 1 (part_of first) happened (part_of last)
goes_it = queue.stands_by tt (queue.starts_it (omega arith) (queue.asks_it (queue.goes_on tt (queue.stands_by tt (queue.asks_it (queue.is_accepted (queue.is_stored (queue.has_no_request (queue.stands_by tt (queue.is_told (1, part.body ∷ [], Some part, refl) queue.stays))))))))))

not_lost : told ≢ is_lost 1
not_lost e = absurd cc

abbrev talk : Talks any_bus 1 (talk_of first) happened (talk_of last)
talk = talking.stands_by (talking.begins (talking.sends_it {next = tt} tt (talking.takes_it {next = tt} tt (talking.hears_it (talking.stands_by (talking.sends_it {next = tt} tt (talking.takes_it {next = tt} tt (talking.hears_it (talking.stands_by (talking.has_none (talking.stands_by (talking.tells_it not_lost talking.rests))))))))))))

counts : Brings 1 first.brought happened last.brought
counts = record { told = (tt, tt); after = refl }

abbrev goes : (k : ℕ) (d : Station (Unit {0})) → k < length (first ∷ []) → LineGoes any_bus 1 (k + 1) (slice_index_or (first ∷ []) k d) (slice_index_or (last ∷ []) k d) (happened_on (k + 1) happened)
goes zero d low = record { queue = goes_it; talk = talk; brought = counts }
goes (suc k) d low = absurd (omega (arith, low))

-- what happens on a line that is this one, or isn't
abbrev there : Bool → Turn → List Happening
there is turn = if is then does turn ∷ [] else []

abbrev on_it : Bool → List Happening
on_it is =
    does commits_none ∷ (there is starts_it ++ (there is resets_it ++ (there is hears_ack ++ does commits_none ∷ (there is requests_it ++ (there is hears_it ++ does commits_it ∷ (there is asks_none ++ does commits_none ∷ ((if is then tells 1 told ∷ [] else []) ++ [])))))))

alone : (other : ℕ) → ((k : ℕ) → k < length (first ∷ []) → other ≢ k + 1) → All IsCommitTurn (happened_on other happened)
alone other no_line =
    let apart = no_line 0 (omega arith) in
    let elsewhere : (1 == other) ≡ false = grind (arith, nat_tests) in
    subst (λ (is : Bool). All IsCommitTurn (on_it is)) (sym elsewhere)
    (All-cons IsCommitTurn (does commits_none) (does commits_none ∷ does commits_it ∷ does commits_none ∷ []) refl
    (All-cons IsCommitTurn (does commits_none) (does commits_it ∷ does commits_none ∷ []) refl
    (All-cons IsCommitTurn (does commits_it) (does commits_none ∷ []) refl
    (All-cons IsCommitTurn (does commits_none) [] refl (All-nil IsCommitTurn)))))

-- ---- its rounds

abbrev first_round : List Turn
first_round = starts_it ∷ resets_it ∷ hears_ack ∷ commits_none ∷ []

abbrev second_round : List Turn
second_round = requests_it ∷ hears_it ∷ commits_it ∷ []

abbrev third_round : List Turn
third_round = asks_none ∷ commits_none ∷ []

heard_one : (turn : Turn) → IsHearing 0 turn → All (IsHearing 0) (turn ∷ [])
heard_one turn is = All-cons (IsHearing 0) turn [] is (All-nil (IsHearing 0))

asking_one : (turn : Turn) → IsAsking turn → All IsAsking (turn ∷ [])
asking_one turn is = All-cons IsAsking turn [] is (All-nil IsAsking)

is_first : IsRound 0 first_round
is_first = record { asking = starts_it ∷ resets_it ∷ []; hearing = hears_ack ∷ []; last = commits_none ∷ []; waiting = 0; turns_are = refl; are_asking = All-cons IsAsking starts_it (resets_it ∷ []) tt (asking_one resets_it tt); are_heard = record { are_hearing = heard_one hears_ack refl; find_room = (omega arith, refl) }; is_commit = (Ok 0, refl) }

is_second : IsRound 0 second_round
is_second = record { asking = requests_it ∷ []; hearing = hears_it ∷ []; last = commits_it ∷ []; waiting = 1; turns_are = refl; are_asking = asking_one requests_it tt; are_heard = record { are_hearing = heard_one hears_it refl; find_room = (omega arith, refl) }; is_commit = (Ok 1, refl) }

is_third : IsRound 0 third_round
is_third = record { asking = asks_none ∷ []; hearing = []; last = commits_none ∷ []; waiting = 0; turns_are = refl; are_asking = asking_one asks_none tt; are_heard = record { are_hearing = All-nil (IsHearing 0); find_room = refl }; is_commit = (Ok 0, refl) }

in_rounds : InRounds (λ (old : Unit {0}) (moment : ℕ) (new : Unit {0}). Unit {0}) (λ old slept new. Unit {0}) tt turns tt
in_rounds =
    and_round {slept = false} {more = third_round}
    (and_round {slept = false} {more = second_round}
    (and_round {slept = false} {more = first_round} (at_first {turns = commits_none ∷ []} (Ok 0, refl)) refl tt tt is_first) refl tt tt is_second) refl tt tt is_third

-- ---- the poll

abbrev counted : Outcome
counted = record { read = 1; failed = 0; fault = None }

are_true : AreTrue core_0 some_wait happened
are_true = (tt, subst (λ (c : Core). IsNewest (present c) told) (sym leads_is) (refl, refl, refl), tt)

planned : (k : ℕ) (d : Station (Unit {0})) → k < length (first ∷ []) → IsPlanned any_bus.lost house [] (k + 1) (slice_index_or (first ∷ []) k d)
planned zero d low = record { queue = refl; said = refl; fresh = record { first = refl; all = refl; free = refl; quiet = refl } }
planned (suc k) d low = absurd (omega (arith, low))

abbrev plan : AnyPoll counted core_0 happened
plan = record {
  olds = first ∷ [];
  news = last ∷ [];
  between = tt;
  begun = tt;
  planned = record { buses_are = refl; each = planned };
  compares = record { moment = 0; between = tt; reads_time = tt; warns = refl };
  refuses = refl;
  polls = record {
    between = counted;
    polled = record {
      counts = record { read = 1; failed = 0 };
      polls = record { rounds = record { goes = goes; alone = alone }; keeps = in_rounds; stored = refl; events = (tt, tt, (tt, tt, refl)); are_true = are_true; read = refl; failed = refl };
      ended = inr (λ fresh few. (over, silent));
      read = refl;
      failed = refl;
      fault = tt;
    };
    read = refl;
    failed = refl;
    fault = refl;
  };
}
  where
    over : All IsOver (last ∷ [])
    over = All-cons IsOver last [] (refl, refl) (All-nil IsOver)

    silent : All IsSilent (last ∷ [])
    silent = All-cons IsSilent last [] refl (All-nil IsSilent)

abbrev poll : ImageTurned durable_disk (AnyPoll counted) image_0 image_1
poll = record {
  state = house;
  first = machine_0;
  last = machine_1;
  opening = opening;
  happens = record { happened = happened; are_such = plan; went = went };
  disk_is = refl;
}

-- ---- the line carries the talk

acknowledges : heard_in AsSent reset (meter ∷ []) (first_position ∷ []) ≡ acked
unfolding moved_by answer_to
acknowledges = refl

abbrev past_reset : Line
past_reset = bus_after (meter ∷ []) AsSent reset (record (bus_at_first (first_position ∷ [])) { waits = Some reset })

answers : heard_in AsSent request (meter ∷ []) past_reset.positions ≡ sent
unfolding moved_by answer_to
answers = refl

carried : IsCarried (meter ∷ []) (bus_at_first (first_position ∷ [])) talk
carried = record {
  outcome = AsSent;
  frame = reset;
  waited = frame_of-spelling reset;
  bytes_are = inl (sym acknowledges);
  few = omega arith;
  then_on = record {
    outcome = AsSent;
    frame = request;
    waited = frame_of-spelling request;
    bytes_are = inl (sym answers);
    few = omega arith;
    then_on = tt;
  };
}

in_order : (k : ℕ) (d : Station (Unit {0})) (low : k < length (first ∷ [])) → IsInOrder any_bus 1 (k + 1) house wire (slice_index_or (first ∷ []) k d) (slice_index_or (last ∷ []) k d) happened (goes k d low)
in_order zero d low = record { few = omega arith; counted = refl; wired = (wired, tt); carried = carried }
in_order (suc k) d low = absurd (omega (arith, low))

room : HasRoom budget house (λ line. wire) (first ∷ [])
room = record { room = omega arith; serials = omega arith }

backed : NothingIsWanting happened
backed = (tt, (tt, (tt, (tt, (tt, (tt, (tt, (tt, (tt, (tt, tt))))))))))

-- the conclusion of the theorem
each : EachIsRead durable_disk image_0 image_1 any_bus (TakesAll (λ (old : Unit {0}) (event : Told) (new : Unit {0}). Unit {0}) tt tt) house [] (tt ∷ []) (first ∷ []) (last ∷ []) (λ line. wire) counted happened (leads core_0 turns)
each = each_is_read durable_disk any_bus (λ old moment new. Unit {0}) (λ old slept new. Unit {0}) (λ old new. Unit {0}) (λ old event new. Unit {0}) image_0 image_1 (tt ∷ []) [] 1 tt tt tt tt counted (λ line. wire) poll ascends backed room in_order

pub is_met : IsMet
is_met = record {
  identity = one;
  wire = wire;
  outcome = counted;
  disk = image_0;
  new = image_1;
  poll = poll;
  queue = refl;
  single = refl;
  ascends = ascends;
  backed = backed;
  room = room;
  in_order = in_order;
  read = (each.lines 0 first (omega arith)).each.0;
  stored = each.stored tt image_1 (settled_is_image image_1);
}
