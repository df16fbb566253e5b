-- In every chain of steps each session follows the register (the theorem of specs/Known).
use Rattle.std.proofs.Common.{◌≡◌, ◌≢◌, ◌⊎◌, ⊎_elim, inl, inr, ◌<◌, ◌≤◌, ◌+◌, ◌-◌, ℕ, zero, suc, Bool, true, false, not, Option, None, Some, Result, Ok, Err, List, [], ◌∷◌, ◌++◌, length, get_or, refl, ap, sym, subst, arith, ◌∙◌, length-append, get_or-set_other, get_or-set_same}
use Rattle.std.specs.Prelude.{replicate, is_some, nat_le, if◌then◌else◌}
use Rattle.std.proofs.Math.ListN.{set}
use Rattle.std.proofs.lemmas.List.{length-set, length-map}
use Rattle.std.proofs.lemmas.Bool.{cases_eq, eqb-true}
use Rattle.std.proofs.lemmas.Bool.Decides.{nat_tests}
use Rattle.dc_address.specs.declared.identity.Identity.{Identity}
use Rattle.dc_records.specs.Body.{continues}
use Rattle.dc_records.specs.Telegram.{Parsed}
use Rattle.dc_readout.specs.declared.stage.Stage.{Stage}
use Rattle.dc_readout.specs.declared.stage.Stage.TheVariants.{Resets, Selects, Requests, Pending, Ended}
use Rattle.dc_readout.specs.Summary.{Summary, Verdict, again, ready, new, failed, asked_by, verdict_by, heard_by, begun}
use Rattle.mbdc_change.specs.State.{State, MeterRow, PartRow, row_of}
use Rattle.mbdc_change.specs.Body.{body_of}
use Rattle.mbdc_change.specs.Apply.{heard as told_at}
use Rattle.mbdc_change.specs.History.{after}
use Rattle.mbdc_change.proofs.History.{after_of_push}
use Rattle.mbdc_change.specs.Accepts.{Accepts, refusal, continues as is_continued, telegram_stands}
use Rattle.mbdc_change.specs.declared.fault.ChangeFault.TheVariants.{Full as RegisterFull}
use Rattle.mbdc_change.specs.declared.change.Change.{Change}
use Rattle.mbdc_change.specs.Apply.{applied}
use Rattle.dc_core.specs.declared.pending.fault.TakeFault.TheVariants.{PendingFull as TakePendingFull, Full as TakeFull}
use Rattle.dc_core.specs.Lines.{is_line, settled_at, settled_on, settled_lines, unless_of}
use Rattle.dc_core.specs.Taking.{change_of, refuses}
use Rattle.dc_core.specs.Waiting.{most_waiting}
use Rattle.dc_core.specs.declared.fault.StartFault.{StartFault}
use Rattle.dc_core.specs.declared.fault.StartFault.TheVariants.{NoLine as StartNoLine, Unknown, Busy, Stopped as StartStopped}
use Rattle.dc_core.specs.declared.line_heard.LineHeard.{LineHeard}
use Rattle.dc_core.specs.declared.line_heard.LineHeard.TheVariants.{Accepted}
use Rattle.dc_core.specs.declared.fault.HearFault.{HearFault}
use Rattle.dc_core.specs.declared.fault.HearFault.TheVariants.{NoLine, Idle, Full, PendingFull, Stopped}
use Rattle.dc_core.specs.declared.fault.CommitFault.{CommitFault}
use Rattle.dc_core.specs.declared.fault.CommitFault.TheVariants.{Device, Worn, Stopped as CommitStopped}
use Rattle.dc_upload.proofs.Verdicts.{IsOrder, order_of}
use Rattle.dc_core.specs.Core.{Core, present, session_of, with_session, opened}
use Rattle.dc_core.specs.Event.{Event, Answer, starts, asks, hears, commits, offices, started, asked, heard, committed, replied}
use Rattle.dc_core.specs.Event.{Reply, unread, unstored, repeated, refused, shown, out_of_memory, obeyed, uncommitted}
use Rattle.dc_core.specs.Step.{May, next, is_on, address_in, unless_refused, verdict_answer, answer_on, hear_answer, judged, heard_on, settled_core, settled, held, removed_by, lines_after, ordered, after_commit}
use Rattle.dc_core.specs.Transcript.{Turn, leads, IsChain}
use Rattle.dc_core.specs.Known.{IsTelegramFor, NoneIsUnknown}
use Rattle.dc_readout.specs.Taken.{IsTaken}
use Rattle.dc_readout.proofs.Taken.{taken}
use Rattle.dc_core.proofs.Registered.{IsFollowed, FollowsAt, Follows, asks_followed, ready_follows, told_own, told_session}
use Rattle.dc_core.proofs.Ordered.{left_on, get_left, order_follows, accepted_new}

-- WHAT HOLDS ALONG A CHAIN: there are eight lines, at most the maximum number of changes is
-- pending, and each session follows the register. Places in the list of lines count from 0, and bus
-- lines from 1.
record Keeps (core : Core) : Type 0 where
  eight : length core.lines ≡ 8
  few : length core.pending ≤ most_waiting
  each : (place : ℕ) → Follows (place + 1) (get_or core.lines place None) (present core)

abbrev OneTurn : Event → Answer → Type 0
OneTurn event answer = (budget : ℕ) (core : Core) → Keeps core → May budget core event answer → Keeps (next core event answer)

-- ---- a line changes, and the register doesn't

with_line : (core : Core) (line : ℕ) (session : Option Summary) → is_line line ≡ true → Keeps core → Follows line session (present core) → Keeps (with_session line session core)
with_line core line session is keeps follows =
    let eight = keeps.eight in
    let place : line - 1 + 1 ≡ line = grind (arith, nat_tests) in
    let low : line - 1 < 8 = grind (arith, nat_tests) in
    record {
      eight = length-set core.lines (line - 1) session ∙ keeps.eight;
      few = keeps.few;
      each = λ l. ⊎_elim
          (λ (e : l ≡ line - 1).
          let there : get_or (set core.lines (line - 1) session) l None ≡ session =
          ap (λ (k : ℕ). get_or (set core.lines (line - 1) session) k None) e ∙ get_or-set_same core.lines (line - 1) session None (omega (arith, eight, low)) in
          let same : l + 1 ≡ line = omega (arith, e, place) in
          subst (λ (x : Option Summary). Follows (l + 1) x (present core)) (sym there) (subst (λ (n : ℕ). Follows n session (present core)) (sym same) follows))
          (λ (ne : l ≢ line - 1). subst (λ (x : Option Summary). Follows (l + 1) x (present core)) (sym (get_or-set_other core.lines (line - 1) l session None ne)) (keeps.each l))
          (cases_eq l (line - 1));
    }

-- who is on a bus line follows the register there
on_bus : (core : Core) (line : ℕ) → is_line line ≡ true → Keeps core → Follows line (session_of core line) (present core)
on_bus core line is keeps =
    let place : line - 1 + 1 ≡ line = grind (arith, nat_tests) in
    subst (λ (n : ℕ). Follows n (session_of core line) (present core)) place (keeps.each (line - 1))

-- ---- start

registered : (line : ℕ) (meter : Identity) (s : State) (found : Option MeterRow) → row_of meter s ≡ found → is_on line found ≡ true → IsFollowed line meter 0 s
registered line meter s None e on = absurd (cc on)
registered line meter s (Some row) e on = record { row = row; found = e; on_line = eqb-true row.line line on; counted = inl refl }

pub start_split : (a b c d : Bool) (done : Unit {0}) → ◌≡◌ {A = Result (Unit {0}) StartFault} (Ok done) (if not a then Err StartNoLine else if b then Err StartStopped else if not c then Err Unknown else if d then Err Busy else Ok tt) → (a ≡ true) × (c ≡ true)
start_split false b c d done e = absurd (cc e)
start_split true true c d done e = absurd (cc e)
start_split true false false d done e = absurd (cc e)
start_split true false true true done e = absurd (cc e)
start_split true false true false done e = (refl, refl)

turn_start : (line : ℕ) (meter : Identity) (answer : Result (Unit {0}) StartFault) → OneTurn (starts line meter) (started answer)
turn_start line meter (Err fault) budget core keeps may = keeps
turn_start line meter (Ok done) budget core keeps may =
    let row = row_of meter (present core) in
    let ok = start_split (is_line line) core.stopped (is_on line row) (is_some (session_of core line)) done may in
    with_line core line (Some (begun meter (address_in row))) ok.0 keeps (registered line meter (present core) row refl ok.1)

-- ---- hear

-- the answer if none of the first faults applies
pub asks_split : (a b c : Bool) (f g h : HearFault) (wanted rest : Result LineHeard HearFault) → (wanted ≡ Err f → ⊥) → (wanted ≡ Err g → ⊥) → wanted ≡ (if not a then Err f else if b then Err g else rest) → (a ≡ true) × (wanted ≡ rest)
asks_split false b c f g h wanted rest x y e = absurd (x e)
asks_split true true c f g h wanted rest x y e = absurd (y e)
asks_split true false c f g h wanted rest x y e = (refl, e)

asked_split : (c : Bool) (h : HearFault) (wanted rest : Result LineHeard HearFault) → (wanted ≡ Err h → ⊥) → wanted ≡ (if c then rest else Err h) → (c ≡ true) × (wanted ≡ rest)
asked_split true h wanted rest x e = (refl, e)
asked_split false h wanted rest x e = absurd (x e)

-- a telegram that was taken: the register knows it, and there was room for one more
taken_split : (budget count : ℕ) (change : Change) (s : State) (answer accepted : LineHeard) → Ok answer ≡ unless_refused (refuses budget count change s) accepted → (nat_le most_waiting count ≡ false) × (answer ≡ accepted)
taken_split budget count change s answer accepted e = by_tests (nat_le most_waiting count) (is_some (refusal budget change s)) e
  where
    by_tests : (few is : Bool) → Ok answer ≡ unless_refused (if few then Some TakePendingFull else if is then Some TakeFull else None) accepted → (few ≡ false) × (answer ≡ accepted)
    by_tests true is e = absurd (cc e)
    by_tests false true e = absurd (cc e)
    by_tests false false e = (refl, cc e)

-- the session whose telegram was taken
pending_follows : (line : ℕ) (s : Summary) (part moment : ℕ) (t : Parsed) (state : State) (more : Bool) (is : IsFollowed line s.meter s.settled state) → part ≡ s.settled + 1
    → FollowsAt (Pending more) line s.meter s.settled (told_at s.meter more part (record { moment = moment; body = t.body }) (Some is.row) state)
pending_follows line s part moment t state true is at = told_own line s.meter s.settled part (record { moment = moment; body = t.body }) state is at
pending_follows line s part moment t state false is at = tt

with_telegram : (core : Core) (line moment part : ℕ) (t : Parsed) (s : Summary) → is_line line ≡ true → Keeps core → nat_le most_waiting (length core.pending) ≡ false → IsFollowed line s.meter s.settled (present core) → IsTaken s part t
    → Keeps (record (with_session line (Some (heard_by s (new part t))) core) { pending = core.pending ++ change_of moment part t ∷ [] })
with_telegram core line moment part t s is keeps room followed at =
    let state = present core in
    let row = followed.row in
    let more = continues t.ending in
    let piece : PartRow = record { moment = moment; body = t.body } in
    let found : row_of t.header.identity state ≡ Some row = ap (λ (m : Identity). row_of m state) at.own ∙ followed.found in
    let told : after core.committed (core.pending ++ change_of moment part t ∷ []) ≡ told_at s.meter more part piece (Some row) state =
    after_of_push core.committed core.pending (change_of moment part t)
    ∙ ap (λ (o : Option MeterRow). told_at t.header.identity more part piece o state) found
    ∙ ap (λ (m : Identity). told_at m more part piece (Some row) state) at.own in
    let eight = keeps.eight in
    let place : line - 1 + 1 ≡ line = grind (arith, nat_tests) in
    let low : line - 1 < 8 = grind (arith, nat_tests) in
    let less : length core.pending < most_waiting = grind (arith, nat_tests) in
    let session : Option Summary = Some (heard_by s (new part t)) in
    record {
      eight = length-set core.lines (line - 1) session ∙ keeps.eight;
      few = omega (arith, less, length-append core.pending (change_of moment part t ∷ []));
      each = λ l. subst (λ (x : State). Follows (l + 1) (get_or (set core.lines (line - 1) session) l None) x) (sym told) (⊎_elim
          (λ (e : l ≡ line - 1).
          let there : get_or (set core.lines (line - 1) session) l None ≡ session =
          ap (λ (k : ℕ). get_or (set core.lines (line - 1) session) k None) e ∙ get_or-set_same core.lines (line - 1) session None (omega (arith, eight, low)) in
          let same : l + 1 ≡ line = omega (arith, e, place) in
          subst (λ (x : Option Summary). Follows (l + 1) x (told_at s.meter more part piece (Some row) state)) (sym there)
          (subst (λ (n : ℕ). Follows n session (told_at s.meter more part piece (Some row) state)) (sym same) (pending_follows line s part moment t state more followed at.next_part)))
          (λ (ne : l ≢ line - 1).
          subst (λ (x : Option Summary). Follows (l + 1) x (told_at s.meter more part piece (Some row) state)) (sym (get_or-set_other core.lines (line - 1) l session None ne))
          (told_session line (l + 1) s.meter row more part piece state (get_or core.lines l None) followed.found followed.on_line (λ same. ne (omega (arith, same, place))) (keeps.each l)))
          (cases_eq l (line - 1)));
    }

hear_verdict : (budget : ℕ) (core : Core) (line moment : ℕ) (bytes : List ℕ) (answer : LineHeard) (s : Summary) → is_line line ≡ true → Keeps core → Follows line (Some s) (present core) → IsFollowed line s.meter s.settled (present core)
    → (v : Verdict) → verdict_by s bytes ≡ v → Ok answer ≡ verdict_answer budget core moment v → Keeps (judged core line moment s v)
hear_verdict budget core line moment bytes answer s is keeps follows followed again v e = with_line core line (Some (heard_by s again)) is keeps follows
hear_verdict budget core line moment bytes answer s is keeps follows followed ready v e = with_line core line (Some (heard_by s ready)) is keeps (ready_follows s.stage line s.meter s.address s.settled (present core) followed)
hear_verdict budget core line moment bytes answer s is keeps follows followed (failed why) v e = with_line core line None is keeps tt
hear_verdict budget core line moment bytes answer s is keeps follows followed (new part t) v e =
    let ok = taken_split budget (length core.pending) (change_of moment part t) (present core) answer (Accepted part (continues t.ending)) e in
    with_telegram core line moment part t s is keeps ok.0 followed (taken s bytes part t v)

hear_session : (budget : ℕ) (core : Core) (line moment : ℕ) (bytes : List ℕ) (answer : LineHeard) → is_line line ≡ true → Keeps core → (session : Option Summary) → Follows line session (present core)
    → Ok answer ≡ answer_on budget core moment bytes session → Keeps (heard_on core line moment bytes session)
hear_session budget core line moment bytes answer is keeps None follows e = absurd (cc e)
hear_session budget core line moment bytes answer is keeps (Some s) follows e =
    let asks = asked_split (is_some (asked_by s)) Idle (Ok answer) (verdict_answer budget core moment (verdict_by s bytes)) (λ bad. cc bad) e in
    hear_verdict budget core line moment bytes answer s is keeps follows (asks_followed s.stage line s.meter s.address s.settled (present core) asks.0 follows) (verdict_by s bytes) refl asks.1

turn_hear : (line moment : ℕ) (bytes : List ℕ) (answer : Result LineHeard HearFault) → OneTurn (hears line moment bytes) (heard answer)
turn_hear line moment bytes (Err fault) budget core keeps may = keeps
turn_hear line moment bytes (Ok answer) budget core keeps may =
    let right : Ok answer ≡ hear_answer budget core line moment bytes = ⊎_elim (λ e. e) (λ bad. absurd (cc bad.0)) may in
    let on = asks_split (is_line line) core.stopped true NoLine Stopped Idle (Ok answer) (answer_on budget core moment bytes (session_of core line)) (λ bad. cc bad) (λ bad. cc bad) right in
    hear_session budget core line moment bytes answer on.0 keeps (session_of core line) (on_bus core line on.0 keeps) on.1

-- ---- commit

settled_at_follows : (line : ℕ) (state : State) (stage : Stage) (s : Summary) → s.stage ≡ stage → FollowsAt stage line s.meter s.settled state → Follows line (settled_at stage s) state
settled_at_follows line state Resets s e follows = rw e follows
settled_at_follows line state Selects s e follows = rw e follows
settled_at_follows line state Requests s e follows = rw e follows
settled_at_follows line state (Pending true) s e follows = rw e follows
settled_at_follows line state (Pending false) s e follows = tt
settled_at_follows line state Ended s e follows = rw e tt

settled_follows : (line : ℕ) (state : State) (session : Option Summary) → Follows line session state → Follows line (settled_on session) state
settled_follows line state None follows = tt
settled_follows line state (Some s) follows = settled_at_follows line state s.stage s refl follows

pub get_settled : (lines : List (Option Summary)) (place : ℕ) → get_or (settled_lines lines) place None ≡ settled_on (get_or lines place None)
get_settled [] place = refl
get_settled (s ∷ lines) zero = refl
get_settled (s ∷ lines) (suc place) = get_settled lines place

settled_keeps : (core : Core) (pending : List Change) → Keeps core → Keeps (settled_core core pending)
settled_keeps core [] keeps = keeps
settled_keeps core (change ∷ changes) keeps = record {
  eight = length-map core.lines settled_on ∙ keeps.eight;
  few = omega arith;
  each = λ place. subst (λ (x : Option Summary). Follows (place + 1) x (present core)) (sym (get_settled core.lines place)) (settled_follows (place + 1) (present core) (get_or core.lines place None) (keeps.each place));
}

failed_keeps : (core : Core) (fault : CommitFault) → Keeps core → Keeps (after_commit core (Err fault))
failed_keeps core Device keeps = record { eight = keeps.eight; few = keeps.few; each = keeps.each }
failed_keeps core Worn keeps = keeps
failed_keeps core CommitStopped keeps = keeps

turn_commit : (answer : _) → OneTurn commits (committed answer)
turn_commit (Ok count) budget core keeps may = settled_keeps core core.pending keeps
turn_commit (Err fault) budget core keeps may = failed_keeps core fault keeps

-- ---- a line of the office

pub nothing_left : (core : Core) (pending : List Change) → core.pending ≡ pending → (settled_core core pending).pending ≡ []
nothing_left core [] none = none
nothing_left core (change ∷ changes) some = refl

pub length-lines_after : (removed : Option Identity) (lines : List (Option Summary)) → length (lines_after removed lines) ≡ length lines
length-lines_after None lines = refl
length-lines_after (Some meter) lines = length-map lines (unless_of meter)

-- a command is pending when nothing was before
ordered_keeps : (budget : ℕ) (core : Core) (change : Change) → core.pending ≡ [] → IsOrder (held budget core) change → Keeps core → Keeps (ordered change core)
ordered_keeps budget core change none order keeps =
    let removed = removed_by change in
    let number = order.ordered.number in
    let command = order.ordered.command in
    let now : present core ≡ core.committed = ap (after core.committed) none in
    let new = accepted_new budget number command core.committed (subst (λ (c : Change). Accepts budget c core.committed) order.change_is order.accepted) in
    record {
      eight = length-lines_after removed core.lines ∙ keeps.eight;
      few = omega arith;
      each = λ place.
          let was = subst (λ (x : State). Follows (place + 1) (get_or core.lines place None) x) now (keeps.each place) in
          let left = order_follows (place + 1) number command core.committed new (get_or core.lines place None) was in
          subst (λ (x : Option Summary). Follows (place + 1) x (applied change core.committed)) (sym (get_left removed core.lines place))
          (subst (λ (c : Change). Follows (place + 1) (left_on (removed_by c) (get_or core.lines place None)) (applied c core.committed)) (sym order.change_is) left);
    }

turn_office : (text : List ℕ) (reply : Reply) → OneTurn (offices text) (replied reply)
turn_office text unread budget core keeps may = keeps
turn_office text (unstored fault) budget core keeps may = failed_keeps core fault keeps
turn_office text (repeated number) budget core keeps may = settled_keeps core core.pending keeps
turn_office text (refused code) budget core keeps may = settled_keeps core core.pending keeps
turn_office text (shown bytes) budget core keeps may = settled_keeps core core.pending keeps
turn_office text out_of_memory budget core keeps may = settled_keeps core core.pending keeps
turn_office text (obeyed number change) budget core keeps may =
    let order = order_of (held budget (settled core)) may.line change may.answer.0 in
    settled_keeps (ordered change (settled core)) (change ∷ [])
    (ordered_keeps budget (settled core) change (nothing_left core core.pending refl) order (settled_keeps core core.pending keeps))
turn_office text (uncommitted change fault) budget core keeps may =
    let order = order_of (held budget (settled core)) may.line change may.answer.0 in
    failed_keeps (ordered change (settled core)) fault
    (ordered_keeps budget (settled core) change (nothing_left core core.pending refl) order (settled_keeps core core.pending keeps))

-- ---- the chain

turn : (event : Event) (answer : Answer) → OneTurn event answer
turn (starts line meter) (started answer) = turn_start line meter answer
turn (hears line moment bytes) (heard answer) = turn_hear line moment bytes answer
turn commits (committed answer) = turn_commit answer
turn (offices text) (replied reply) = turn_office text reply
turn (asks line) (asked answer) = λ budget core keeps may. keeps
turn (starts line meter) (asked answer) = λ budget core keeps may. absurd may
turn (starts line meter) (heard answer) = λ budget core keeps may. absurd may
turn (starts line meter) (committed answer) = λ budget core keeps may. absurd may
turn (starts line meter) (replied reply) = λ budget core keeps may. absurd may
turn (asks line) (started answer) = λ budget core keeps may. absurd may
turn (asks line) (heard answer) = λ budget core keeps may. absurd may
turn (asks line) (committed answer) = λ budget core keeps may. absurd may
turn (asks line) (replied reply) = λ budget core keeps may. absurd may
turn (hears line moment bytes) (started answer) = λ budget core keeps may. absurd may
turn (hears line moment bytes) (asked answer) = λ budget core keeps may. absurd may
turn (hears line moment bytes) (committed answer) = λ budget core keeps may. absurd may
turn (hears line moment bytes) (replied reply) = λ budget core keeps may. absurd may
turn commits (started answer) = λ budget core keeps may. absurd may
turn commits (asked answer) = λ budget core keeps may. absurd may
turn commits (heard answer) = λ budget core keeps may. absurd may
turn commits (replied reply) = λ budget core keeps may. absurd may
turn (offices text) (started answer) = λ budget core keeps may. absurd may
turn (offices text) (asked answer) = λ budget core keeps may. absurd may
turn (offices text) (heard answer) = λ budget core keeps may. absurd may
turn (offices text) (committed answer) = λ budget core keeps may. absurd may

along : (budget : ℕ) (core : Core) (turns : List Turn) → Keeps core → IsChain budget core turns → Keeps (leads core turns)
along budget core [] keeps chain = keeps
along budget core (t ∷ turns) keeps chain = along budget (next core t.0 t.1) turns (turn t.0 t.1 budget core keeps chain.0) chain.1

pub get_nobody : (n place : ℕ) → ◌≡◌ {A = Option Summary} (get_or (replicate n None) place None) None
get_nobody zero place = refl
get_nobody (suc n) zero = refl
get_nobody (suc n) (suc place) = get_nobody n place

opened_keeps : (state : State) → Keeps (opened state)
opened_keeps state = record {
  eight = refl;
  few = omega arith;
  each = λ place. subst (λ (x : Option Summary). Follows (place + 1) x state) (sym (get_nobody 8 place)) tt;
}

-- ---- what follows of a core

-- a telegram that continues its readout is refused for want of room, or not at all
only_full : (budget part moment : ℕ) (t : Parsed) (state : State) → is_continued part (row_of t.header.identity state) ≡ true
    → (refusal budget (change_of moment part t) state ≡ Some RegisterFull) ⊎ (refusal budget (change_of moment part t) state ≡ None)
only_full budget part moment t state known = by_test (telegram_stands budget part moment (body_of t) state RegisterFull) refl
  where
    by_test : (full : Bool) → telegram_stands budget part moment (body_of t) state RegisterFull ≡ full → (refusal budget (change_of moment part t) state ≡ Some RegisterFull) ⊎ (refusal budget (change_of moment part t) state ≡ None)
    by_test true e = inl (rw (known, e) refl)
    by_test false e = inr (rw (known, e) refl)

is_known : (line : ℕ) (s : Summary) (part : ℕ) (t : Parsed) (state : State) → IsFollowed line s.meter s.settled state → IsTaken s part t → is_continued part (row_of t.header.identity state) ≡ true
is_known line s part t state is at =
    let found : row_of t.header.identity state ≡ Some is.row = ap (λ (m : Identity). row_of m state) at.own ∙ is.found in
    ap (is_continued part) found ∙ by_open is.counted
  where
    by_open : (s.settled ≡ 0) ⊎ (length is.row.parts ≡ s.settled) → is_continued part (Some is.row) ≡ true
    by_open counted = let part_is = at.next_part in grind (arith, nat_tests, counted, part_is)

-- a telegram that was asked for, and that the core refuses with this fault
record IsRefusal (budget : ℕ) (core : Core) (line moment : ℕ) (answer : List ℕ) (fault : HearFault) : Type 0 where
  part : ℕ
  telegram : Parsed
  is_telegram : IsTelegramFor core line answer part telegram
  by_core : ◌≡◌ {A = Result LineHeard HearFault} (Err fault) (unless_refused (refuses budget (length core.pending) (change_of moment part telegram) (present core)) (Accepted part (continues telegram.ending)))

module _ (budget : ℕ) (core : Core) (line moment : ℕ) (answer : List ℕ) (fault : HearFault) (idle : ◌≡◌ {A = Result LineHeard HearFault} (Err fault) (Err Idle) → ⊥) where
  by_verdict : (s : Summary) (v : Verdict) → session_of core line ≡ Some s → is_some (asked_by s) ≡ true → verdict_by s answer ≡ v → Err fault ≡ verdict_answer budget core moment v → IsRefusal budget core line moment answer fault
  by_verdict s again who is_asked v e = absurd (cc e)
  by_verdict s ready who is_asked v e = absurd (cc e)
  by_verdict s (failed why) who is_asked v e = absurd (cc e)
  by_verdict s (new part t) who is_asked v e = record { part = part; telegram = t; is_telegram = record { session = s; on_line = who; is_asked = is_asked; is_new = v }; by_core = e }

  by_session : (session : Option Summary) → session_of core line ≡ session → Err fault ≡ answer_on budget core moment answer session → IsRefusal budget core line moment answer fault
  by_session None who e = absurd (idle e)
  by_session (Some s) who e =
      let asks = asked_split (is_some (asked_by s)) Idle (Err fault) (verdict_answer budget core moment (verdict_by s answer)) idle e in
      by_verdict s (verdict_by s answer) who asks.0 refl asks.1

  refusal_of : (◌≡◌ {A = Result LineHeard HearFault} (Err fault) (Err NoLine) → ⊥) → (◌≡◌ {A = Result LineHeard HearFault} (Err fault) (Err Stopped) → ⊥) → hear_answer budget core line moment answer ≡ Err fault → IsRefusal budget core line moment answer fault
  refusal_of no_line stopped e =
      let on = asks_split (is_line line) core.stopped true NoLine Stopped Idle (Err fault) (answer_on budget core moment answer (session_of core line)) no_line stopped (sym e) in
      by_session (session_of core line) refl on.1

full_split : (few is : Bool) (accepted : LineHeard) → ◌≡◌ {A = Result LineHeard HearFault} (Err Full) (unless_refused (if few then Some TakePendingFull else if is then Some TakeFull else None) accepted) → is ≡ true
full_split true is accepted e = absurd (cc e)
full_split false true accepted e = refl
full_split false false accepted e = absurd (cc e)

pending_split : (few is : Bool) (accepted : LineHeard) → ◌≡◌ {A = Result LineHeard HearFault} (Err PendingFull) (unless_refused (if few then Some TakePendingFull else if is then Some TakeFull else None) accepted) → few ≡ true
pending_split true is accepted e = refl
pending_split false true accepted e = absurd (cc e)
pending_split false false accepted e = absurd (cc e)

followed_by : (core : Core) (line part : ℕ) (answer : List ℕ) (t : Parsed) → Keeps core → IsTelegramFor core line answer part t → is_continued part (row_of t.header.identity (present core)) ≡ true
followed_by core line part answer t keeps is =
    let s = is.session in
    let follows = subst (λ (x : Option Summary). Follows (line - 1 + 1) x (present core)) is.on_line (keeps.each (line - 1)) in
    is_known (line - 1 + 1) s part t (present core) (asks_followed s.stage (line - 1 + 1) s.meter s.address s.settled (present core) is.is_asked follows) (taken s answer part t is.is_new)

pub none_is_unknown : NoneIsUnknown
none_is_unknown budget state turns chain =
    let core = leads (opened state) turns in
    let keeps : Keeps core = along budget (opened state) turns (opened_keeps state) chain in
    let few = keeps.few in
    record {
      known = λ line moment part answer t is bad. ⊎_elim
          (λ full. let same = sym full ∙ bad in cc)
          (λ none. let same = sym none ∙ bad in cc)
          (only_full budget part moment t (present core) (followed_by core line part answer t keeps is));
      few = keeps.few;
      full = λ line moment answer e.
          let r = refusal_of budget core line moment answer Full (λ bad. cc bad) (λ bad. cc bad) (λ bad. cc bad) e in
          let change = change_of moment r.part r.telegram in
          let some = full_split (nat_le most_waiting (length core.pending)) (is_some (refusal budget change (present core))) (Accepted r.part (continues r.telegram.ending)) r.by_core in
          record {
            part = r.part;
            telegram = r.telegram;
            is_telegram = r.is_telegram;
            full = ⊎_elim (λ f. f) (λ n. absurd (let bad = ap is_some n in cc)) (only_full budget r.part moment r.telegram (present core) (followed_by core line r.part answer r.telegram keeps r.is_telegram));
          };
      pending_full = λ line moment answer e.
          let r = refusal_of budget core line moment answer PendingFull (λ bad. cc bad) (λ bad. cc bad) (λ bad. cc bad) e in
          let change = change_of moment r.part r.telegram in
          let yes = pending_split (nat_le most_waiting (length core.pending)) (is_some (refusal budget change (present core))) (Accepted r.part (continues r.telegram.ending)) r.by_core in
          let all : most_waiting ≤ length core.pending = grind (arith, nat_tests) in
          omega (arith, all, few);
    }
