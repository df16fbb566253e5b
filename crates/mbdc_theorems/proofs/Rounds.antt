-- What a round makes of a concentrator.
use Rattle.std.proofs.Common.{◌≡◌, ⊎_elim, ℕ, ◌-◌, ◌<◌, Bool, true, false, not, ◌||◌, Option, Some, None, Result, Ok, Err, List, [], ◌∷◌, length, cond, arith, refl, sym, ◌∙◌, ap, subst, get_or-set_same}
use Rattle.std.specs.Prelude.{is_some, nat_le, option_map, if◌then◌else◌, ◌≢◌}
use Rattle.std.proofs.lemmas.Bool.Decides.{nat_tests}
use Rattle.std.proofs.lemmas.List.{length-set, length-map}
use Rattle.dc_linkframe.specs.Frame.{FrameSeen, spelling}
use Rattle.dc_records.specs.Body.{continues}
use Rattle.dc_records.specs.Telegram.{Parsed}
use Rattle.dc_readout.specs.Summary.{Summary, Verdict, again, ready, new, failed, asked_by, verdict_by, begun}
use Rattle.mbdc_change.specs.declared.change.Change.{Change}
use Rattle.mbdc_change.specs.declared.fault.ChangeFault.{ChangeFault}
use Rattle.mbdc_change.specs.Accepts.{refusal}
use Rattle.mbdc_change.specs.History.{after}
use Rattle.dc_core.specs.declared.pending.fault.TakeFault.{TakeFault}
use Rattle.dc_core.specs.declared.pending.fault.TakeFault.TheVariants.{PendingFull as TakePendingFull, Full as TakeFull, PendingFull, Full}
use Rattle.dc_core.specs.Lines.{is_line, line_count, settled_on, unless_of}
use Rattle.dc_core.specs.Taking.{change_of, refuses}
use Rattle.dc_core.specs.Waiting.{most_waiting}
use Rattle.dc_core.specs.declared.line_heard.LineHeard.{LineHeard}
use Rattle.dc_core.specs.declared.line_heard.LineHeard.TheVariants.{Again, Ready, Accepted, Failed}
use Rattle.dc_core.specs.declared.fault.HearFault.{HearFault}
use Rattle.dc_core.specs.declared.fault.HearFault.TheVariants.{NoLine, Idle, NoMemory, Stopped}
use Rattle.dc_core.specs.Core.{Core, present, session_of, opened}
use Rattle.dc_core.specs.Step.{ask_answer, asked_on, hear_answer, answer_on, verdict_answer, unless_refused, MayHear, session_after, judged, heard_on, after_hear, settled_core, and_pending, next, address_in, after_start, settled, removed_by, lines_after, ordered, after_commit, after_reply}
use Rattle.dc_core.proofs.Followed.{get_settled}
use Rattle.dc_core.proofs.Refused.{answer_is}
use Rattle.dc_address.specs.declared.identity.Identity.{Identity}
use Rattle.mbdc_change.specs.State.{row_of}
use Rattle.dc_core.specs.declared.fault.StartFault.{StartFault}
use Rattle.dc_core.specs.declared.fault.CommitFault.{CommitFault}
use Rattle.dc_core.specs.declared.fault.CommitFault.TheVariants.{Device, Worn, Stopped as CommitStopped}
use Rattle.dc_core.specs.Event.{Event, Answer, starts, hears, commits, offices, started, heard, committed, replied, Reply, unread, unstored, obeyed, uncommitted}
use Rattle.dc_core.specs.Transcript.{Turn, leads}
use Rattle.mbdc_theorems.specs.Beside.{IsTakenUnlessFull}
use Rattle.mbdc_theorems.specs.Readout.{LinesAreKept}

-- ---- a commit

-- the pending changes are committed, and this session is on the line
pub record Settled (old : Core) (line : ℕ) (session : Option Summary) (now : Core) : Type 0 where
  pub on : session_of now line ≡ session
  pub register : now.committed ≡ present old
  pub none_waits : now.pending ≡ []

settles : (core : Core) (line : ℕ) (pending : List Change) (session later : Option Summary) → core.pending ≡ pending → session_of core line ≡ session → (pending ≡ [] → session ≡ later) → settled_on session ≡ later
    → Settled core line later (settled_core core pending)
settles core line [] session later waits on none goes = record {
  on = on ∙ none refl;
  register = sym (ap (after core.committed) waits);
  none_waits = waits;
}
settles core line (change ∷ changes) session later waits on none goes = record {
  on = get_settled core.lines (line - 1) ∙ ap settled_on on ∙ goes;
  register = refl;
  none_waits = refl;
}

-- an answer that isn't the end of the session
abbrev pub GoesOn : LineHeard → Type 0
GoesOn Again = Unit {0}
GoesOn Ready = Unit {0}
GoesOn (Accepted part more) = Unit {0}
GoesOn (Failed why) = ⊥

-- a telegram is refused for want of room alone
pub room_alone : (few is : Bool) (part : ℕ) (more : Bool) → IsTakenUnlessFull (unless_refused (if few then Some TakePendingFull else if is then Some TakeFull else None) (Accepted part more))
room_alone true is part more = tt
room_alone false true part more = tt
room_alone false false part more = tt

pub record Told (answer : Result LineHeard HearFault) : Type 0 where
  pub good : LineHeard
  pub is : answer ≡ Ok good
  pub goes_on : GoesOn good

-- nobody on the line asks for nothing
nothing_when : (b : Bool) (o : Option (List ℕ)) → o ≡ None → cond b None o ≡ None
nothing_when true o none = refl
nothing_when false o none = none

pub asks_nothing : (core : Core) (line : ℕ) → session_of core line ≡ None → ask_answer core line ≡ None
asks_nothing core line free = nothing_when (not (is_line line) || core.stopped) (asked_on (session_of core line)) (ap asked_on free)

-- where memory isn't refused, the answer is the one of the state
pub right_answer : (right answer : Result LineHeard HearFault) → MayHear right answer → answer ≢ Err NoMemory → answer ≡ right
right_answer right answer may memory = ⊎_elim (λ e. e) (λ none. absurd (memory none.0)) may

-- out of memory is never the answer of the state
refused_otherwise : (few is : Bool) (good : LineHeard) → unless_refused (if few then Some TakePendingFull else if is then Some TakeFull else None) good ≡ Err NoMemory → ⊥
refused_otherwise true is good e = cc
refused_otherwise false true good e = cc
refused_otherwise false false good e = cc

judged_otherwise : (budget : ℕ) (core : Core) (moment : ℕ) (v : Verdict) → verdict_answer budget core moment v ≡ Err NoMemory → ⊥
judged_otherwise budget core moment again e = cc
judged_otherwise budget core moment ready e = cc
judged_otherwise budget core moment (new part t) e =
    refused_otherwise (nat_le most_waiting (length core.pending)) (is_some (refusal budget (change_of moment part t) (present core))) (Accepted part (continues t.ending)) e
judged_otherwise budget core moment (failed why) e = cc

waits_otherwise : (b : Bool) (answer : Result LineHeard HearFault) → (answer ≡ Err NoMemory → ⊥) → cond b answer (Err Idle) ≡ Err NoMemory → ⊥
waits_otherwise true answer never e = never e
waits_otherwise false answer never e = cc

on_otherwise : (budget : ℕ) (core : Core) (moment : ℕ) (bytes : List ℕ) (session : Option Summary) → answer_on budget core moment bytes session ≡ Err NoMemory → ⊥
on_otherwise budget core moment bytes None e = cc
on_otherwise budget core moment bytes (Some s) e =
    waits_otherwise (is_some (asked_by s)) (verdict_answer budget core moment (verdict_by s bytes)) (judged_otherwise budget core moment (verdict_by s bytes)) e

starts_otherwise : (a b : Bool) (answer : Result LineHeard HearFault) → (answer ≡ Err NoMemory → ⊥) → (if not a then Err NoLine else if b then Err Stopped else answer) ≡ Err NoMemory → ⊥
starts_otherwise false b answer never e = cc
starts_otherwise true true answer never e = cc
starts_otherwise true false answer never e = never e

pub never_memory : (budget : ℕ) (core : Core) (line moment : ℕ) (bytes : List ℕ) → hear_answer budget core line moment bytes ≡ Err NoMemory → ⊥
never_memory budget core line moment bytes e =
    starts_otherwise (is_line line) core.stopped (answer_on budget core moment bytes (session_of core line)) (on_otherwise budget core moment bytes (session_of core line)) e

-- a failure of hearing stops nothing
pub still_running : (core : Core) (line moment : ℕ) (bytes : List ℕ) (answer : Result LineHeard HearFault) → (after_hear core line moment bytes answer).stopped ≡ core.stopped
still_running core line moment bytes (Err fault) = refl
still_running core line moment bytes (Ok answer) = go (session_of core line)
  where
    go : (session : Option Summary) → (heard_on core line moment bytes session).stopped ≡ core.stopped
    go None = refl
    go (Some s) = refl

module _ (budget line : ℕ) (core : Core) (s : Summary) (is : is_line line ≡ true) (runs : core.stopped ≡ false) (on : session_of core line ≡ Some s) where
  pub asked_is : ask_answer core line ≡ option_map spelling (asked_by s)
  asked_is = rw (is, runs, on) refl

  -- the answer by the verdict
  pub hear_is : (moment : ℕ) (bytes : List ℕ) (frame : FrameSeen) → asked_by s ≡ Some frame → hear_answer budget core line moment bytes ≡ verdict_answer budget core moment (verdict_by s bytes)
  hear_is moment bytes frame asks =
      let some : is_some (asked_by s) ≡ true = ap is_some asks in
      rw (is, runs, on, some) refl

  not_refused : (change : Change) → core.pending ≡ [] → refusal budget change (present core) ≡ None → refuses budget (length core.pending) change (present core) ≡ None
  not_refused change none unrefused =
      ap (λ (count : ℕ). refuses budget count change (present core)) (ap length none)
      ∙ ap (λ (o : Option ChangeFault). if is_some o then Some TakeFull else None) unrefused

  pub hears_new : (moment : ℕ) (bytes : List ℕ) (frame : FrameSeen) (part : ℕ) (t : Parsed) → asked_by s ≡ Some frame → verdict_by s bytes ≡ new part t → core.pending ≡ []
      → refusal budget (change_of moment part t) (present core) ≡ None → hear_answer budget core line moment bytes ≡ Ok (Accepted part (continues t.ending))
  hears_new moment bytes frame part t asks verdict none unrefused =
      let some : is_some (asked_by s) ≡ true = ap is_some asks in
      answer_is budget core line moment bytes s part t is runs on some verdict
      ∙ ap (λ (o : Option TakeFault). unless_refused o (Accepted part (continues t.ending))) (not_refused (change_of moment part t) none unrefused)

  low : length core.lines ≡ line_count → line - 1 < length core.lines
  low eight =
      let below : line - 1 < 8 = grind (arith, nat_tests) in
      omega (arith, eight, below)

  -- the answer is received, and the pending changes are committed
  abbrev pub behind : ℕ → List ℕ → Result LineHeard HearFault → Core
  behind moment bytes answer = settled_core (after_hear core line moment bytes answer) (after_hear core line moment bytes answer).pending

  pub settled_behind : (moment : ℕ) (bytes : List ℕ) (answer : Result LineHeard HearFault) (good : LineHeard) (v : Verdict) (later : Option Summary) → answer ≡ Ok good → verdict_by s bytes ≡ v → length core.lines ≡ line_count
      → ((judged core line moment s v).pending ≡ [] → session_after s v ≡ later) → settled_on (session_after s v) ≡ later
      → Settled (judged core line moment s v) line later (behind moment bytes answer)
  settled_behind moment bytes answer good v later told verdict eight none goes =
      let one : Core = judged core line moment s v in
      let heard : after_hear core line moment bytes answer ≡ one =
      ap (after_hear core line moment bytes) told ∙ ap (heard_on core line moment bytes) on ∙ ap (judged core line moment s) verdict in
      let there : session_of one line ≡ session_after s v = get_or-set_same core.lines (line - 1) (session_after s v) None (low eight) in
      subst (λ (c : Core). Settled one line later (settled_core c c.pending)) (sym heard) (settles one line one.pending (session_after s v) later refl there none goes)

-- An answer without a telegram leaves the pending changes.

abbrev pub IsCommand : LineHeard → Type 0
IsCommand Again = Unit {0}
IsCommand Ready = Unit {0}
IsCommand (Accepted part more) = ⊥
IsCommand (Failed why) = ⊥

no_command : (few is : Bool) (part : ℕ) (more : Bool) (good : LineHeard) → unless_refused (if few then Some PendingFull else if is then Some Full else None) (Accepted part more) ≡ Ok good → IsCommand good → ⊥
no_command true is part more good e command = absurd cc
no_command false true part more good e command = absurd cc
no_command false false part more good e command =
    let same : Accepted part more ≡ good = cc in
    subst IsCommand (sym same) command

module _ (budget : ℕ) (core : Core) (moment : ℕ) (bytes : List ℕ) (good : LineHeard) (command : IsCommand good) where
  by_verdict : (v : Verdict) → verdict_answer budget core moment v ≡ Ok good → and_pending moment core.pending v ≡ core.pending
  by_verdict again e = refl
  by_verdict ready e = refl
  by_verdict (new part t) e =
      absurd (no_command (nat_le most_waiting (length core.pending)) (is_some (refusal budget (change_of moment part t) (present core))) part (continues t.ending) good e command)
  by_verdict (failed why) e = refl

  when_asked : (b : Bool) (answer : Result LineHeard HearFault) → cond b answer (Err Idle) ≡ Ok good → answer ≡ Ok good
  when_asked true answer e = e
  when_asked false answer e = absurd cc

  by_session : (line : ℕ) (session : Option Summary) → answer_on budget core moment bytes session ≡ Ok good → (heard_on core line moment bytes session).pending ≡ core.pending
  by_session line None e = refl
  by_session line (Some s) e = by_verdict (verdict_by s bytes) (when_asked (is_some (asked_by s)) (verdict_answer budget core moment (verdict_by s bytes)) e)

  when_running : (a b : Bool) (answer : Result LineHeard HearFault) → (if not a then Err NoLine else if b then Err Stopped else answer) ≡ Ok good → answer ≡ Ok good
  when_running false b answer e = absurd cc
  when_running true true answer e = absurd cc
  when_running true false answer e = e

  pub quiet_heard : (line : ℕ) → hear_answer budget core line moment bytes ≡ Ok good → (after_hear core line moment bytes (Ok good)).pending ≡ core.pending
  quiet_heard line e = by_session line (session_of core line) (when_running (is_line line) core.stopped (answer_on budget core moment bytes (session_of core line)) e)

-- A concentrator keeps its lines.

abbrev Keeps : Core → Core → Type 0
Keeps old now = length now.lines ≡ length old.lines

start_keeps : (core : Core) (line : ℕ) (meter : Identity) (answer : Result (Unit {0}) StartFault) → Keeps core (after_start core line meter answer)
start_keeps core line meter (Ok done) = length-set core.lines (line - 1) (Some (begun meter (address_in (row_of meter (present core)))))
start_keeps core line meter (Err fault) = refl

hear_keeps : (core : Core) (line moment : ℕ) (bytes : List ℕ) (answer : Result LineHeard HearFault) → Keeps core (after_hear core line moment bytes answer)
hear_keeps core line moment bytes (Err fault) = refl
hear_keeps core line moment bytes (Ok answer) = go (session_of core line)
  where
    go : (session : Option Summary) → Keeps core (heard_on core line moment bytes session)
    go None = refl
    go (Some s) = length-set core.lines (line - 1) (session_after s (verdict_by s bytes))

settled_keeps : (core : Core) (pending : List Change) → Keeps core (settled_core core pending)
settled_keeps core [] = refl
settled_keeps core (change ∷ changes) = length-map core.lines settled_on

failed_keeps : (core : Core) (fault : CommitFault) → Keeps core (after_commit core (Err fault))
failed_keeps core Device = refl
failed_keeps core Worn = refl
failed_keeps core CommitStopped = refl

commit_keeps : (core : Core) (answer : Result ℕ CommitFault) → Keeps core (after_commit core answer)
commit_keeps core (Ok count) = settled_keeps core core.pending
commit_keeps core (Err fault) = failed_keeps core fault

removed_keeps : (removed : Option Identity) (lines : List (Option Summary)) → length (lines_after removed lines) ≡ length lines
removed_keeps None lines = refl
removed_keeps (Some meter) lines = length-map lines (unless_of meter)

ordered_keeps : (core : Core) (change : Change) → Keeps core (ordered change (settled core))
ordered_keeps core change = removed_keeps (removed_by change) (settled core).lines ∙ settled_keeps core core.pending

reply_keeps : (core : Core) (reply : Reply) → Keeps core (after_reply core reply)
reply_keeps core unread = refl
reply_keeps core (unstored fault) = failed_keeps core fault
reply_keeps core (obeyed number change) = settled_keeps (ordered change (settled core)) (change ∷ []) ∙ ordered_keeps core change
reply_keeps core (uncommitted change fault) = failed_keeps (ordered change (settled core)) fault ∙ ordered_keeps core change
reply_keeps core reply = settled_keeps core core.pending

turn_keeps : (core : Core) (event : Event) (answer : Answer) → Keeps core (next core event answer)
turn_keeps core (starts line meter) (started answer) = start_keeps core line meter answer
turn_keeps core (hears line moment bytes) (heard answer) = hear_keeps core line moment bytes answer
turn_keeps core commits (committed answer) = commit_keeps core answer
turn_keeps core (offices text) (replied reply) = reply_keeps core reply
turn_keeps core event answer = refl

turns_keep : (core : Core) (turns : List Turn) → Keeps core (leads core turns)
turns_keep core [] = refl
turns_keep core (t ∷ turns) = turns_keep (next core t.0 t.1) turns ∙ turn_keeps core t.0 t.1

pub lines_are_kept : LinesAreKept
lines_are_kept budget state turns chain = turns_keep (opened state) turns
