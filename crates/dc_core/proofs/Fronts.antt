-- Of the changes accepted in a chain, what is committed has all that is promised (the theorem of specs/Promised).
use Rattle.std.proofs.Common.{◌≡◌, ◌≢◌, ⊎_elim, ◌<◌, ◌≤◌, ◌+◌, ◌-◌, ℕ, zero, suc, Bool, true, false, Option, None, Some, Result, Ok, Err, List, [], ◌∷◌, ◌++◌, length, take, get_or, refl, ap, sym, subst, arith, ◌∙◌, length-append, append_assoc, get_or-set_other, get_or-set_same}
use Rattle.std.specs.Prelude.{replicate, is_some, option_map, not, ◌||◌, if◌then◌else◌}
use Rattle.std.proofs.Math.ListN.{set}
use Rattle.std.proofs.lemmas.List.{append-nil, length-set, length-map}
use Rattle.std.proofs.lemmas.Bool.{cases_eq}
use Rattle.std.proofs.lemmas.Bool.Decides.{nat_tests}
use Rattle.mbdc_change.specs.State.{State}
use Rattle.mbdc_change.specs.declared.change.Change.{Change}
use Rattle.mbdc_change.specs.History.{after}
use Rattle.mbdc_change.proofs.History.{after_of_append}
use Rattle.dc_address.specs.declared.identity.Identity.{Identity}
use Rattle.dc_readout.specs.Summary.{Summary, Verdict, again, ready, new, failed, asked_by, verdict_by, heard_by, begun}
use Rattle.dc_linkframe.specs.Frame.{FrameSeen, spelling}
use Rattle.dc_records.specs.Body.{continues}
use Rattle.mbdc_change.specs.State.{row_of}
use Rattle.dc_core.specs.declared.fault.StartFault.{StartFault}
use Rattle.dc_core.specs.declared.fault.StartFault.TheVariants.{NoLine as StartNoLine, Unknown, Busy, Stopped as StartStopped}
use Rattle.dc_core.specs.declared.fault.HearFault.TheVariants.{NoLine, Idle, Stopped as HearStopped}
use Rattle.dc_core.specs.declared.line_heard.LineHeard.{LineHeard}
use Rattle.dc_core.specs.declared.line_heard.LineHeard.TheVariants.{Again, Ready, Accepted, Failed}
use Rattle.dc_core.specs.declared.fault.HearFault.{HearFault}
use Rattle.dc_core.specs.declared.fault.CommitFault.{CommitFault}
use Rattle.dc_core.specs.declared.fault.CommitFault.TheVariants.{Device, Worn, Stopped}
use Rattle.dc_core.specs.Lines.{is_line, settled_on, unless_of}
use Rattle.dc_core.specs.Core.{Core, present, session_of, with_session, opened}
use Rattle.dc_core.specs.Event.{Event, Answer, starts, asks, hears, commits, offices, started, asked, heard, committed, replied}
use Rattle.dc_core.specs.Event.{Reply, unread, unstored, repeated, refused, shown, out_of_memory, obeyed, uncommitted}
use Rattle.dc_core.specs.declared.pending.fault.TakeFault.{TakeFault}
use Rattle.dc_core.specs.Taking.{change_of}
use Rattle.dc_core.specs.Step.{May, next, unless_refused, verdict_answer, answer_on, heard_on, hear_answer, asked_on, settled_core, settled, removed_by, lines_after, ordered, after_commit, and_pending, judged, is_on, address_in}
use Rattle.dc_core.specs.Transcript.{Turn, leads, IsChain, accepted_by, accepted_in, taken_from}
use Rattle.dc_core.specs.Promised.{Seen, nothing_seen, and_seen, and_accepted, seen_from, PromisedIsCommitted}

-- whether nothing is requested on a line because its telegram is pending
abbrev waits : Option Summary → Bool
waits None = false
waits (Some s) = not (is_some (asked_by s))

-- WHAT HOLDS ALONG A CHAIN: `done` is committed, what is promised lies in it, and so does what was accepted on each line on which no telegram waits
record Holds (state : State) (taken : List Change) (seen : Seen) (core : Core) : Type 0 where
  done : List Change
  parts : taken ≡ done ++ core.pending
  committed : core.committed ≡ after state done
  counted : seen.accepted ≡ length taken
  eight : length core.lines ≡ 8
  promised : seen.promised ≤ length done
  latest : (line : ℕ) → get_or seen.latest line 0 ≤ seen.accepted
  asked : (line : ℕ) → waits (get_or core.lines line None) ≡ false → get_or seen.latest line 0 ≤ length done

-- one turn
abbrev OneTurn : Event → Answer → Type 0
OneTurn event answer = (budget : ℕ) (state : State) (taken : List Change) (seen : Seen) (core : Core) → Holds state taken seen core → May budget core event answer
    → Holds state (taken ++ accepted_by core event answer) (and_seen event answer seen) (next core event answer)

-- nothing happens
same : (state : State) (taken : List Change) (seen : Seen) (core : Core) → Holds state taken seen core → Holds state (taken ++ []) seen core
same state taken seen core holds = subst (λ (t : List Change). Holds state t seen core) (sym (append-nil taken)) holds

-- another session, or none, is on a line that had no pending telegram
with_line : (state : State) (taken : List Change) (seen : Seen) (core : Core) (line : ℕ) (session : Option Summary) → Holds state taken seen core → waits (session_of core line) ≡ false
    → Holds state taken seen (with_session line session core)
with_line state taken seen core line session holds was = record {
  done = holds.done;
  parts = holds.parts;
  committed = holds.committed;
  counted = holds.counted;
  eight = length-set core.lines (line - 1) session ∙ holds.eight;
  promised = holds.promised;
  latest = holds.latest;
  asked = λ l quiet. ⊎_elim
      (λ (e : l ≡ line - 1). subst (λ (k : ℕ). get_or seen.latest k 0 ≤ length holds.done) (sym e) (holds.asked (line - 1) was))
      (λ (ne : l ≢ line - 1). holds.asked l (subst (λ (x : Option Summary). waits x ≡ false) (get_or-set_other core.lines (line - 1) l session None ne) quiet))
      (cases_eq l (line - 1));
}

set_le : (xs : List ℕ) (i v : ℕ) → get_or (set xs i v) i 0 ≤ v
set_le [] i v = omega arith
set_le (x ∷ xs) zero v = omega arith
set_le (x ∷ xs) (suc i) v = set_le xs i v

-- a telegram is taken, and is pending on its line
with_change : (state : State) (taken : List Change) (seen : Seen) (core : Core) (line : ℕ) (s : Summary) (change : Change) → Holds state taken seen core → line - 1 < 8 → waits (Some s) ≡ true
    → Holds state (taken ++ change ∷ []) (record seen { accepted = seen.accepted + 1; latest = set seen.latest (line - 1) (seen.accepted + 1) }) (record (with_session line (Some s) core) { pending = core.pending ++ change ∷ [] })
with_change state taken seen core line s change holds is waiting =
    let counted = holds.counted in
    record {
      done = holds.done;
      parts = ap (λ (t : List Change). t ++ change ∷ []) holds.parts ∙ append_assoc holds.done core.pending (change ∷ []);
      committed = holds.committed;
      counted = omega (arith, counted, length-append taken (change ∷ []));
      eight = length-set core.lines (line - 1) (Some s) ∙ holds.eight;
      promised = holds.promised;
      latest = λ l. ⊎_elim
          (λ (e : l ≡ line - 1). subst (λ (k : ℕ). get_or (set seen.latest (line - 1) (seen.accepted + 1)) k 0 ≤ seen.accepted + 1) (sym e) (set_le seen.latest (line - 1) (seen.accepted + 1)))
          (λ (ne : l ≢ line - 1). let old = holds.latest l in omega (arith, old, get_or-set_other seen.latest (line - 1) l (seen.accepted + 1) 0 ne))
          (cases_eq l (line - 1));
      asked = λ l quiet. ⊎_elim
          (λ (e : l ≡ line - 1).
          let eight = holds.eight in
          let there : get_or (set core.lines (line - 1) (Some s)) l None ≡ Some s =
          ap (λ (k : ℕ). get_or (set core.lines (line - 1) (Some s)) k None) e ∙ get_or-set_same core.lines (line - 1) (Some s) None (omega (arith, eight, is)) in
          let bad : true ≡ false = sym waiting ∙ ap waits (sym there) ∙ quiet in
          absurd (cc bad))
          (λ (ne : l ≢ line - 1).
          let old = holds.asked l (subst (λ (x : Option Summary). waits x ≡ false) (get_or-set_other core.lines (line - 1) l (Some s) None ne) quiet) in
          omega (arith, old, get_or-set_other seen.latest (line - 1) l (seen.accepted + 1) 0 ne))
          (cases_eq l (line - 1));
    }

start_free : (a b c d : Bool) (done : Unit {0}) → ◌≡◌ {A = Result (Unit {0}) StartFault} (Ok done) (if not a then Err StartNoLine else if b then Err StartStopped else if not c then Err Unknown else if d then Err Busy else Ok tt) → d ≡ false
start_free false b c d done e = absurd (cc e)
start_free true true c d done e = absurd (cc e)
start_free true false false d done e = absurd (cc e)
start_free true false true true done e = absurd (cc e)
start_free true false true false done e = refl

none_quiet : (s : Option Summary) → is_some s ≡ false → waits s ≡ false
none_quiet None e = refl
none_quiet (Some s) e = absurd (cc e)

asked_some : (o : Option FrameSeen) (request : List ℕ) → ◌≡◌ {A = Option (List ℕ)} (Some request) (option_map spelling o) → not (is_some o) ≡ false
asked_some None request e = absurd (cc e)
asked_some (Some frame) request e = refl

ask_quiet : (a b : Bool) (s : Option Summary) (request : List ℕ) → ◌≡◌ {A = Option (List ℕ)} (Some request) (if not a || b then None else asked_on s) → waits s ≡ false
ask_quiet false b s request e = absurd (cc e)
ask_quiet true true s request e = absurd (cc e)
ask_quiet true false None request e = refl
ask_quiet true false (Some s) request e = asked_some (asked_by s) request e

turn_start : (line : ℕ) (meter : _) (answer : Result (Unit {0}) StartFault) → OneTurn (starts line meter) (started answer)
turn_start line meter (Err fault) budget state taken seen core holds may = same state taken seen core holds
turn_start line meter (Ok done) budget state taken seen core holds may =
    let free = start_free (is_line line) core.stopped (is_on line (row_of meter (present core))) (is_some (session_of core line)) done may in
    same state taken seen _ (with_line state taken seen core line (Some (begun meter (address_in (row_of meter (present core))))) holds (none_quiet (session_of core line) free))

turn_ask : (line : ℕ) (answer : Option (List ℕ)) → OneTurn (asks line) (asked answer)
turn_ask line None budget state taken seen core holds may = same state taken seen core holds
turn_ask line (Some request) budget state taken seen core holds may =
    let quiet : waits (session_of core line) ≡ false = ask_quiet (is_line line) core.stopped (session_of core line) request may in
    let here = holds.asked (line - 1) quiet in
    let before = holds.promised in
    same state taken _ core (record {
      done = holds.done;
      parts = holds.parts;
      committed = holds.committed;
      counted = holds.counted;
      eight = holds.eight;
      promised = omega (arith, here, before);
      latest = holds.latest;
      asked = holds.asked;
    })

heard_split : (answer : LineHeard) (x y : Bool) (f h : HearFault) (rest : Result LineHeard HearFault) → Ok answer ≡ (if not x then Err f else if y then Err h else rest) → (x ≡ true) × (Ok answer ≡ rest)
heard_split answer false y f h rest e = absurd (cc e)
heard_split answer true true f h rest e = absurd (cc e)
heard_split answer true false f h rest e = (refl, e)

heard_asked : (answer : LineHeard) (x : Bool) (f : HearFault) (rest : Result LineHeard HearFault) → Ok answer ≡ (if x then rest else Err f) → (x ≡ true) × (Ok answer ≡ rest)
heard_asked answer true f rest e = (refl, e)
heard_asked answer false f rest e = absurd (cc e)

taken_answer : (r : Option TakeFault) (answer accepted : LineHeard) → Ok answer ≡ unless_refused r accepted → answer ≡ accepted
taken_answer None answer accepted e = cc e
taken_answer (Some f) answer accepted e = absurd (cc e)

hear_verdict : (budget : ℕ) (state : State) (taken : List Change) (seen : Seen) (core : Core) (line moment : ℕ) (answer : LineHeard) → Holds state taken seen core → is_line line ≡ true
    → (s : Summary) → waits (session_of core line) ≡ false → (v : Verdict) → Ok answer ≡ verdict_answer budget core moment v
    → Holds state (taken ++ and_pending moment [] v) (and_accepted line answer seen) (judged core line moment s v)
hear_verdict budget state taken seen core line moment answer holds is s quiet again e =
    let a : answer ≡ Again = cc e in
    rw a (same state taken seen _ (with_line state taken seen core line (Some (heard_by s again)) holds quiet))
hear_verdict budget state taken seen core line moment answer holds is s quiet ready e =
    let a : answer ≡ Ready = cc e in
    rw a (same state taken seen _ (with_line state taken seen core line (Some (heard_by s ready)) holds quiet))
hear_verdict budget state taken seen core line moment answer holds is s quiet (failed why) e =
    let a : answer ≡ Failed why = cc e in
    rw a (same state taken seen _ (with_line state taken seen core line None holds quiet))
hear_verdict budget state taken seen core line moment answer holds is s quiet (new part t) e =
    let a : answer ≡ Accepted part (continues t.ending) = taken_answer _ answer _ e in
    let low : line - 1 < 8 = grind (arith, nat_tests) in
    rw a (with_change state taken seen core line (heard_by s (new part t)) (change_of moment part t) holds low refl)

hear_session : (budget : ℕ) (state : State) (taken : List Change) (seen : Seen) (core : Core) (line moment : ℕ) (bytes : List ℕ) (answer : LineHeard) → Holds state taken seen core → is_line line ≡ true
    → (session : Option Summary) → session_of core line ≡ session → Ok answer ≡ answer_on budget core moment bytes session
    → Holds state (taken ++ taken_from moment bytes session) (and_accepted line answer seen) (heard_on core line moment bytes session)
hear_session budget state taken seen core line moment bytes answer holds is None who e = absurd (cc e)
hear_session budget state taken seen core line moment bytes answer holds is (Some s) who e =
    let asks = heard_asked answer (is_some (asked_by s)) Idle (verdict_answer budget core moment (verdict_by s bytes)) e in
    hear_verdict budget state taken seen core line moment answer holds is s (ap waits who ∙ ap not asks.0) (verdict_by s bytes) asks.1

turn_hear : (line moment : ℕ) (bytes : List ℕ) (answer : Result LineHeard HearFault) → OneTurn (hears line moment bytes) (heard answer)
turn_hear line moment bytes (Err fault) budget state taken seen core holds may = same state taken seen core holds
turn_hear line moment bytes (Ok answer) budget state taken seen core holds may =
    let right : Ok answer ≡ hear_answer budget core line moment bytes = ⊎_elim (λ e. e) (λ bad. absurd (cc bad.0)) may in
    let on = heard_split answer (is_line line) core.stopped NoLine HearStopped (answer_on budget core moment bytes (session_of core line)) right in
    hear_session budget state taken seen core line moment bytes answer holds on.0 (session_of core line) refl on.1

-- all that was accepted is committed
and_settled : (state : State) (taken : List Change) (seen : Seen) (core : Core) (pending : List Change) → core.pending ≡ pending → Holds state taken seen core
    → Holds state taken (record seen { promised = seen.accepted }) (settled_core core pending)
and_settled state taken seen core [] none holds =
    let parts = holds.parts ∙ ap (λ (p : List Change). holds.done ++ p) none ∙ append-nil holds.done in
    let counted = holds.counted in
    record {
      done = holds.done;
      parts = holds.parts;
      committed = holds.committed;
      counted = holds.counted;
      eight = holds.eight;
      promised = omega (arith, counted, ap length parts);
      latest = holds.latest;
      asked = holds.asked;
    }
and_settled state taken seen core (change ∷ changes) some holds =
    let counted = holds.counted in
    record {
      done = taken;
      parts = sym (append-nil taken);
      committed = ap (λ (c : State). after c core.pending) holds.committed ∙ sym (after_of_append state holds.done core.pending) ∙ ap (after state) (sym holds.parts);
      counted = holds.counted;
      eight = length-map core.lines settled_on ∙ holds.eight;
      promised = omega (arith, counted);
      latest = holds.latest;
      asked = λ line quiet. let some = holds.latest line in omega (arith, some, counted);
    }

-- a commit that fails
and_failed : (state : State) (taken : List Change) (seen : Seen) (core : Core) (fault : CommitFault) → Holds state taken seen core → Holds state taken seen (after_commit core (Err fault))
and_failed state taken seen core Device holds = record {
  done = holds.done;
  parts = holds.parts;
  committed = holds.committed;
  counted = holds.counted;
  eight = holds.eight;
  promised = holds.promised;
  latest = holds.latest;
  asked = holds.asked;
}
and_failed state taken seen core Worn holds = holds
and_failed state taken seen core Stopped holds = holds

turn_commit : (answer : _) → OneTurn commits (committed answer)
turn_commit (Ok count) budget state taken seen core holds may = same state taken _ _ (and_settled state taken seen core core.pending refl holds)
turn_commit (Err fault) budget state taken seen core holds may = same state taken seen _ (and_failed state taken seen core fault holds)

-- ---- a line of the office

-- Nothing is pending: all that was accepted is committed.
record HoldsAll (state : State) (taken : List Change) (seen : Seen) (core : Core) : Type 0 where
  none : core.pending ≡ []
  committed : core.committed ≡ after state taken
  counted : seen.accepted ≡ length taken
  eight : length core.lines ≡ 8
  promised : seen.promised ≤ length taken
  latest : (line : ℕ) → get_or seen.latest line 0 ≤ seen.accepted

settled_all : (state : State) (taken : List Change) (seen : Seen) (core : Core) (pending : List Change) → core.pending ≡ pending → Holds state taken seen core → HoldsAll state taken seen (settled_core core pending)
settled_all state taken seen core [] none holds =
    let parts = holds.parts ∙ ap (λ (p : List Change). holds.done ++ p) none ∙ append-nil holds.done in
    let least = holds.promised in
    record {
      none = none;
      committed = holds.committed ∙ ap (after state) (sym parts);
      counted = holds.counted;
      eight = holds.eight;
      promised = omega (arith, least, ap length parts);
      latest = holds.latest;
    }
settled_all state taken seen core (change ∷ changes) some holds =
    let least = holds.promised in
    let parts = ap length holds.parts ∙ length-append holds.done core.pending in
    record {
      none = refl;
      committed = ap (λ (c : State). after c core.pending) holds.committed ∙ sym (after_of_append state holds.done core.pending) ∙ ap (after state) (sym holds.parts);
      counted = holds.counted;
      eight = length-map core.lines settled_on ∙ holds.eight;
      promised = omega (arith, least, parts);
      latest = holds.latest;
    }

-- all that was accepted is promised then
and_answered : (state : State) (taken : List Change) (seen : Seen) (core : Core) → HoldsAll state taken seen core → Holds state taken (record seen { promised = seen.accepted }) core
and_answered state taken seen core all =
    let counted = all.counted in
    record {
      done = taken;
      parts = sym (append-nil taken) ∙ ap (λ (p : List Change). taken ++ p) (sym all.none);
      committed = all.committed;
      counted = all.counted;
      eight = all.eight;
      promised = omega (arith, counted);
      latest = all.latest;
      asked = λ line quiet. let some = all.latest line in omega (arith, some, counted);
    }

length-lines_after : (removed : Option Identity) (lines : List (Option Summary)) → length (lines_after removed lines) ≡ length lines
length-lines_after None lines = refl
length-lines_after (Some meter) lines = length-map lines (unless_of meter)

-- a command is pending
and_ordered : (state : State) (taken : List Change) (seen : Seen) (core : Core) (change : Change) → HoldsAll state taken seen core
    → Holds state (taken ++ change ∷ []) (record seen { accepted = seen.accepted + 1 }) (ordered change core)
and_ordered state taken seen core change all =
    let counted = all.counted in
    record {
      done = taken;
      parts = refl;
      committed = all.committed;
      counted = omega (arith, counted, length-append taken (change ∷ []));
      eight = length-lines_after (removed_by change) core.lines ∙ all.eight;
      promised = all.promised;
      latest = λ line. let some = all.latest line in omega (arith, some);
      asked = λ line quiet. let some = all.latest line in omega (arith, some, counted);
    }

turn_office : (text : List ℕ) (reply : Reply) → OneTurn (offices text) (replied reply)
turn_office text unread budget state taken seen core holds may = same state taken seen core holds
turn_office text (unstored fault) budget state taken seen core holds may = same state taken seen _ (and_failed state taken seen core fault holds)
turn_office text (repeated number) budget state taken seen core holds may = same state taken _ _ (and_answered state taken seen (settled core) (settled_all state taken seen core core.pending refl holds))
turn_office text (refused code) budget state taken seen core holds may = same state taken _ _ (and_answered state taken seen (settled core) (settled_all state taken seen core core.pending refl holds))
turn_office text (shown bytes) budget state taken seen core holds may = same state taken _ _ (and_answered state taken seen (settled core) (settled_all state taken seen core core.pending refl holds))
turn_office text out_of_memory budget state taken seen core holds may = same state taken _ _ (and_answered state taken seen (settled core) (settled_all state taken seen core core.pending refl holds))
turn_office text (obeyed number change) budget state taken seen core holds may =
    let waits = and_ordered state taken seen (settled core) change (settled_all state taken seen core core.pending refl holds) in
    and_settled state (taken ++ change ∷ []) (record seen { accepted = seen.accepted + 1 }) (ordered change (settled core)) (change ∷ []) refl waits
turn_office text (uncommitted change fault) budget state taken seen core holds may =
    let waits = and_ordered state taken seen (settled core) change (settled_all state taken seen core core.pending refl holds) in
    and_failed state (taken ++ change ∷ []) (record seen { accepted = seen.accepted + 1 }) (ordered change (settled core)) fault waits

turn : (event : Event) (answer : Answer) → OneTurn event answer
turn (starts line meter) (started answer) = turn_start line meter answer
turn (asks line) (asked answer) = turn_ask line answer
turn (hears line moment bytes) (heard answer) = turn_hear line moment bytes answer
turn commits (committed answer) = turn_commit answer
turn (offices text) (replied reply) = turn_office text reply
turn (starts line meter) (asked answer) = λ budget state taken seen core holds may. absurd may
turn (starts line meter) (heard answer) = λ budget state taken seen core holds may. absurd may
turn (starts line meter) (committed answer) = λ budget state taken seen core holds may. absurd may
turn (starts line meter) (replied reply) = λ budget state taken seen core holds may. absurd may
turn (asks line) (started answer) = λ budget state taken seen core holds may. absurd may
turn (asks line) (heard answer) = λ budget state taken seen core holds may. absurd may
turn (asks line) (committed answer) = λ budget state taken seen core holds may. absurd may
turn (asks line) (replied reply) = λ budget state taken seen core holds may. absurd may
turn (hears line moment bytes) (started answer) = λ budget state taken seen core holds may. absurd may
turn (hears line moment bytes) (asked answer) = λ budget state taken seen core holds may. absurd may
turn (hears line moment bytes) (committed answer) = λ budget state taken seen core holds may. absurd may
turn (hears line moment bytes) (replied reply) = λ budget state taken seen core holds may. absurd may
turn commits (started answer) = λ budget state taken seen core holds may. absurd may
turn commits (asked answer) = λ budget state taken seen core holds may. absurd may
turn commits (heard answer) = λ budget state taken seen core holds may. absurd may
turn commits (replied reply) = λ budget state taken seen core holds may. absurd may
turn (offices text) (started answer) = λ budget state taken seen core holds may. absurd may
turn (offices text) (asked answer) = λ budget state taken seen core holds may. absurd may
turn (offices text) (heard answer) = λ budget state taken seen core holds may. absurd may
turn (offices text) (committed answer) = λ budget state taken seen core holds may. absurd may

-- and so along the chain
along : (budget : ℕ) (state : State) (taken : List Change) (seen : Seen) (core : Core) (turns : List Turn) → Holds state taken seen core → IsChain budget core turns
    → Holds state (taken ++ accepted_in core turns) (seen_from seen turns) (leads core turns)
along budget state taken seen core [] holds chain = same state taken seen core holds
along budget state taken seen core (t ∷ turns) holds chain =
    let one = turn t.0 t.1 budget state taken seen core holds chain.0 in
    let rest = along budget state (taken ++ accepted_by core t.0 t.1) (and_seen t.0 t.1 seen) (next core t.0 t.1) turns one chain.1 in
    subst (λ (x : List Change). Holds state x (seen_from (and_seen t.0 t.1 seen) turns) (leads (next core t.0 t.1) turns)) (append_assoc taken (accepted_by core t.0 t.1) (accepted_in (next core t.0 t.1) turns)) rest

get_zeros : (n line : ℕ) → ◌≡◌ {A = ℕ} (get_or (replicate n 0) line 0) 0
get_zeros zero line = refl
get_zeros (suc n) zero = refl
get_zeros (suc n) (suc line) = get_zeros n line

take_front : {X : Type 0} (xs ys : List X) → take (length xs) (xs ++ ys) ≡ xs
take_front [] ys = refl
take_front (x ∷ xs) ys = ap (λ zs. x ∷ zs) (take_front xs ys)

holds_along : (budget : ℕ) (state : State) (turns : List Turn) → IsChain budget (opened state) turns → Holds state (accepted_in (opened state) turns) (seen_from nothing_seen turns) (leads (opened state) turns)
holds_along budget state turns chain =
    let zeros = get_zeros 8 in
    let begin : Holds state [] nothing_seen (opened state) = record {
      done = [];
      parts = refl;
      committed = refl;
      counted = refl;
      eight = refl;
      promised = omega arith;
      latest = λ line. let z = zeros line in omega (arith, z);
      asked = λ line quiet. let z = zeros line in omega (arith, z);
    } in
    along budget state [] nothing_seen (opened state) turns begin chain

-- each accepted change was seen
pub accepted_counted : (budget : ℕ) (state : State) (turns : List Turn) → IsChain budget (opened state) turns → (seen_from nothing_seen turns).accepted ≡ length (accepted_in (opened state) turns)
accepted_counted budget state turns chain = (holds_along budget state turns chain).counted

-- the latest telegram of each line is one of those accepted
pub latest_within : (budget : ℕ) (state : State) (turns : List Turn) → IsChain budget (opened state) turns → (line : ℕ) → get_or (seen_from nothing_seen turns).latest line 0 ≤ (seen_from nothing_seen turns).accepted
latest_within budget state turns chain = (holds_along budget state turns chain).latest

-- an answer on a line that doesn't exist isn't taken
pub heard_on_line : (budget : ℕ) (core : Core) (line moment : ℕ) (bytes : List ℕ) (answer : LineHeard) → May budget core (hears line moment bytes) (heard (Ok answer)) → is_line line ≡ true
heard_on_line budget core line moment bytes answer may =
    let right : Ok answer ≡ hear_answer budget core line moment bytes = ⊎_elim (λ e. e) (λ bad. absurd (cc bad.0)) may in
    (heard_split answer (is_line line) core.stopped NoLine HearStopped (answer_on budget core moment bytes (session_of core line)) right).0

-- no more is promised than was accepted
pub promised_within : (budget : ℕ) (state : State) (turns : List Turn) → IsChain budget (opened state) turns → (seen_from nothing_seen turns).promised ≤ (seen_from nothing_seen turns).accepted
promised_within budget state turns chain =
    let holds = holds_along budget state turns chain in
    let pending = (leads (opened state) turns).pending in
    omega (arith, holds.promised, holds.counted, ap length holds.parts, length-append holds.done pending)

pub promised_is_committed : PromisedIsCommitted
promised_is_committed budget state turns chain =
    let holds = holds_along budget state turns chain in
    let all = accepted_in (opened state) turns in
    let front : take (length holds.done) all ≡ holds.done = ap (take (length holds.done)) holds.parts ∙ take_front holds.done (leads (opened state) turns).pending in
    let parts = ap length holds.parts ∙ length-append holds.done (leads (opened state) turns).pending in
    record {
      count = length holds.done;
      within = omega (arith, parts);
      promised = holds.promised;
      committed = holds.committed ∙ ap (after state) (sym front);
      pending = holds.parts ∙ ap (λ (d : List Change). d ++ (leads (opened state) turns).pending) (sym front);
    }
