-- Each answer of a poll finds room among the pending changes (for the law of specs/PendingRoom).
use Rattle.std.proofs.Common.{◌≡◌, inl, inr, ℕ, ◌+◌, ◌<◌, ◌≤◌, Bool, true, false, not, Option, Some, None, Result, Ok, Err, List, [], ◌∷◌, ◌++◌, length, arith, refl, sym, ◌∙◌, ap, subst, length-append}
use Rattle.std.specs.Prelude.{is_some, nat_le, if◌then◌else◌}
use Rattle.std.specs.List.{All}
use Rattle.std.proofs.lemmas.Bool.{lt-leb}
use Rattle.std.proofs.lemmas.List.Elements.{All-head, All-tail}
use Rattle.mbdc_change.specs.Accepts.{refusal}
use Rattle.mbdc_change.specs.declared.change.Change.{Change}
use Rattle.dc_records.specs.Body.{continues}
use Rattle.dc_readout.specs.Summary.{Summary, Verdict, again, ready, new, failed, asked_by, verdict_by}
use Rattle.dc_core.specs.declared.pending.fault.TakeFault.TheVariants.{PendingFull as TakePendingFull, Full as TakeFull}
use Rattle.dc_core.specs.Lines.{is_line}
use Rattle.dc_core.specs.Taking.{change_of}
use Rattle.dc_core.specs.Waiting.{most_waiting}
use Rattle.dc_core.specs.Core.{Core, present, session_of}
use Rattle.dc_core.specs.Event.{Event, Answer, starts, asks, hears, commits, offices, started, asked, heard, committed, replied}
use Rattle.dc_core.specs.Step.{May, MayHear, next, unless_refused, verdict_answer, answer_on, hear_answer, and_pending, heard_on}
use Rattle.dc_core.specs.Transcript.{Turn, leads, IsChain}
use Rattle.dc_core.specs.declared.fault.HearFault.{HearFault}
use Rattle.dc_core.specs.declared.fault.HearFault.TheVariants.{NoLine, Idle, PendingFull, Stopped}
use Rattle.dc_core.specs.declared.line_heard.LineHeard.{LineHeard}
use Rattle.dc_core.specs.declared.line_heard.LineHeard.TheVariants.{Again, Ready, Accepted, Failed}
use Rattle.dc_core.proofs.Told.{chain_parts}
use Rattle.mbdc_poll.specs.Keeping.{AllFindRoom, FindsRoom, InRounds, IsAsking, IsAskingBy, IsCommit, IsHearing, IsHearingBy, IsRound, and_round, at_first, most_pending, waiting_after}
use Rattle.mbdc_poll.specs.PendingRoom.{AnswersFindRoom}
use Rattle.mbdc_poll.proofs.Meanings.{none_pends, same_waits, settled_none}

-- ---- no more is pending than was counted

judged_most : (moment : ℕ) (pending : List Change) (v : Verdict) → length (and_pending moment pending v) ≤ length pending + 1
judged_most moment pending again = omega arith
judged_most moment pending ready = omega arith
judged_most moment pending (new part t) = omega (arith, length-append pending (change_of moment part t ∷ []))
judged_most moment pending (failed why) = omega arith

heard_most : (core : Core) (line moment : ℕ) (bytes : List ℕ) (session : Option Summary) → length (heard_on core line moment bytes session).pending ≤ length core.pending + 1
heard_most core line moment bytes None = omega arith
heard_most core line moment bytes (Some s) = judged_most moment core.pending (verdict_by s bytes)

same_most : (old now : List Change) (waiting : ℕ) → now ≡ old → length old ≤ waiting → length now ≤ waiting
same_most old now waiting same most = subst (λ (changes : List Change). length changes ≤ waiting) (sym same) most

hearing_most : (budget moment : ℕ) (core : Core) (event : Event) (answer : Answer) (waiting : ℕ) → IsHearingBy moment event answer → May budget core event answer → length core.pending ≤ waiting → length (next core event answer).pending ≤ waiting_after waiting answer
hearing_most budget moment core (hears line at bytes) (heard (Ok Again)) waiting is may most = same_most core.pending _ waiting (same_waits budget core line at bytes Again may refl) most
hearing_most budget moment core (hears line at bytes) (heard (Ok Ready)) waiting is may most = same_most core.pending _ waiting (same_waits budget core line at bytes Ready may refl) most
hearing_most budget moment core (hears line at bytes) (heard (Ok (Accepted number more))) waiting is may most = omega (arith, heard_most core line at bytes (session_of core line), most)
hearing_most budget moment core (hears line at bytes) (heard (Ok (Failed why))) waiting is may most = same_most core.pending _ waiting (same_waits budget core line at bytes (Failed why) may refl) most
hearing_most budget moment core (hears line at bytes) (heard (Err fault)) waiting is may most = most
hearing_most budget moment core (hears line at bytes) (started answer) waiting is may most = absurd is
hearing_most budget moment core (hears line at bytes) (asked answer) waiting is may most = absurd is
hearing_most budget moment core (hears line at bytes) (committed answer) waiting is may most = absurd is
hearing_most budget moment core (hears line at bytes) (replied reply) waiting is may most = absurd is
hearing_most budget moment core commits (committed (Ok count)) waiting is may most = omega (arith, ap length (settled_none core core.pending refl))
hearing_most budget moment core commits (committed (Err fault)) waiting is may most = absurd is
hearing_most budget moment core commits (started answer) waiting is may most = absurd is
hearing_most budget moment core commits (asked answer) waiting is may most = absurd is
hearing_most budget moment core commits (heard answer) waiting is may most = absurd is
hearing_most budget moment core commits (replied reply) waiting is may most = absurd is
hearing_most budget moment core (starts line meter) answer waiting is may most = absurd is
hearing_most budget moment core (asks line) answer waiting is may most = absurd is
hearing_most budget moment core (offices text) answer waiting is may most = absurd is

asking_same : (core : Core) (event : Event) (answer : Answer) → IsAskingBy event answer → (next core event answer).pending ≡ core.pending
asking_same core (starts line meter) (started (Ok done)) is = refl
asking_same core (starts line meter) (started (Err fault)) is = refl
asking_same core (starts line meter) (asked answer) is = absurd is
asking_same core (starts line meter) (heard answer) is = absurd is
asking_same core (starts line meter) (committed answer) is = absurd is
asking_same core (starts line meter) (replied reply) is = absurd is
asking_same core (asks line) (asked request) is = refl
asking_same core (asks line) (started answer) is = absurd is
asking_same core (asks line) (heard answer) is = absurd is
asking_same core (asks line) (committed answer) is = absurd is
asking_same core (asks line) (replied reply) is = absurd is
asking_same core (hears line moment bytes) answer is = absurd is
asking_same core commits answer is = absurd is
asking_same core (offices text) answer is = absurd is

-- ---- each answer is received with few pending

abbrev FewAt : Core → Event → Type 0
FewAt core (hears line moment bytes) = length core.pending < most_pending
FewAt core event = Unit {0}

abbrev FewIn : Core → List Turn → Type 0
FewIn core [] = Unit {0}
FewIn core (turn ∷ turns) = FewAt core turn.0 × FewIn (next core turn.0 turn.1) turns

few_both : (core : Core) (turns more : List Turn) → FewIn core turns → FewIn (leads core turns) more → FewIn core (turns ++ more)
few_both core [] more a b = b
few_both core (turn ∷ turns) more a b = (a.0, few_both (next core turn.0 turn.1) turns more a.1 b)

few_by : (core : Core) (event : Event) (waiting : ℕ) → length core.pending ≤ waiting → FindsRoom waiting event → FewAt core event
few_by core (hears line moment bytes) waiting most finds = omega (arith, most, finds)
few_by core (starts line meter) waiting most finds = tt
few_by core (asks line) waiting most finds = tt
few_by core commits waiting most finds = tt
few_by core (offices text) waiting most finds = tt

few_hearing : (budget moment : ℕ) (core : Core) (turns : List Turn) (waiting last : ℕ) → IsChain budget core turns → length core.pending ≤ waiting → All (IsHearing moment) turns → AllFindRoom waiting turns last → FewIn core turns
few_hearing budget moment core [] waiting last chain most all find = tt
few_hearing budget moment core (turn ∷ turns) waiting last chain most all find = (
  few_by core turn.0 waiting most find.0,
  few_hearing budget moment (next core turn.0 turn.1) turns (waiting_after waiting turn.1) last chain.1
      (hearing_most budget moment core turn.0 turn.1 waiting (All-head (IsHearing moment) turn turns all) chain.0 most) (All-tail (IsHearing moment) turn turns all) find.1,
)

few_asked : (core : Core) (event : Event) (answer : Answer) → IsAskingBy event answer → FewAt core event
few_asked core (starts line meter) answer is = tt
few_asked core (asks line) answer is = tt
few_asked core (hears line moment bytes) answer is = absurd is
few_asked core commits answer is = tt
few_asked core (offices text) answer is = tt

few_asking : (core : Core) (turns : List Turn) → core.pending ≡ [] → All IsAsking turns → FewIn core turns × ((leads core turns).pending ≡ [])
few_asking core [] none all = (tt, none)
few_asking core (turn ∷ turns) none all =
    let is = All-head IsAsking turn turns all in
    let rest = few_asking (next core turn.0 turn.1) turns (asking_same core turn.0 turn.1 is ∙ none) (All-tail IsAsking turn turns all) in
    ((few_asked core turn.0 turn.1 is, rest.0), rest.1)

few_commit : (core : Core) (turns : List Turn) → IsCommit turns → FewIn core turns
few_commit core turns is = subst (FewIn core) (sym is.1) (tt, tt)

few_round : (budget moment : ℕ) (core : Core) (turns : List Turn) → core.pending ≡ [] → IsChain budget core turns → IsRound moment turns → FewIn core turns
few_round budget moment core turns none chain one =
    let first = few_asking core one.asking none one.are_asking in
    let behind : Core = leads core one.asking in
    let rest = (chain_parts budget core one.asking (one.hearing ++ one.last) (subst (IsChain budget core) one.turns_are chain)).1 in
    let hearing = (chain_parts budget behind one.hearing one.last rest).0 in
    subst (FewIn core) (sym one.turns_are)
    (few_both core one.asking (one.hearing ++ one.last) first.0
    (few_both behind one.hearing one.last
    (few_hearing budget moment behind one.hearing 0 one.waiting hearing (let empty = ap length first.1 in omega (arith, empty)) one.are_heard.are_hearing one.are_heard.find_room)
    (few_commit (leads behind one.hearing) one.last one.is_commit)))

few_rounds : {T : Type 0} {told : T → ℕ → T → Type 0} {passes : T → Bool → T → Type 0} {first last : T} {turns : List Turn} (budget : ℕ) (core : Core) → core.pending ≡ [] → IsChain budget core turns → InRounds told passes first turns last → FewIn core turns
few_rounds budget core none chain (at_first {turns = turns} one) = few_commit core turns one
few_rounds budget core none chain (and_round {moment = moment} {turns = turns} {more = more} a kept waits moment_is one) =
    let cut = chain_parts budget core turns more chain in
    few_both core turns more (few_rounds budget core none cut.0 a) (few_round budget moment (leads core turns) more (none_pends budget core turns none cut.0 kept) cut.1 one)

few_at : (core : Core) (front back : List Turn) (line moment : ℕ) (bytes : List ℕ) (answer : Answer) → FewIn core (front ++ (hears line moment bytes, answer) ∷ back) → length (leads core front).pending < most_pending
few_at core [] back line moment bytes answer few = few.0
few_at core (turn ∷ front) back line moment bytes answer few = few_at (next core turn.0 turn.1) front back line moment bytes answer few.1

-- ---- so none is refused because too many are pending

full_take : (few is : Bool) (accepted : LineHeard) → unless_refused (if few then Some TakePendingFull else if is then Some TakeFull else None) accepted ≡ Err PendingFull → few ≡ true
full_take true is accepted e = refl
full_take false true accepted e = absurd cc
full_take false false accepted e = absurd cc

full_verdict : (budget : ℕ) (core : Core) (moment : ℕ) (v : Verdict) → verdict_answer budget core moment v ≡ Err PendingFull → nat_le most_waiting (length core.pending) ≡ true
full_verdict budget core moment again e = absurd cc
full_verdict budget core moment ready e = absurd cc
full_verdict budget core moment (new part t) e =
    full_take (nat_le most_waiting (length core.pending)) (is_some (refusal budget (change_of moment part t) (present core))) (Accepted part (continues t.ending)) e
full_verdict budget core moment (failed why) e = absurd cc

full_asked : (asks_it : Bool) (budget : ℕ) (core : Core) (moment : ℕ) (v : Verdict) → (if asks_it then verdict_answer budget core moment v else Err Idle) ≡ Err PendingFull → nat_le most_waiting (length core.pending) ≡ true
full_asked true budget core moment v e = full_verdict budget core moment v e
full_asked false budget core moment v e = absurd cc

full_on : (budget : ℕ) (core : Core) (moment : ℕ) (bytes : List ℕ) (session : Option Summary) → answer_on budget core moment bytes session ≡ Err PendingFull → nat_le most_waiting (length core.pending) ≡ true
full_on budget core moment bytes None e = absurd cc
full_on budget core moment bytes (Some s) e = full_asked (is_some (asked_by s)) budget core moment (verdict_by s bytes) e

full_line : (on stopped : Bool) (right : Result LineHeard HearFault) → (if not on then Err NoLine else if stopped then Err Stopped else right) ≡ Err PendingFull → right ≡ Err PendingFull
full_line true false right e = e
full_line true true right e = absurd cc
full_line false stopped right e = absurd cc

full_heard : (right : Result LineHeard HearFault) → MayHear right (Err PendingFull) → right ≡ Err PendingFull
full_heard right (inl is) = sym is
full_heard right (inr none) = absurd (let no = none.0 in cc)

never_full : (budget : ℕ) (core : Core) (line moment : ℕ) (bytes : List ℕ) → length core.pending < most_waiting → MayHear (hear_answer budget core line moment bytes) (Err PendingFull) → ⊥
never_full budget core line moment bytes few may =
    let right = full_line (is_line line) core.stopped (answer_on budget core moment bytes (session_of core line)) (full_heard (hear_answer budget core line moment bytes) may) in
    let most : nat_le most_waiting (length core.pending) ≡ true = full_on budget core moment bytes (session_of core line) right in
    let none : nat_le most_waiting (length core.pending) ≡ false = lt-leb most_waiting (length core.pending) few in
    let both : true ≡ false = sym most ∙ none in
    cc

pub answers_find_room : {T : Type 0} (told : T → ℕ → T → Type 0) (passes : T → Bool → T → Type 0) → AnswersFindRoom told passes
answers_find_room told passes budget core first last front back line moment bytes answer none chain rounds =
    let turn : Turn = (hears line moment bytes, heard answer) in
    let few = few_at core front back line moment bytes (heard answer) (few_rounds budget core none chain rounds) in
    let may = (chain_parts budget core front (turn ∷ back) chain).1.0 in
    (few, λ e. never_full budget (leads core front) line moment bytes few (subst (MayHear (hear_answer budget (leads core front) line moment bytes)) e may))
