-- What happens on all lines of a poll in which each line goes well (for the theorem of specs/Every).
use Rattle.std.proofs.Common.{◌≡◌, ◌⊎◌, inl, inr, ℕ, ◌+◌, Bool, true, false, Ok, Err, List, [], ◌∷◌, length, map, arith, refl, ◌∙◌, ap, subst, Option, Some, None, ◌++◌, append_assoc, sym, ◌≢◌, cond, ◌&&◌, filter}
use Rattle.std.specs.Prelude.{sum, if◌then◌else◌, ◌==◌}
use Rattle.std.specs.List.{AllByRecursion}
use Rattle.std.proofs.lemmas.Bool.{eq-eqb, eqb-true}
use Rattle.std.proofs.lemmas.List.Sums.{sum_by-cons}
use Rattle.std.proofs.lemmas.List.Elements.{recursion_from_All}
use Rattle.std.specs.List.Sorted.{IsStrictlySortedBy}
use Rattle.std.specs.BTreeMap.{is_at}
use Rattle.std.specs.Map.{keys_of, lookup}
use Rattle.std.specs.Ordering.{is_eq}
use Rattle.std.specs.declared.cmp.Ordering.TheVariants.{Less, Equal}
use Rattle.mbdc_change.specs.declared.change.Change.{Change}
use Rattle.dc_core.specs.Core.{Core}
use Rattle.dc_core.specs.Event.{Event, Answer, starts, asks, hears, commits, offices, started, asked, heard, committed, replied}
use Rattle.dc_core.specs.Step.{May, next, settled_core}
use Rattle.dc_core.specs.Transcript.{Turn, leads, IsChain}
use Rattle.mbdc_poll.specs.Happening.{Happening, does, tells, is_on, kept_on, happened_on, happened_turns, counts_failed, failures_in}
use Rattle.mbdc_poll.specs.declared.event.Event.{Event as Told}
use Rattle.mbdc_poll.specs.declared.event.Event.TheVariants.{Read as was_read, Failed as has_failed, Refused as was_refused, Lost as is_lost, Late as came_late, End as has_ended}
use Rattle.mbdc_poll.specs.Queue.{GoesWell, IsWell, IsWellTold, starts_in}
use Rattle.mbdc_poll.specs.Round.{IsCommitTurn, IsOver, meters_left}
use Rattle.mbdc_poll.specs.declared.station.Station.{Station}
use Rattle.dc_address.specs.declared.identity.Identity.{Identity}
use Rattle.dc_core.specs.declared.fault.CommitFault.{CommitFault}
use Rattle.dc_core.specs.declared.fault.HearFault.TheVariants.{Full, Idle, NoLine, NoMemory, PendingFull, Stopped}
use Rattle.dc_core.specs.declared.line_heard.LineHeard.TheVariants.{Again, Ready, Accepted, Failed}
use Rattle.dc_core.proofs.Told.{chain_parts}
use Rattle.mbdc_poll.specs.Keeping.{InRounds, IsAsking, IsAskingBy, IsCommit, IsHearing, IsHearingBy, IsRound, IsSettled, Store, all_kept, at_first, and_round, behind_answer, some_wait, store_behind, unkept}
use Rattle.mbdc_poll.specs.Polls.{EndsIn}
use Rattle.mbdc_poll.proofs.Finding.{answers_find_room}
use Rattle.mbdc_poll.proofs.Leaving.{settled_at}
use Rattle.mbdc_poll.proofs.Meanings.{none_pends}
use Rattle.dc_address.specs.Identity.{identity_cmp}
use Rattle.dc_address.proofs.Order.{equal_to_itself, same_from_tie}
use Rattle.mbdc_change.specs.State.{State, MeterRow, row_of}
use Rattle.mbdc_poll.specs.Planned.{is_queued, is_wanted, queue_on}
use Rattle.mbdc_theorems.specs.Beside.{IsOfLines}
use Rattle.mbdc_theorems.proofs.Rounds.{still_running}
use Rattle.mbdc_theorems.proofs.Facts.{AreSupplied, IsSupplied, AreOfLines, all_left, all_right, AreRoomy, IsRoomy, IsRoomyIn, IsSuppliedIn, all_as, all_both}
use Rattle.mbdc_theorems.specs.Carried.{IsBacked}
use Rattle.mbdc_theorems.proofs.Rows.{starts_by, starts_on}

-- ---- where each line goes well, all does

-- a line goes well, or there are only commits on it
abbrev pub IsWellOn : ℕ → List Happening → Type 0
IsWellOn line happened = AllByRecursion GoesWell (happened_on line happened) ⊎ AllByRecursion IsCommitTurn (happened_on line happened)

rest_well : (line : ℕ) (h : Happening) (happened : List Happening) → IsWellOn line (h ∷ happened) → IsWellOn line happened
rest_well line h happened (inl well) = inl (all_right GoesWell (kept_on line h) (happened_on line happened) well)
rest_well line h happened (inr none) = inr (all_right IsCommitTurn (kept_on line h) (happened_on line happened) none)

pub first_of : (P : Happening → Type 0) (line : ℕ) (h : Happening) (happened : List Happening) → kept_on line h ≡ h ∷ [] → AllByRecursion P (happened_on line (h ∷ happened)) → P h
first_of P line h happened here all = (subst (AllByRecursion P) here (all_left P (kept_on line h) (happened_on line happened) all)).0

turn_here : (line : ℕ) (turn : Turn) → is_on line turn.0 ≡ true → kept_on line (does turn) ≡ does turn ∷ []
turn_here line turn on = ap (λ (b : Bool). if b then does turn ∷ [] else []) on

pub told_here : (line : ℕ) (told : Told) → kept_on line (tells line told) ≡ tells line told ∷ []
told_here line told = ap (λ (b : Bool). if b then tells line told ∷ [] else []) (eq-eqb line line refl)

first_well : (line : ℕ) (h : Happening) (happened : List Happening) → kept_on line h ≡ h ∷ [] → (IsCommitTurn h → ⊥) → IsWellOn line (h ∷ happened) → GoesWell h
first_well line h happened here not (inl well) = first_of GoesWell line h happened here well
first_well line h happened here not (inr none) = absurd (not (first_of IsCommitTurn line h happened here none))

commit_well : (budget : ℕ) (core : Core) (answer : Answer) → May budget core commits answer → IsSupplied answer → IsWell answer
commit_well budget core (started done) may well = absurd may
commit_well budget core (asked request) may well = absurd may
commit_well budget core (heard answer) may well = absurd may
commit_well budget core (committed (Ok count)) may well = tt
commit_well budget core (committed (Err fault)) may well = absurd well
commit_well budget core (replied reply) may well = absurd may

turn_well : (budget : ℕ) (core : Core) (event : Event) (answer : Answer) (happened : List Happening) → IsOfLines (event, answer) → May budget core event answer → IsSupplied answer → ((line : ℕ) → IsWellOn line (does (event, answer) ∷ happened)) → IsWell answer
turn_well budget core (starts line meter) answer happened of may well each = first_well line (does (starts line meter, answer)) happened (turn_here line (starts line meter, answer) (eq-eqb line line refl)) (λ e. cc) (each line)
turn_well budget core (asks line) answer happened of may well each = first_well line (does (asks line, answer)) happened (turn_here line (asks line, answer) (eq-eqb line line refl)) (λ e. cc) (each line)
turn_well budget core (hears line moment bytes) answer happened of may well each = first_well line (does (hears line moment bytes, answer)) happened (turn_here line (hears line moment bytes, answer) (eq-eqb line line refl)) (λ e. cc) (each line)
turn_well budget core commits answer happened of may well each = commit_well budget core answer may well
turn_well budget core (offices text) answer happened of may well each = absurd of

pub all_well : (budget : ℕ) (core : Core) (happened : List Happening) → AreOfLines happened → IsChain budget core (happened_turns happened) → AreSupplied happened → ((line : ℕ) → IsWellOn line happened) → AllByRecursion GoesWell happened
all_well budget core [] of chain well each = tt
all_well budget core (does turn ∷ happened) of chain well each =
    (turn_well budget core turn.0 turn.1 happened of.0 chain.0 well.0 each, all_well budget (next core turn.0 turn.1) happened of.1 chain.1 well.1 (λ line. rest_well line (does turn) happened (each line)))
all_well budget core (tells line told ∷ happened) of chain well each =
    (first_well line (tells line told) happened (told_here line told) (λ e. e) (each line), all_well budget core happened of chain well (λ other. rest_well other (tells line told) happened (each other)))

-- ---- no failure is counted

none_counted : (line : ℕ) (told : Told) → IsWellTold told → counts_failed (tells line told) ≡ 0
none_counted line (was_read meter serial parts last) well = refl
none_counted line (has_failed at meter why brought) well = absurd well
none_counted line (was_refused meter refusal) well = absurd well
none_counted line (is_lost lost) well = refl
none_counted line (came_late late answers) well = refl
none_counted line (has_ended read failed) well = refl

pub none_failed : (happened : List Happening) → AllByRecursion GoesWell happened → failures_in happened ≡ 0
none_failed [] well = refl
none_failed (does turn ∷ happened) well = let rest = none_failed happened well.1 in omega (arith, rest)
none_failed (tells line told ∷ happened) well = let one = none_counted line told well.0 in let rest = none_failed happened well.1 in omega (arith, one, rest)

-- no meter is left
pub none_left : {B : Type 0} (stations : List (Station B)) → AllByRecursion IsOver stations → meters_left stations ≡ 0
none_left [] over = refl
none_left {B} (station ∷ stations) over =
    let count : Station B → ℕ = λ s. length s.left.now in
    let one : length station.left.now ≡ 0 = ap length over.0.0 in
    let rest = none_left stations over.1 in
    let sums : sum (count station ∷ map count stations) ≡ count station + sum (map count stations) = sum_by-cons (λ (n : ℕ). n) (count station) (map count stations) in
    omega (arith, one, rest, sums)

-- ---- nothing stops

settled_running : (core : Core) (pending : List Change) → (settled_core core pending).stopped ≡ core.stopped
settled_running core [] = refl
settled_running core (change ∷ changes) = refl

next_running : (core : Core) (event : Event) (answer : Answer) → IsOfLines (event, answer) → IsSupplied answer → core.stopped ≡ false → (next core event answer).stopped ≡ false
next_running core (starts line meter) (started (Ok done)) of well runs = runs
next_running core (starts line meter) (started (Err fault)) of well runs = runs
next_running core (hears line moment bytes) (heard (Ok answer)) of well runs = still_running core line moment bytes (Ok answer) ∙ runs
next_running core (hears line moment bytes) (heard (Err fault)) of well runs = runs
next_running core commits (committed (Ok count)) of well runs = settled_running core core.pending ∙ runs
next_running core commits (committed (Err fault)) of well runs = absurd well
next_running core (offices text) answer of well runs = absurd of
next_running core event answer of well runs = runs

pub all_running : (core : Core) (turns : List Turn) → AllByRecursion IsOfLines turns → AllByRecursion (λ (turn : Turn). IsSupplied turn.1) turns → core.stopped ≡ false → (leads core turns).stopped ≡ false
all_running core [] of well runs = runs
all_running core (turn ∷ turns) of well runs = all_running (next core turn.0 turn.1) turns of.1 well.1 (next_running core turn.0 turn.1 of.0 well.0 runs)

-- The turns of a poll whose concentrator refuses nothing: they are of lines, and all is committed where a line has no
-- request any more and after the last of them.

-- ---- they are of lines

asking_of : (event : Event) (answer : Answer) → IsAskingBy event answer → IsOfLines (event, answer)
asking_of (starts line meter) answer is = tt
asking_of (asks line) answer is = tt
asking_of (hears line moment bytes) answer is = tt
asking_of commits answer is = tt
asking_of (offices text) answer is = absurd is

hearing_of : (moment : ℕ) (event : Event) (answer : Answer) → IsHearingBy moment event answer → IsOfLines (event, answer)
hearing_of moment (starts line meter) answer is = tt
hearing_of moment (asks line) answer is = tt
hearing_of moment (hears line at bytes) answer is = tt
hearing_of moment commits answer is = tt
hearing_of moment (offices text) answer is = absurd is

commit_of : (turns : List Turn) → IsCommit turns → AllByRecursion IsOfLines turns
commit_of turns is = subst (AllByRecursion IsOfLines) (sym is.1) (tt, tt)

round_of : (moment : ℕ) (turns : List Turn) → IsRound moment turns → AllByRecursion IsOfLines turns
round_of moment turns one =
    subst (AllByRecursion IsOfLines) (sym one.turns_are)
    (all_both IsOfLines one.asking (one.hearing ++ one.last)
    (all_as IsAsking IsOfLines one.asking (λ t is. asking_of t.0 t.1 is) (recursion_from_All IsAsking one.asking one.are_asking))
    (all_both IsOfLines one.hearing one.last
    (all_as (IsHearing moment) IsOfLines one.hearing (λ t is. hearing_of moment t.0 t.1 is) (recursion_from_All (IsHearing moment) one.hearing one.are_heard.are_hearing))
    (commit_of one.last one.is_commit)))

pub rounds_of_lines : {T : Type 0} {told : T → ℕ → T → Type 0} {passes : T → Bool → T → Type 0} {first last : T} {turns : List Turn} → InRounds told passes first turns last → AllByRecursion IsOfLines turns
rounds_of_lines (at_first {turns = turns} one) = commit_of turns one
rounds_of_lines (and_round {moment = moment} {turns = turns} {more = more} a kept waits moment_is one) = all_both IsOfLines turns more (rounds_of_lines a) (round_of moment more one)

-- ---- what is pending

-- each answer finds room among the pending changes
one_supplied : (budget : ℕ) (core : Core) (event : Event) (answer : Answer) → May budget core event answer → IsBacked answer → ((line moment : ℕ) (bytes : List ℕ) → event ≡ hears line moment bytes → answer ≡ heard (Err PendingFull) → ⊥) → IsSupplied answer
one_supplied budget core event (started done) may backed never = tt
one_supplied budget core event (asked request) may backed never = tt
one_supplied budget core event (heard (Ok good)) may backed never = tt
one_supplied budget core (hears line moment bytes) (heard (Err PendingFull)) may backed never = never line moment bytes refl refl
one_supplied budget core (starts line meter) (heard (Err PendingFull)) may backed never = may
one_supplied budget core (asks line) (heard (Err PendingFull)) may backed never = may
one_supplied budget core commits (heard (Err PendingFull)) may backed never = may
one_supplied budget core (offices text) (heard (Err PendingFull)) may backed never = may
one_supplied budget core event (heard (Err NoMemory)) may backed never = backed
one_supplied budget core event (heard (Err NoLine)) may backed never = tt
one_supplied budget core event (heard (Err Idle)) may backed never = tt
one_supplied budget core event (heard (Err Full)) may backed never = tt
one_supplied budget core event (heard (Err Stopped)) may backed never = tt
one_supplied budget core event (committed (Ok count)) may backed never = tt
one_supplied budget core event (committed (Err fault)) may backed never = backed
one_supplied budget core event (replied reply) may backed never = tt

pub are_supplied : {T : Type 0} (told : T → ℕ → T → Type 0) (passes : T → Bool → T → Type 0) (first last : T) (budget : ℕ) (core : Core) (front turns : List Turn) → core.pending ≡ [] → IsChain budget core (front ++ turns) → InRounds told passes first (front ++ turns) last
    → AllByRecursion (λ (turn : Turn). IsBacked turn.1) turns → AllByRecursion (λ (turn : Turn). IsSupplied turn.1) turns
are_supplied told passes first last budget core front [] empty chain rounds backed = tt
are_supplied told passes first last budget core front (turn ∷ turns) empty chain rounds backed =
    let may = (chain_parts budget core front (turn ∷ turns) chain).1.0 in
    let more : front ++ turn ∷ turns ≡ (front ++ turn ∷ []) ++ turns = sym (append_assoc front (turn ∷ []) turns) in (
      one_supplied budget (leads core front) turn.0 turn.1 may backed.0 (λ line moment bytes e f.
          let same : turn ≡ (hears line moment bytes, heard (Err PendingFull)) = ap (λ (event : Event). (event, turn.1)) e ∙ ap (λ (answer : Answer). (hears line moment bytes, answer)) f in
          (answers_find_room told passes budget core first last front turns line moment bytes (Err PendingFull) empty
          (subst (λ (t : Turn). IsChain budget core (front ++ t ∷ turns)) same chain) (subst (λ (t : Turn). InRounds told passes first (front ++ t ∷ turns) last) same rounds)).1 refl),
      are_supplied told passes first last budget core (front ++ turn ∷ []) turns empty (subst (IsChain budget core) more chain) (subst (λ (ts : List Turn). InRounds told passes first ts last) more rounds) backed.1,
    )

-- no commit returned a fault
not_unkept : (budget : ℕ) (core : Core) (event : Event) (answer : Answer) (store : Store) → IsOfLines (event, answer) → May budget core event answer → IsSupplied answer → (store ≡ unkept → ⊥) → behind_answer store answer ≡ unkept → ⊥
not_unkept budget core event (started done) store of may well not e = not e
not_unkept budget core event (asked request) store of may well not e = not e
not_unkept budget core event (heard (Ok Again)) store of may well not e = not e
not_unkept budget core event (heard (Ok Ready)) store of may well not e = not e
not_unkept budget core event (heard (Ok (Accepted number more))) store of may well not e = cc
not_unkept budget core event (heard (Ok (Failed why))) store of may well not e = not e
not_unkept budget core event (heard (Err fault)) store of may well not e = not e
not_unkept budget core event (committed (Ok count)) store of may well not e = cc
not_unkept budget core event (committed (Err fault)) store of may well not e = well
not_unkept budget core (starts line meter) (replied reply) store of may well not e = may
not_unkept budget core (asks line) (replied reply) store of may well not e = may
not_unkept budget core (hears line moment bytes) (replied reply) store of may well not e = may
not_unkept budget core commits (replied reply) store of may well not e = may
not_unkept budget core (offices text) (replied reply) store of may well not e = of

pub never_unkept : (budget : ℕ) (core : Core) (turns : List Turn) (store : Store) → AllByRecursion IsOfLines turns → IsChain budget core turns → AllByRecursion (λ (turn : Turn). IsSupplied turn.1) turns → (store ≡ unkept → ⊥) → store_behind store turns ≡ unkept → ⊥
never_unkept budget core [] store of chain well not e = not e
never_unkept budget core (turn ∷ turns) store of chain well not e =
    never_unkept budget (next core turn.0 turn.1) turns (behind_answer store turn.1) of.1 chain.1 well.1 (not_unkept budget core turn.0 turn.1 store of.0 chain.0 well.0 not) e

pub settled_kept : (store : Store) → IsSettled store → (store ≡ unkept → ⊥) → store ≡ all_kept
settled_kept all_kept settled not = refl
settled_kept some_wait settled not = absurd settled
settled_kept unkept settled not = absurd (not refl)

-- where a line has no request any more, nothing is pending
pub none_pends_at : {T : Type 0} {told : T → ℕ → T → Type 0} {passes : T → Bool → T → Type 0} {first last : T} {turns : List Turn} (budget : ℕ) (core : Core) (line : ℕ) → core.pending ≡ [] → IsChain budget core turns → AllByRecursion IsOfLines turns → AllByRecursion (λ (turn : Turn). IsSupplied turn.1) turns
    → InRounds told passes first turns last → (front back : List Turn) → turns ≡ front ++ (asks line, asked None) ∷ back → (leads core front).pending ≡ []
none_pends_at {told = told} {passes = passes} {first = first} {last = last} {turns = turns} budget core line empty chain of well rounds front back is =
    let rest : List Turn = (asks line, asked None) ∷ back in
    let here = (chain_parts budget core front rest (subst (IsChain budget core) is chain)).0 in
    let of_front = all_left IsOfLines front rest (subst (AllByRecursion IsOfLines) is of) in
    let well_front = all_left (λ (turn : Turn). IsSupplied turn.1) front rest (subst (AllByRecursion (λ (turn : Turn). IsSupplied turn.1)) is well) in
    let settled = settled_at told passes first last front back line (subst (λ (ts : List Turn). InRounds told passes first ts last) is rounds) in
    let kept = settled_kept (store_behind some_wait front) settled (never_unkept budget core front some_wait of_front here well_front (λ e. cc)) in
    none_pends budget core front empty here kept

-- no commit returned the fault with which a poll ends
pub no_fault : (fault : Option CommitFault) (turns : List Turn) → EndsIn fault turns → AllByRecursion (λ (turn : Turn). IsSupplied turn.1) turns → fault ≡ None
no_fault None turns ends well = refl
no_fault (Some fault) turns ends well =
    absurd (all_right (λ (turn : Turn). IsSupplied turn.1) ends.0 ((commits, committed (Err fault)) ∷ []) (subst (AllByRecursion (λ (turn : Turn). IsSupplied turn.1)) ends.1 well)).0

-- ---- on one line

on_line_of : (Q : Turn → Type 0) (R : Happening → Type 0) → ((turn : Turn) → Q turn → R (does turn)) → ((line : ℕ) (told : Told) → R (tells line told)) → (line : ℕ) (happened : List Happening) → AllByRecursion Q (happened_turns happened) → AllByRecursion R (happened_on line happened)
on_line_of Q R turns told line [] all = tt
on_line_of Q R turns told line (does turn ∷ happened) all = by (is_on line turn.0) (on_line_of Q R turns told line happened all.1)
  where
    by : (b : Bool) → AllByRecursion R (happened_on line happened) → AllByRecursion R ((if b then does turn ∷ [] else []) ++ happened_on line happened)
    by true rest = (turns turn all.0, rest)
    by false rest = rest
on_line_of Q R turns told line (tells other event ∷ happened) all = by (other == line) (on_line_of Q R turns told line happened all)
  where
    by : (b : Bool) → AllByRecursion R (happened_on line happened) → AllByRecursion R ((if b then tells other event ∷ [] else []) ++ happened_on line happened)
    by true rest = (told other event, rest)
    by false rest = rest

pub supplied_on : (line : ℕ) (happened : List Happening) → AreSupplied happened → AllByRecursion IsSuppliedIn (happened_on line happened)
supplied_on line happened well = on_line_of (λ (turn : Turn). IsSupplied turn.1) IsSuppliedIn (λ turn is. is) (λ other told. tt) line happened well

pub roomy_on : (line : ℕ) (happened : List Happening) → AreRoomy happened → AllByRecursion IsRoomyIn (happened_on line happened)
roomy_on line happened roomy = on_line_of (λ (turn : Turn). IsRoomy turn.1) IsRoomyIn (λ turn is. is) (λ other told. tt) line happened roomy

-- the meters that are started on it
started_by_one : (line : ℕ) (event : Event) (answer : Answer) (happened : List Happening) → starts_in (happened_on line happened) ≡ starts_on line (happened_turns happened)
    → starts_in ((if is_on line event then does (event, answer) ∷ [] else []) ++ happened_on line happened) ≡ starts_by line event ++ starts_on line (happened_turns happened)
started_by_one line (starts other meter) answer happened rest = by (other == line)
  where
    by : (b : Bool) → starts_in ((if b then does (starts other meter, answer) ∷ [] else []) ++ happened_on line happened) ≡ (if b then meter ∷ [] else []) ++ starts_on line (happened_turns happened)
    by true = ap (λ (xs : List Identity). meter ∷ xs) rest
    by false = rest
started_by_one line (asks other) answer happened rest = by (other == line)
  where
    by : (b : Bool) → starts_in ((if b then does (asks other, answer) ∷ [] else []) ++ happened_on line happened) ≡ starts_on line (happened_turns happened)
    by true = rest
    by false = rest
started_by_one line (hears other moment bytes) answer happened rest = by (other == line)
  where
    by : (b : Bool) → starts_in ((if b then does (hears other moment bytes, answer) ∷ [] else []) ++ happened_on line happened) ≡ starts_on line (happened_turns happened)
    by true = rest
    by false = rest
started_by_one line commits answer happened rest = rest
started_by_one line (offices text) answer happened rest = rest

pub starts_same : (line : ℕ) (happened : List Happening) → starts_in (happened_on line happened) ≡ starts_on line (happened_turns happened)
starts_same line [] = refl
starts_same line (does turn ∷ happened) = started_by_one line turn.0 turn.1 happened (starts_same line happened)
starts_same line (tells other told ∷ happened) = by (other == line) (starts_same line happened)
  where
    by : (b : Bool) → starts_in (happened_on line happened) ≡ starts_on line (happened_turns happened) → starts_in ((if b then tells other told ∷ [] else []) ++ happened_on line happened) ≡ starts_on line (happened_turns happened)
    by true rest = rest
    by false rest = rest

-- The meters of a line's queue have that line in their rows, where those of the register ascend.

first_true : (a b : Bool) → (a && b) ≡ true → a ≡ true
first_true true b e = refl
first_true false b e = absurd cc

abbrev Rows : Type 0
Rows = List (Identity × MeterRow)

module _ (line : ℕ) (only : List Identity) where
  abbrev ids : Rows → List Identity
  ids rows = map (λ (row : Identity × MeterRow). row.0) (filter (is_queued line only) rows)

  abbrev IsOfLine : Rows → Identity → Type 0
  IsOfLine rows x = (row : MeterRow) → lookup (is_at (identity_cmp x)) rows ≡ Some row → row.line ≡ line

  one_more : (e : Identity × MeterRow) (rows : Rows) (x : Identity) → x ≢ e.0 → IsOfLine rows x → IsOfLine (e ∷ rows) x
  one_more e rows x not is row found = by (is_at (identity_cmp x) e.0) refl found
    where
      by : (b : Bool) → is_at (identity_cmp x) e.0 ≡ b → cond b (Some e.1) (lookup (is_at (identity_cmp x)) rows) ≡ Some row → row.line ≡ line
      by true at here = absurd (not (same_from_tie x e.0 at))
      by false at here = is row here

  all_more : (e : Identity × MeterRow) (rows : Rows) (xs : List Identity) → AllByRecursion (λ (x : Identity). x ≢ e.0) xs → AllByRecursion (IsOfLine rows) xs → AllByRecursion (IsOfLine (e ∷ rows)) xs
  all_more e rows [] apart all = tt
  all_more e rows (x ∷ xs) apart all = (one_more e rows x apart.0 all.0, all_more e rows xs apart.1 all.1)

  first_of_line : (e : Identity × MeterRow) (rows : Rows) → is_queued line only e ≡ true → IsOfLine (e ∷ rows) e.0
  first_of_line e rows such row found =
      let at : is_at (identity_cmp e.0) e.0 ≡ true = ap is_eq (equal_to_itself e.0) in
      let here : Some e.1 ≡ Some row = ap (λ (b : Bool). cond b (Some e.1) (lookup (is_at (identity_cmp e.0)) rows)) (sym at) ∙ found in
      let same : e.1 ≡ row = cc in
      ap (λ (r : MeterRow). r.line) (sym same) ∙ eqb-true e.1.line line (first_true (e.1.line == line) (is_wanted only e.0) such)

  not_first : (m : Identity) (rows : Rows) → AllByRecursion (λ (other : Identity). identity_cmp m other ≡ Less) (keys_of rows) → AllByRecursion (λ (x : Identity). x ≢ m) (ids rows)
  not_first m [] less = tt
  not_first m (row ∷ rows) less = by (not_first m rows less.1) (is_queued line only row)
    where
      differs : row.0 ≢ m
      differs same = let both : Less ≡ Equal = sym less.0 ∙ ap (identity_cmp m) same ∙ equal_to_itself m in cc

      by : AllByRecursion (λ (x : Identity). x ≢ m) (ids rows) → (b : Bool) → AllByRecursion (λ (x : Identity). x ≢ m) (map (λ (r : Identity × MeterRow). r.0) (if b then row ∷ filter (is_queued line only) rows else filter (is_queued line only) rows))
      by rest true = (differs, rest)
      by rest false = rest

  all_of_line : (rows : Rows) → IsStrictlySortedBy identity_cmp (keys_of rows) → AllByRecursion (IsOfLine rows) (ids rows)
  unfolding IsStrictlySortedBy
  all_of_line [] sorted = tt
  all_of_line (row ∷ rows) sorted = by (all_more row rows (ids rows) (not_first row.0 rows sorted.0) (all_of_line rows sorted.1)) (is_queued line only row) refl
    where
      by : AllByRecursion (IsOfLine (row ∷ rows)) (ids rows) → (b : Bool) → is_queued line only row ≡ b → AllByRecursion (IsOfLine (row ∷ rows)) (map (λ (r : Identity × MeterRow). r.0) (if b then row ∷ filter (is_queued line only) rows else filter (is_queued line only) rows))
      by rest true such = (first_of_line row rows such, rest)
      by rest false such = rest

pub queue_of_line : (state : State) (only : List Identity) (line : ℕ) (lost : Bool) → IsStrictlySortedBy identity_cmp (keys_of state.meters) → AllByRecursion (λ (x : Identity). (row : MeterRow) → row_of x state ≡ Some row → row.line ≡ line) (queue_on state only line lost)
queue_of_line state only line true sorted = tt
queue_of_line state only line false sorted = all_of_line line only state.meters sorted
