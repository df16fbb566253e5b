-- In rounds, all is committed where a line has no request any more, and where a line of text is written.
use Rattle.std.proofs.Common.{◌≡◌, ℕ, Bool, List, [], ◌∷◌, ◌++◌, None, Some, refl, sym, subst}
use Rattle.std.specs.List.{All}
use Rattle.std.proofs.lemmas.List.Elements.{All-head, All-tail}
use Rattle.dc_core.specs.Core.{Core}
use Rattle.dc_core.specs.Event.{Event, Answer, starts, asks, hears, commits, offices, started, asked, heard, committed, replied}
use Rattle.dc_core.specs.Step.{next}
use Rattle.dc_core.specs.Transcript.{Turn}
use Rattle.mbdc_poll.specs.declared.event.Event.{Event as Told}
use Rattle.mbdc_poll.specs.Happening.{Happening, does, tells, happened_turns}
use Rattle.mbdc_poll.specs.Keeping.{AreTrue, InRounds, IsAsking, IsAskingBy, IsCommit, IsHearing, IsHearingBy, IsRound, IsSettled, Store, all_kept, at_first, and_round, behind_answer, some_wait, store_behind}

abbrev ReadsBy : Store → Event → Answer → Type 0
ReadsBy store (asks line) (asked None) = IsSettled store
ReadsBy store event answer = Unit {0}

-- so it is at each turn
abbrev Reads : Store → List Turn → Type 0
Reads store [] = Unit {0}
Reads store (turn ∷ turns) = ReadsBy store turn.0 turn.1 × Reads (behind_answer store turn.1) turns

reads_both : (store : Store) (turns more : List Turn) → Reads store turns → Reads (store_behind store turns) more → Reads store (turns ++ more)
reads_both store [] more a b = b
reads_both store (turn ∷ turns) more a b = (a.0, reads_both (behind_answer store turn.1) turns more a.1 b)

asking_by : (store : Store) (event : Event) (answer : Answer) → IsSettled store → IsAskingBy event answer → ReadsBy store event answer × (behind_answer store answer ≡ store)
asking_by store (starts line meter) (started answer) settled is = (tt, refl)
asking_by store (starts line meter) (asked answer) settled is = absurd is
asking_by store (starts line meter) (heard answer) settled is = absurd is
asking_by store (starts line meter) (committed answer) settled is = absurd is
asking_by store (starts line meter) (replied reply) settled is = absurd is
asking_by store (asks line) (started answer) settled is = absurd is
asking_by store (asks line) (asked None) settled is = (settled, refl)
asking_by store (asks line) (asked (Some request)) settled is = (tt, refl)
asking_by store (asks line) (heard answer) settled is = absurd is
asking_by store (asks line) (committed answer) settled is = absurd is
asking_by store (asks line) (replied reply) settled is = absurd is
asking_by store (hears line moment bytes) answer settled is = absurd is
asking_by store commits answer settled is = absurd is
asking_by store (offices text) answer settled is = absurd is

asking_reads : (store : Store) (turns : List Turn) → IsSettled store → All IsAsking turns → Reads store turns
asking_reads store [] settled all = tt
asking_reads store (turn ∷ turns) settled all =
    let one = asking_by store turn.0 turn.1 settled (All-head IsAsking turn turns all) in
    (one.0, subst (λ (s : Store). Reads s turns) (sym one.1) (asking_reads store turns settled (All-tail IsAsking turn turns all)))

hearing_by : (moment : ℕ) (store : Store) (event : Event) (answer : Answer) → IsHearingBy moment event answer → ReadsBy store event answer
hearing_by moment store (starts line meter) answer is = absurd is
hearing_by moment store (asks line) answer is = absurd is
hearing_by moment store (hears line at bytes) answer is = tt
hearing_by moment store commits answer is = tt
hearing_by moment store (offices text) answer is = absurd is

hearing_reads : (moment : ℕ) (store : Store) (turns : List Turn) → All (IsHearing moment) turns → Reads store turns
hearing_reads moment store [] all = tt
hearing_reads moment store (turn ∷ turns) all =
    (hearing_by moment store turn.0 turn.1 (All-head (IsHearing moment) turn turns all), hearing_reads moment (behind_answer store turn.1) turns (All-tail (IsHearing moment) turn turns all))

commit_reads : (store : Store) (turns : List Turn) → IsCommit turns → Reads store turns
commit_reads store turns commit = subst (Reads store) (sym commit.1) (tt, tt)

round_reads : (moment : ℕ) (store : Store) (turns : List Turn) → IsSettled store → IsRound moment turns → Reads store turns
round_reads moment store turns settled one =
    let behind : Store = store_behind store one.asking in
    subst (Reads store) (sym one.turns_are)
    (reads_both store one.asking (one.hearing ++ one.last) (asking_reads store one.asking settled one.are_asking)
    (reads_both behind one.hearing one.last (hearing_reads moment behind one.hearing one.are_heard.are_hearing) (commit_reads (store_behind behind one.hearing) one.last one.is_commit)))

rounds_read : {T : Type 0} {told : T → ℕ → T → Type 0} {passes : T → Bool → T → Type 0} {first last : T} {turns : List Turn} → InRounds told passes first turns last → Reads some_wait turns
rounds_read (at_first {turns = turns} one) = commit_reads some_wait turns one
rounds_read (and_round {moment = moment} {turns = turns} {more = more} a kept waits moment_is one) =
    reads_both some_wait turns more (rounds_read a) (subst (λ (s : Store). Reads s more) (sym kept) (round_reads moment all_kept more tt one))

reads_at : (store : Store) (front back : List Turn) (line : ℕ) → Reads store (front ++ (asks line, asked None) ∷ back) → IsSettled (store_behind store front)
reads_at store [] back line reads = reads.0
reads_at store (turn ∷ front) back line reads = reads_at (behind_answer store turn.1) front back line reads.1

pub settled_at : {T : Type 0} (told : T → ℕ → T → Type 0) (passes : T → Bool → T → Type 0) (first last : T) (front back : List Turn) (line : ℕ) → InRounds told passes first (front ++ (asks line, asked None) ∷ back) last → IsSettled (store_behind some_wait front)
settled_at told passes first last front back line rounds = reads_at some_wait front back line (rounds_read rounds)

-- and where a line of text is written
pub settled_told : (core : Core) (store : Store) (front back : List Happening) (line : ℕ) (told : Told) → AreTrue core store (front ++ tells line told ∷ back) → IsSettled (store_behind store (happened_turns front))
settled_told core store [] back line told true = true.0
settled_told core store (does turn ∷ front) back line told true = settled_told (next core turn.0 turn.1) (behind_answer store turn.1) front back line told true
settled_told core store (tells other said ∷ front) back line told true = settled_told core store front back line told true.2
