-- Rounds of a poll, one after the other.
use Rattle.std.proofs.Common.{◌≡◌, ℕ, ◌+◌, ◌-◌, inl, inr, Bool, List, [], ◌∷◌, ◌++◌, Option, None, Some, Result, Ok, Err, length, refl, ap, sym, subst, ◌∙◌, arith, append-nil, append_assoc}
use Rattle.std.specs.List.{All}
use Rattle.std.specs.Prelude.{◌^◌, IfOk, OnOk, min}
use Rattle.dc_core.specs.Core.{Core}
use Rattle.dc_core.specs.Event.{commits, committed}
use Rattle.dc_core.specs.declared.fault.CommitFault.{CommitFault}
use Rattle.dc_core.specs.Step.{next}
use Rattle.dc_core.specs.Transcript.{Turn, leads}
use Rattle.mbdc_poll.specs.Telling.{TakesAll}
use Rattle.mbdc_poll.proofs.Taking.{takes_both, takes_none}
use Rattle.mbdc_poll.specs.declared.event.Event.{Event as Told}
use Rattle.mbdc_poll.specs.declared.event.Event.TheVariants.{End as has_ended}
use Rattle.mbdc_poll.specs.Bus.{Bus}
use Rattle.mbdc_poll.specs.Happening.{Happening, does, tells, happened_events, happened_turns, reads_in, failures_in}
use Rattle.mbdc_poll.specs.Keeping.{AreTrue, InRounds, IsAsking, IsCommit, IsRound, IsSettled, Store, all_kept, at_first, and_round, behind_answer, some_wait, store_behind}
use Rattle.mbdc_poll.specs.Polls.{EndsIn, GoesRound, Polled, PollsAll, PollsTo, fault_of, store_of}
use Rattle.mbdc_poll.specs.Round.{AllSteps, AllTells, AreTurns, EndsInCommit, HasFew, IsFresh, IsOver, IsSilent, IsStoredAs, lates_from, meters_left}
use Rattle.mbdc_poll.specs.declared.outcome.Counts.{Counts}
use Rattle.mbdc_poll.specs.declared.outcome.Outcome.{Outcome}
use Rattle.mbdc_poll.specs.declared.station.Station.{Station}
use Rattle.mbdc_poll.proofs.Happenings.{turns_append, events_append, reads_append, failures_append}
use Rattle.mbdc_poll.specs.Waiting.{may_sleep}
use Rattle.mbdc_poll.proofs.Rounds.{all_then, rounds_both}

-- ---- where turns leave the store

pub store_append : (store : Store) (first more : List Turn) → store_behind store (first ++ more) ≡ store_behind (store_behind store first) more
store_append store [] more = refl
store_append store (turn ∷ first) more = store_append (behind_answer store turn.1) first more

store_stored : (store : Store) (stored : Result (Unit {0}) CommitFault) (turns : List Turn) → IsStoredAs stored turns → store_behind store turns ≡ store_of (fault_of stored)
store_stored store (Ok done) turns is = ap (store_behind store) is.1
store_stored store (Err fault) turns is = ap (store_behind store) is

is_commit_as : (stored : Result (Unit {0}) CommitFault) (turns : List Turn) → IsStoredAs stored turns → IsCommit turns
is_commit_as (Ok done) turns is = (Ok is.0, is.1)
is_commit_as (Err fault) turns is = (Err fault, is)

settled_of : (fault : Option CommitFault) → IsSettled (store_of fault)
settled_of None = tt
settled_of (Some fault) = tt

-- a commit with a fault is the last turn, whatever comes before
ends_stored : (stored : Result (Unit {0}) CommitFault) (front turns : List Turn) → IsStoredAs stored turns → EndsIn (fault_of stored) (front ++ turns)
ends_stored (Ok done) front turns is = tt
ends_stored (Err fault) front turns is = (front, ap (λ (ts : List Turn). front ++ ts) is)

ends_behind : (fault : Option CommitFault) (front turns : List Turn) → EndsIn fault turns → EndsIn fault (front ++ turns)
ends_behind None front turns is = tt
ends_behind (Some fault) front turns (before, is) = (front ++ before, ap (λ (ts : List Turn). front ++ ts) is ∙ sym (append_assoc front before ((commits, committed (Err fault)) ∷ [])))

-- ---- events that are true

-- after turns alone
pub true_behind : (core : Core) (store : Store) (happened more : List Happening) → AreTurns happened → AreTrue (leads core (happened_turns happened)) (store_behind store (happened_turns happened)) more → AreTrue core store (happened ++ more)
true_behind core store [] more turns is = is
true_behind core store (does turn ∷ happened) more turns is = true_behind (next core turn.0 turn.1) (behind_answer store turn.1) happened more turns is
true_behind core store (tells line told ∷ happened) more turns is = absurd turns

-- and after others
pub true_then : (core : Core) (store : Store) (happened more : List Happening) → AreTrue core store happened → AreTrue (leads core (happened_turns happened)) (store_behind store (happened_turns happened)) more → AreTrue core store (happened ++ more)
true_then core store [] more was is = is
true_then core store (does turn ∷ happened) more was is = true_then (next core turn.0 turn.1) (behind_answer store turn.1) happened more was is
true_then core store (tells line told ∷ happened) more was is = (was.0, was.1, true_then core store happened more was.2 is)

-- turns alone are no event, and count nothing
turns_events : (happened : List Happening) → AreTurns happened → happened_events happened ≡ []
turns_events [] turns = refl
turns_events (does turn ∷ happened) turns = turns_events happened turns
turns_events (tells line told ∷ happened) turns = absurd turns

turns_read : (happened : List Happening) → AreTurns happened → reads_in happened ≡ 0
turns_read [] turns = refl
turns_read (does turn ∷ happened) turns = let rest = turns_read happened turns in omega (arith, rest)
turns_read (tells line told ∷ happened) turns = absurd turns

turns_failed : (happened : List Happening) → AreTurns happened → failures_in happened ≡ 0
turns_failed [] turns = refl
turns_failed (does turn ∷ happened) turns = let rest = turns_failed happened turns in omega (arith, rest)
turns_failed (tells line told ∷ happened) turns = absurd turns

-- ---- a round

-- its turns, and where they leave the store
pub record RoundTurns (moment : ℕ) (stored : Result (Unit {0}) CommitFault) (turns : List Turn) : Type 0 where
  pub is_round : IsRound moment turns
  pub keeps : (store : Store) → store_behind store turns ≡ store_of (fault_of stored)
  pub ends : EndsIn (fault_of stored) turns

pub round_turns : (moment : ℕ) (stored : Result (Unit {0}) CommitFault) (turns next : List Turn) → All IsAsking turns → EndsInCommit moment stored next → RoundTurns moment stored (turns ++ next)
round_turns moment stored turns next asking (front, last, waiting, is, hearing, one) = record {
  is_round = record { asking = turns; hearing = front; last = last; waiting = waiting; turns_are = ap (λ (ts : List Turn). turns ++ ts) is; are_asking = asking; are_heard = hearing; is_commit = is_commit_as stored last one };
  keeps = λ store. store_append store turns next ∙ ap (store_behind (store_behind store turns)) is ∙ store_append (store_behind store turns) front last ∙ store_stored (store_behind (store_behind store turns) front) stored last one;
  ends = subst (EndsIn (fault_of stored)) (sym (ap (λ (ts : List Turn). turns ++ ts) is)) (ends_behind (fault_of stored) turns (front ++ last) (ends_stored stored front last one));
}

-- the lines are asked, and then answers are heard and committed
pub record Asked {B : Type 0} (g : Bus B) (tries moment : ℕ) (stored : Result (Unit {0}) CommitFault) (olds asked mids : List (Station B)) (happened : List Happening) : Type 0 where
  pub asking : List Happening
  pub rest : List Happening
  pub parts : happened ≡ asking ++ rest
  pub asks : AllSteps g tries (All IsAsking) olds asked asking
  pub hears : AllSteps g tries (EndsInCommit moment stored) asked mids rest

pub asked_all : {B : Type 0} {g : Bus B} (tries moment : ℕ) (stored : Result (Unit {0}) CommitFault) (olds asked mids : List (Station B)) (happened : List Happening) → length asked ≡ length olds → Asked g tries moment stored olds asked mids happened
    → AllSteps g tries (RoundTurns moment stored) olds mids happened
asked_all {B} {g} tries moment stored olds asked mids happened same a =
    subst (λ (hs : List Happening). AllSteps g tries (RoundTurns moment stored) olds mids hs) (sym a.parts)
    (all_then tries (All IsAsking) (EndsInCommit moment stored) (RoundTurns moment stored) olds asked mids a.asking a.rest same a.asks a.hears (round_turns moment stored))

is_round_of : {B : Type 0} {g : Bus B} (tries moment : ℕ) (stored : Result (Unit {0}) CommitFault) (asked mids : List (Station B)) (asking : List Turn) (rest : List Happening) (turns : List Turn) → turns ≡ asking ++ happened_turns rest → All IsAsking asking
    → AllSteps g tries (EndsInCommit moment stored) asked mids rest → (round : IsRound moment turns) × (round.asking ≡ asking)
is_round_of tries moment stored asked mids asking rest turns same are a = by_parts a.are_such
  where
    by_parts : EndsInCommit moment stored (happened_turns rest) → (round : IsRound moment turns) × (round.asking ≡ asking)
    by_parts (front, last, waiting, is, hearing, one) =
        (record { asking = asking; hearing = front; last = last; waiting = waiting; turns_are = same ∙ ap (λ (ts : List Turn). asking ++ ts) is; are_asking = are; are_heard = hearing; is_commit = is_commit_as stored last one }, refl)

module _ {B T N : Type 0} (g : Bus B) (told : T → ℕ → T → Type 0) (passes : T → Bool → T → Type 0) (takes : N → Told → N → Type 0) where
  pub goes_round : (tries moment : ℕ) (stored : Result (Unit {0}) CommitFault) (olds asked mids news : List (Station B)) (first passed last : T) (old new : N) (was now : Counts) (core : Core) (happened more : List Happening)
      → length asked ≡ length olds → length mids ≡ length asked → passes first (may_sleep asked) passed → told passed moment last
      → Asked g tries moment stored olds asked mids happened
      → AllTells g mids news (TakesAll takes old new) was now (leads core (happened_turns happened)) more
      → GoesRound g told passes tries (fault_of stored) olds news first last (TakesAll takes old new) was now core (happened ++ more)
  goes_round tries moment stored olds asked mids news first passed last old new was now core happened more same same_mids waits tells_it begun t =
      let a = asked_all tries moment stored olds asked mids happened same begun in
      let none : happened_turns (happened ++ more) ≡ happened_turns happened = turns_append happened more ∙ ap (λ (ts : List Turn). happened_turns happened ++ ts) t.told.no_turns ∙ append-nil (happened_turns happened) in
      let turns : happened_turns (happened ++ more) ≡ happened_turns begun.asking ++ happened_turns begun.rest = none ∙ ap happened_turns begun.parts ∙ turns_append begun.asking begun.rest in
      let round = is_round_of tries moment stored asked mids (happened_turns begun.asking) begun.rest (happened_turns (happened ++ more)) turns begun.asks.are_such begun.hears in
      record {
        passed = passed;
        moment = moment;
        rounds = rounds_both tries olds mids news happened more (same_mids ∙ same) a.rounds (t.rounds tries);
        asked = asked;
        asking = begun.asking;
        rest = begun.rest ++ more;
        parts = ap (λ (hs : List Happening). hs ++ more) begun.parts ∙ append_assoc begun.asking begun.rest more;
        asks = begun.asks.rounds;
        goes_on = rounds_both tries asked mids news begun.rest more same_mids begun.hears.rounds (t.rounds tries);
        waits = waits;
        reads_time = tells_it;
        is_round = round.0;
        asks_first = round.1;
        keeps = λ store. ap (store_behind store) none ∙ a.are_such.keeps store;
        ends = subst (EndsIn (fault_of stored)) (sym none) a.are_such.ends;
        events = subst (TakesAll takes old new) (sym (events_append happened more ∙ ap (λ (es : List Told). es ++ happened_events more) (turns_events happened a.are_turns))) t.told.events;
        are_true = λ store. true_behind core store happened more a.are_turns
            (t.told.are_true (store_behind store (happened_turns happened)) (subst IsSettled (sym (a.are_such.keeps store)) (settled_of (fault_of stored))));
        read = let first = t.told.read in let none = turns_read happened a.are_turns in let both = reads_append happened more in omega (arith, first, none, both);
        failed = let first = t.told.failed in let none = turns_failed happened a.are_turns in let both = failures_append happened more in omega (arith, first, none, both);
      }

  -- ---- a poll

  -- its first commit
  pub polls_first : (tries : ℕ) (stored : Result (Unit {0}) CommitFault) (olds news : List (Station B)) (first : T) (out : N) (was : Counts) (core : Core) (happened : List Happening) → AllSteps g tries (IsStoredAs stored) olds news happened
      → PollsTo g told passes tries (store_of (fault_of stored)) olds news first first (TakesAll takes out out) was was core happened
  polls_first tries stored olds news first out was core happened a = record {
    rounds = a.rounds;
    keeps = at_first (is_commit_as stored (happened_turns happened) a.are_such);
    stored = store_stored some_wait stored (happened_turns happened) a.are_such;
    events = subst (TakesAll takes out out) (sym (turns_events happened a.are_turns)) (takes_none takes out);
    are_true = subst (λ (hs : List Happening). AreTrue core some_wait hs) (append-nil happened) (true_behind core some_wait happened [] a.are_turns tt);
    read = let none = turns_read happened a.are_turns in omega (arith, none);
    failed = let none = turns_failed happened a.are_turns in omega (arith, none);
  }

  -- and a round more
  pub polls_on : (tries : ℕ) (fault : Option CommitFault) (olds mids news : List (Station B)) (first between last : T) (old mid new : N) (was so_far now : Counts) (core : Core) (happened more : List Happening) → length mids ≡ length olds
      → PollsTo g told passes tries all_kept olds mids first between (TakesAll takes old mid) was so_far core happened
      → GoesRound g told passes tries fault mids news between last (TakesAll takes mid new) so_far now (leads core (happened_turns happened)) more
      → PollsTo g told passes tries (store_of fault) olds news first last (TakesAll takes old new) was now core (happened ++ more)
  polls_on tries fault olds mids news first between last old mid new was so_far now core happened more same a r = record {
    rounds = rounds_both tries olds mids news happened more same a.rounds r.rounds;
    keeps = subst (λ (ts : List Turn). InRounds told passes first ts last) (sym (turns_append happened more)) (and_round a.keeps a.stored r.waits r.reads_time r.is_round);
    stored = ap (store_behind some_wait) (turns_append happened more) ∙ store_append some_wait (happened_turns happened) (happened_turns more) ∙ r.keeps (store_behind some_wait (happened_turns happened));
    events = subst (TakesAll takes old new) (sym (events_append happened more)) (takes_both takes old mid new (happened_events happened) (happened_events more) a.events r.events);
    are_true = true_then core some_wait happened more a.are_true (r.are_true (store_behind some_wait (happened_turns happened)));
    read = let one = a.read in let two = r.read in let both = reads_append happened more in omega (arith, one, two, both);
    failed = let one = a.failed in let two = r.failed in let both = failures_append happened more in omega (arith, one, two, both);
  }

  -- ---- where it ends

  -- the first commit returns a fault
  pub polled_none : (tries : ℕ) (fault : CommitFault) (olds news : List (Station B)) (first : T) (out : N) (was : Counts) (now : Outcome) (core : Core) (happened : List Happening) → now ≡ record { read = was.read; failed = was.failed; fault = Some fault }
      → AllSteps g tries (IsStoredAs (Err fault)) olds news happened
      → Polled g told passes tries olds news first first (TakesAll takes out out) was now core happened
  polled_none tries fault olds news first out was now core happened same a = subst (λ (o : Outcome). Polled g told passes tries olds news first first (TakesAll takes out out) was o core happened) (sym same) (record {
    counts = was;
    polls = polls_first tries (Err fault) olds news first out was core happened a;
    ended = inl refl;
    read = refl;
    failed = refl;
    fault = ([], a.are_such);
  })

  -- a later one does
  pub polled_unkept : (tries : ℕ) (answered : Option CommitFault) (fault : CommitFault) (olds mids news : List (Station B)) (first between last : T) (old mid new : N) (was so_far counts : Counts) (now : Outcome) (core : Core) (happened more : List Happening) → length mids ≡ length olds → answered ≡ Some fault
      → now ≡ record { read = counts.read; failed = counts.failed; fault = Some fault }
      → PollsTo g told passes tries all_kept olds mids first between (TakesAll takes old mid) was so_far core happened
      → GoesRound g told passes tries answered mids news between last (TakesAll takes mid new) so_far counts (leads core (happened_turns happened)) more
      → Polled g told passes tries olds news first last (TakesAll takes old new) was now core (happened ++ more)
  polled_unkept tries answered fault olds mids news first between last old mid new was so_far counts now core happened more same_count is same a one =
      let r = subst (λ (f : Option CommitFault). GoesRound g told passes tries f mids news between last (TakesAll takes mid new) so_far counts (leads core (happened_turns happened)) more) is one in
      subst (λ (o : Outcome). Polled g told passes tries olds news first last (TakesAll takes old new) was o core (happened ++ more)) (sym same) (record {
        counts = counts;
        polls = polls_on tries (Some fault) olds mids news first between last old mid new was so_far counts core happened more same_count a r;
        ended = inl refl;
        read = refl;
        failed = refl;
        fault = subst (EndsIn (Some fault)) (sym (turns_append happened more)) (ends_behind (Some fault) (happened_turns happened) (happened_turns more) r.ends);
      })

  -- or it goes on
  pub polls_kept : (tries : ℕ) (fault : Option CommitFault) (olds mids news : List (Station B)) (first between last : T) (old mid new : N) (was so_far now : Counts) (core : Core) (happened more : List Happening) → length mids ≡ length olds → fault ≡ None
      → PollsTo g told passes tries all_kept olds mids first between (TakesAll takes old mid) was so_far core happened
      → GoesRound g told passes tries fault mids news between last (TakesAll takes mid new) so_far now (leads core (happened_turns happened)) more
      → PollsTo g told passes tries all_kept olds news first last (TakesAll takes old new) was now core (happened ++ more)
  polls_kept tries fault olds mids news first between last old mid new was so_far now core happened more same is a r =
      subst (λ (store : Store). PollsTo g told passes tries store olds news first last (TakesAll takes old new) was now core (happened ++ more)) (ap store_of is)
      (polls_on tries fault olds mids news first between last old mid new was so_far now core happened more same a r)

  -- no meter is left
  pub polled_over : (tries : ℕ) (olds news : List (Station B)) (first last : T) (took : List Told → Type 0) (was counts : Counts) (now : Outcome) (core : Core) (happened : List Happening)
      → now ≡ record { read = counts.read; failed = counts.failed; fault = None }
      → PollsTo g told passes tries all_kept olds news first last took was counts core happened → (All IsFresh olds → All HasFew olds → All IsOver news × All IsSilent news)
      → Polled g told passes tries olds news first last took was now core happened
  polled_over tries olds news first last took was counts now core happened same a over =
      subst (λ (o : Outcome). Polled g told passes tries olds news first last took was o core happened) (sym same) (record { counts = counts; polls = a; ended = inr over; read = refl; failed = refl; fault = tt })

  -- and more is written
  pub polls_all : (tries : ℕ) (olds news : List (Station B)) (first last : T) (old mid new : N) (was : Counts) (between now : Outcome) (core : Core) (happened : List Happening)
      → Polled g told passes tries olds news first last (TakesAll takes old mid) was between core happened
      → TakesAll takes mid new (lates_from g 1 news ++ has_ended now.read now.failed ∷ [])
      → now.read ≡ between.read → now.failed ≡ min (2 ^ 64 - 1) (between.failed + meters_left news) → now.fault ≡ between.fault
      → PollsAll g told passes tries olds news first last (TakesAll takes old new) was now core happened
  polls_all tries olds news first last old mid new was between now core happened p put read failed fault = record {
    between = between;
    polled = record {
      counts = p.counts;
      polls = record {
        rounds = p.polls.rounds;
        keeps = p.polls.keeps;
        stored = p.polls.stored;
        events = takes_both takes old mid new (happened_events happened) (lates_from g 1 news ++ has_ended now.read now.failed ∷ []) p.polls.events put;
        are_true = p.polls.are_true;
        read = p.polls.read;
        failed = p.polls.failed;
      };
      ended = p.ended;
      read = p.read;
      failed = p.failed;
      fault = p.fault;
    };
    read = read;
    failed = failed;
    fault = fault;
  }

pub none_of : (result : Result (Unit {0}) CommitFault) (P : Type 0) → OnOk result P → fault_of result ≡ None → P
none_of (Ok x) P p is = p
none_of (Err e) P p is = absurd cc

pub if_ok_both : {X E : Type 0} (result : Result X E) (P Q R : X → Type 0) → ((x : X) → P x → Q x → R x) → IfOk result P → IfOk result Q → IfOk result R
if_ok_both (Ok x) P Q R goes p q = goes x p q
if_ok_both (Err e) P Q R goes p q = tt
