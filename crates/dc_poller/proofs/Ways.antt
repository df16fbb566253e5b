-- What happens in a poll, one thing after the other.
use Rattle.std.proofs.Common.{◌≡◌, ◌<◌, ◌≤◌, length, ℕ, Option, List, [], ◌∷◌, ◌++◌, refl, ap, sym, subst, ◌∙◌, arith, append_assoc, append-nil}
use Rattle.std.specs.Prelude.{Bool, true, false, Result, Ok, Err, OnErr}
use Rattle.dc_address.specs.declared.identity.Identity.{Identity}
use Rattle.mbdc_io.specs.Failures.{HasRisen}
use Rattle.mbdc_io.specs.Stream.{Puts}
use Rattle.mbdc_io.specs.declared.stream.IoFault.{IoFault}
use Rattle.mbdc_io.specs.declared.stream.Sink.{Ghosts as SinkGhosts}
use Rattle.mbdc_io.proofs.Pieces.{puts-both, puts-none}
use Rattle.dc_sectors.specs.declared.device.Disk.{Ghosts}
use Rattle.mbdc_change.specs.State.{State}
use Rattle.dc_readout.specs.Summary.{Summary}
use Rattle.dc_core.specs.Lines.{requests_on, NoMoreRequests}
use Rattle.dc_core.specs.Core.{opened}
use Rattle.dc_core.specs.Event.{Event, Answer}
use Rattle.dc_core.specs.Images.{Machine, IsAt}
use Rattle.dc_core.specs.Transcript.{Turn, leads, IsChain}
use Rattle.dc_core.specs.declared.fault.HearFault.{HearFault}
use Rattle.dc_core.specs.declared.fault.HearFault.TheVariants.{NoLine, Idle, Full, NoMemory, PendingFull, Stopped}
use Rattle.dc_core.specs.declared.line_heard.LineHeard.{LineHeard}
use Rattle.dc_poller.specs.Run.{run_of}
use Rattle.dc_poller.specs.Link.{Link, linked, lost, link_by, loss_line, loss_text, IsHeardOver}
use Rattle.dc_poller.specs.Poll.{Happening, does, talks, loses, Due, to_start, to_send, to_hear, Phase, IsDueEvent, IsWay, behind, behind_turn, turns_of, exchanges_of, told_text, happening_text, happened_turns, happened_exchanges, happened_text, behind_first_heard, is_over}
use Rattle.mbdc_bus.specs.Limits.{most_answer}
use Rattle.mbdc_bus.specs.Bus.{AreExchanged, Exchange}
use Rattle.mbdc_bus.proofs.Exchanges.{exchanged-both, exchanged-one}
use Rattle.dc_poller.specs.Way.{Way, FailsInLast, Spends}
use Rattle.dc_core.specs.Went.{Went, TurnWent}
use Rattle.dc_core.proofs.Wents.{went_both, went_chain, went_at}

way_append : (line : ℕ) (moment : ℕ) (meter : Identity) (phase mid last : Phase) (one more : List Happening) → IsWay line moment meter phase one mid → IsWay line moment meter mid more last → IsWay line moment meter phase (one ++ more) last
way_append line moment meter phase mid last [] more front back = subst (λ (p : Phase). IsWay line moment meter p more last) front back
way_append line moment meter phase mid last (h ∷ one) more front back = (front.0, way_append line moment meter (behind phase h) mid last one more front.1 back)

turns_append : (one more : List Happening) → happened_turns (one ++ more) ≡ happened_turns one ++ happened_turns more
turns_append [] more = refl
turns_append (h ∷ one) more = ap (λ (x : List Turn). turns_of h ++ x) (turns_append one more) ∙ sym (append_assoc (turns_of h) (happened_turns one) (happened_turns more))

text_append : (one more : List Happening) → happened_text (one ++ more) ≡ happened_text one ++ happened_text more
text_append [] more = refl
text_append (h ∷ one) more = ap (λ (x : List ℕ). happening_text h ++ x) (text_append one more) ∙ sym (append_assoc (happening_text h) (happened_text one) (happened_text more))

pub exchanges_append : (one more : List Happening) → happened_exchanges (one ++ more) ≡ happened_exchanges one ++ happened_exchanges more
exchanges_append [] more = refl
exchanges_append (h ∷ one) more = ap (λ (x : List Exchange). exchanges_of h ++ x) (exchanges_append one more) ∙ sym (append_assoc (exchanges_of h) (happened_exchanges one) (happened_exchanges more))

-- ---- an exchange

is_false : Bool → Type 0
is_false true = ⊥
is_false false = Unit {0}

absurd_bool : {A : Type 0} → false ≡ true → A
unfolding is_false
absurd_bool e = absurd (subst is_false e tt)

-- what happens over one: the bus is lost, or not
abbrev pub exchange_happening : Bool → Bool → Exchange → List Happening
exchange_happening false true exchange = talks exchange ∷ loses ∷ []
exchange_happening false false exchange = talks exchange ∷ []
exchange_happening true is exchange = talks exchange ∷ []

pub exchange_is_one : (was is : Bool) (exchange : Exchange) → happened_exchanges (exchange_happening was is exchange) ≡ exchange ∷ []
exchange_is_one false true exchange = refl
exchange_is_one false false exchange = refl
exchange_is_one true is exchange = refl

pub loss_in : (was is : Bool) (exchange : Exchange) → (was ≡ true → is ≡ true) → happened_text (exchange_happening was is exchange) ≡ loss_text (link_by was) (link_by is)
loss_in false true exchange stays = append-nil (loss_line)
loss_in false false exchange stays = refl
loss_in true true exchange stays = refl
loss_in true false exchange stays = absurd_bool (stays refl)

-- ---- what is due

pub is_full : (answer : Result LineHeard HearFault) (fault : HearFault) → answer ≡ Err fault → fault ≡ PendingFull → answer ≡ Err PendingFull
is_full answer fault is full = is ∙ ap (λ (f : HearFault). Err f) full

-- after another fault nothing is due
pub behind_other : (bytes : List ℕ) (fault : HearFault) → ¬ (fault ≡ PendingFull) → behind_first_heard bytes (Err fault) ≡ is_over
behind_other bytes NoLine other = refl
behind_other bytes Idle other = refl
behind_other bytes Full other = refl
behind_other bytes NoMemory other = refl
behind_other bytes PendingFull other = absurd (other refl)
behind_other bytes Stopped other = refl

-- what happened over one exchange, and then over others or none
pub exchanged_over : {G : Type 0} (asks : G → List ℕ → List ℕ → G → Type 0) (old new : G) (was is : Bool) (request answer : List ℕ) (one more : List Happening)
    → one ≡ exchange_happening was is (record { request = request; answer = answer }) → happened_exchanges more ≡ [] → asks old request answer new → AreExchanged asks old (happened_exchanges (one ++ more)) new
exchanged_over asks old new was is request answer one more same none asked =
    let e : Exchange = record { request = request; answer = answer } in
    let are : happened_exchanges (one ++ more) ≡ e ∷ [] =
    exchanges_append one more ∙ ap (λ (xs : List Exchange). xs ++ happened_exchanges more) (ap happened_exchanges same ∙ exchange_is_one was is e) ∙ ap (λ (xs : List Exchange). (e ∷ []) ++ xs) none in
    subst (λ (xs : List Exchange). AreExchanged asks old xs new) (sym are) (exchanged-one asks old new request answer asked)

pub exchanged_alone : {G : Type 0} (asks : G → List ℕ → List ℕ → G → Type 0) (old new : G) (was is : Bool) (request answer : List ℕ) (one : List Happening)
    → one ≡ exchange_happening was is (record { request = request; answer = answer }) → asks old request answer new → AreExchanged asks old (happened_exchanges one) new
exchanged_alone asks old new was is request answer one same asked =
    subst (λ (xs : List Exchange). AreExchanged asks old xs new) (sym (ap happened_exchanges same ∙ exchange_is_one was is (record { request = request; answer = answer }))) (exchanged-one asks old new request answer asked)

pub exchanged_after : {G : Type 0} (asks : G → List ℕ → List ℕ → G → Type 0) (old mid new : G) (one more : List Happening) → AreExchanged asks old (happened_exchanges one) mid → AreExchanged asks mid (happened_exchanges more) new
    → AreExchanged asks old (happened_exchanges (one ++ more)) new
exchanged_after asks old mid new one more first then =
    subst (λ (xs : List Exchange). AreExchanged asks old xs new) (sym (exchanges_append one more)) (exchanged-both asks old mid new (happened_exchanges one) (happened_exchanges more) first then)

-- any bus may be silent
pub silence_over : (is : Bool) → IsHeardOver (link_by is) []
silence_over true = refl
silence_over false = tt

-- ---- where a write fails

module _ {W : Type 0} (sink : SinkGhosts W) where
  -- over the one thing that happened
  pub fails_in_one : (old new : W) (h : Happening) → HasRisen (sink.put_failures old) (sink.put_failures new) → FailsInLast sink old new (h ∷ [])
  fails_in_one old new h failed = record { front = []; last = h; parts = refl; between = old; text = puts-none (sink.written old); well = refl; failed = failed }

  -- after others
  pub fails_after : (old mid new : W) (one more : List Happening) → Puts (sink.written old) (sink.written mid) (happened_text one) → sink.put_failures mid ≡ sink.put_failures old → FailsInLast sink mid new more → FailsInLast sink old new (one ++ more)
  fails_after old mid new one more wrote well so = record {
    front = one ++ so.front;
    last = so.last;
    parts = ap (λ (x : List Happening). one ++ x) so.parts ∙ sym (append_assoc one so.front (so.last ∷ []));
    between = so.between;
    text = subst (Puts (sink.written old) (sink.written so.between)) (sym (text_append one so.front)) (puts-both (sink.written old) (sink.written mid) (sink.written so.between) (happened_text one) (happened_text so.front) wrote so.text);
    well = so.well ∙ well;
    failed = so.failed;
  }

  -- over the loss of the bus
  pub loss_fails : (old new : W) (was is : Bool) (exchange : Exchange) (happened : List Happening) → was ≡ false → is ≡ true → happened ≡ exchange_happening was is exchange
      → HasRisen (sink.put_failures old) (sink.put_failures new) → FailsInLast sink old new happened
  loss_fails old new false true exchange happened linked_before lost_after same failed =
      subst (FailsInLast sink old new) (sym same) (fails_after old old new (talks exchange ∷ []) (loses ∷ []) (puts-none (sink.written old)) refl (fails_in_one old new loses failed))
  loss_fails old new false false exchange happened linked_before lost_after same failed = absurd_bool lost_after
  loss_fails old new true is exchange happened linked_before lost_after same failed = absurd_bool (sym linked_before)

  pub if_fails_after : {X E : Type 0} (result : Result X E) (old mid new : W) (one more : List Happening) → Puts (sink.written old) (sink.written mid) (happened_text one) → sink.put_failures mid ≡ sink.put_failures old
      → OnErr result (FailsInLast sink mid new more) → OnErr result (FailsInLast sink old new (one ++ more))
  if_fails_after (Ok x) old mid new one more wrote well so = tt
  if_fails_after (Err e) old mid new one more wrote well so = fails_after old mid new one more wrote well so

  -- after one turn
  pub if_fails_later : {X E : Type 0} (result : Result X E) (old mid new : W) (turn : Turn) (more : List Happening) → Puts (sink.written old) (sink.written mid) (told_text turn.1) → sink.put_failures mid ≡ sink.put_failures old
      → OnErr result (FailsInLast sink mid new more) → OnErr result (FailsInLast sink old new (does turn ∷ more))
  if_fails_later result old mid new turn more wrote well so =
      if_fails_after result old mid new (does turn ∷ []) more (subst (Puts (sink.written old) (sink.written mid)) (sym (append-nil (told_text turn.1))) wrote) well so

-- ---- requests that are left

-- a round that has spent one, and what came before or after it
pub spends_then : (result : Result Bool IoFault) (line : ℕ) (old mid new : List (Option Summary)) → requests_on line mid < requests_on line old → NoMoreRequests mid new → Spends result line old new
spends_then (Ok more) line old mid new less no_more = λ on. let rest = no_more line in omega (arith, less, rest)
spends_then (Err fault) line old mid new less no_more = tt

pub then_spends : (result : Result Bool IoFault) (line : ℕ) (old mid new : List (Option Summary)) → NoMoreRequests old mid → Spends result line mid new → Spends result line old new
then_spends (Ok more) line old mid new no_more spends = λ on. let less = spends on in let rest = no_more line in omega (arith, less, rest)
then_spends (Err fault) line old mid new no_more spends = tt

module _ {D : Type 0} (g : Ghosts D) (origin : D) where
  pub way_chain : (budget : ℕ) (state : State) (before : List Turn) (line : ℕ) (moment : ℕ) (meter : Identity) (phase : Phase) (ends : List Happening → Phase → Type 0) (wrote : List ℕ → Type 0) (first new : Machine D)
      → (way : Way g (run_of origin budget state before first new) line moment meter phase ends wrote) → IsChain budget (opened state) (before ++ happened_turns way.happened)
  way_chain budget state before line moment meter phase ends wrote first new way = went_chain g origin budget state before (happened_turns way.happened) first new way.went

  pub way_at : (budget : ℕ) (state : State) (before : List Turn) (line : ℕ) (moment : ℕ) (meter : Identity) (phase : Phase) (ends : List Happening → Phase → Type 0) (wrote : List ℕ → Type 0) (first new : Machine D)
      → (way : Way g (run_of origin budget state before first new) line moment meter phase ends wrote) → IsAt g origin new (leads (opened state) (before ++ happened_turns way.happened))
  way_at budget state before line moment meter phase ends wrote first new way = went_at g origin budget state before (happened_turns way.happened) first new way.went

  -- nothing happens
  pub way_none : (budget : ℕ) (state : State) (before : List Turn) (line : ℕ) (moment : ℕ) (meter : Identity) (phase : Phase) (ends : List Happening → Phase → Type 0) (wrote : List ℕ → Type 0) (machine : Machine D)
      → Went g origin budget state before [] machine machine → ends [] phase → wrote []
      → Way g (run_of origin budget state before machine machine) line moment meter phase ends wrote
  way_none budget state before line moment meter phase ends wrote machine went ends_so text = record { happened = []; last = phase; way = refl; ends_so = ends_so; went = went; text = text }

  -- one turn
  pub way_turn : (budget : ℕ) (state : State) (before : List Turn) (line : ℕ) (moment : ℕ) (meter : Identity) (due : Due) (link : Link) (event : Event) (such : Answer → Type 0) (ends : List Happening → Phase → Type 0) (wrote : List ℕ → Type 0) (first new : Machine D)
      → IsDueEvent line moment meter due event
      → (one : TurnWent g origin budget state before event such first new)
      → ((answer : Answer) → such answer → ends (does (event, answer) ∷ []) (record { due = behind_turn due event answer; link = link }))
      → ((answer : Answer) → such answer → wrote (told_text answer))
      → Way g (run_of origin budget state before first new) line moment meter (record { due = due; link = link }) ends wrote
  way_turn budget state before line moment meter due link event such ends wrote first new is_due one ends_so text =
      record {
        happened = does (event, one.answer) ∷ [];
        last = record { due = behind_turn due event one.answer; link = link };
        way = (is_due, refl);
        ends_so = ends_so one.answer one.is_such;
        went = one.went;
        text = subst wrote (sym (append-nil (told_text one.answer))) (text one.answer one.is_such);
      }

  -- and then more
  pub way_both : (budget : ℕ) (state : State) (before : List Turn) (line : ℕ) (moment : ℕ) (meter : Identity) (phase : Phase) (mid : Phase) (ends then_ends all_ends : List Happening → Phase → Type 0) (wrote then_wrote all : List ℕ → Type 0) (first old new : Machine D)
      → (one : Way g (run_of origin budget state before first old) line moment meter phase ends wrote) → one.last ≡ mid
      → Way g (run_of origin budget state (before ++ happened_turns one.happened) old new) line moment meter mid then_ends then_wrote
      → ((more : List Happening) (last : Phase) → then_ends more last → all_ends (one.happened ++ more) last)
      → ((text more : List ℕ) → wrote text → then_wrote more → all (text ++ more))
      → Way g (run_of origin budget state before first new) line moment meter phase all_ends all
  way_both budget state before line moment meter phase mid ends then_ends all_ends wrote then_wrote all first old new one is more ends_so joins =
      record {
        happened = one.happened ++ more.happened;
        last = more.last;
        way = way_append line moment meter phase one.last more.last one.happened more.happened one.way (subst (λ (p : Phase). IsWay line moment meter p more.happened more.last) (sym is) more.way);
        ends_so = ends_so more.happened more.last more.ends_so;
        went = subst (λ (ts : List Turn). Went g origin budget state before ts first new) (sym (turns_append one.happened more.happened))
            (went_both g origin budget state before (happened_turns one.happened) (happened_turns more.happened) first old new one.went more.went);
        text = subst all (sym (text_append one.happened more.happened)) (joins (happened_text one.happened) (happened_text more.happened) one.text more.text);
      }

  -- the same, and less is said of it
  pub way_as : (budget : ℕ) (state : State) (before : List Turn) (line : ℕ) (moment : ℕ) (meter : Identity) (phase : Phase) (ends other_ends : List Happening → Phase → Type 0) (wrote other : List ℕ → Type 0) (first new : Machine D)
      → Way g (run_of origin budget state before first new) line moment meter phase ends wrote
      → ((happened : List Happening) (last : Phase) → ends happened last → other_ends happened last)
      → ((text : List ℕ) → wrote text → other text)
      → Way g (run_of origin budget state before first new) line moment meter phase other_ends other
  way_as budget state before line moment meter phase ends other_ends wrote other first new way ends_so goes =
      record { happened = way.happened; last = way.last; way = way.way; ends_so = ends_so way.happened way.last way.ends_so; went = way.went; text = goes (happened_text way.happened) way.text }

  -- and then what a call does
  pub way_then : (budget : ℕ) (state : State) (before : List Turn) (line : ℕ) (moment : ℕ) (meter : Identity) (phase mid : Phase) (ends then_ends all_ends : List Happening → Phase → Type 0) (wrote then_wrote all : List ℕ → Type 0) (first old new : Machine D)
      → (one : Way g (run_of origin budget state before first old) line moment meter phase ends wrote) → one.last ≡ mid → old.house.budget ≡ budget
      → ((behind : List Turn) → IsChain old.house.budget (opened state) behind → IsAt g origin old (leads (opened state) behind) → Way g (run_of origin old.house.budget state behind old new) line moment meter mid then_ends then_wrote)
      → ((more : List Happening) (last : Phase) → then_ends more last → all_ends (one.happened ++ more) last)
      → ((text more : List ℕ) → wrote text → then_wrote more → all (text ++ more))
      → Way g (run_of origin budget state before first new) line moment meter phase all_ends all
  way_then budget state before line moment meter phase mid ends then_ends all_ends wrote then_wrote all first old new one is same next_way ends_so joins =
      let turns = happened_turns one.happened in
      way_both budget state before line moment meter phase mid ends then_ends all_ends wrote then_wrote all first old new one is
      (subst (λ (b : ℕ). Way g (run_of origin b state (before ++ turns) old new) line moment meter mid then_ends then_wrote) same
      (next_way (before ++ turns) (subst (λ (b : ℕ). IsChain b (opened state) (before ++ turns)) (sym same) (way_chain budget state before line moment meter phase ends wrote first old one))
      (way_at budget state before line moment meter phase ends wrote first old one)))
      ends_so joins

  -- a turn, and then what a call does
  pub turn_then : (budget : ℕ) (state : State) (before : List Turn) (line : ℕ) (moment : ℕ) (meter : Identity) (due : Due) (link : Link) (event : Event) (such : Answer → Type 0) (told : Answer) (then_ends ends : List Happening → Phase → Type 0) (then_wrote wrote : List ℕ → Type 0) (first old new : Machine D)
      → IsDueEvent line moment meter due event
      → TurnWent g origin budget state before event such first old → ((answer : Answer) → such answer → answer ≡ told) → old.house.budget ≡ budget
      → ((behind : List Turn) → IsChain old.house.budget (opened state) behind → IsAt g origin old (leads (opened state) behind)
      → Way g (run_of origin old.house.budget state behind old new) line moment meter (record { due = behind_turn due event told; link = link }) then_ends then_wrote)
      → ((more : List Happening) (last : Phase) → then_ends more last → ends (does (event, told) ∷ more) last)
      → ((more : List ℕ) → then_wrote more → wrote (told_text told ++ more))
      → Way g (run_of origin budget state before first new) line moment meter (record { due = due; link = link }) ends wrote
  turn_then budget state before line moment meter due link event such told then_ends ends then_wrote wrote first old new is_due turn is same next_way ends_so joins =
      let mid : Phase = record { due = behind_turn due event told; link = link } in
      let one = way_turn budget state before line moment meter due link event such (λ happened last. (happened ≡ does (event, told) ∷ []) × (last ≡ mid)) (λ text. text ≡ told_text told) first old is_due turn
      (λ answer s. (ap (λ (a : Answer). does (event, a) ∷ []) (is answer s), ap (λ (a : Answer). record { due = behind_turn due event a; link = link }) (is answer s)))
      (λ answer s. ap told_text (is answer s)) in
      way_then budget state before line moment meter (record { due = due; link = link }) mid _ then_ends ends (λ text. text ≡ told_text told) then_wrote wrote first old new one one.ends_so.1 same next_way
      (λ more last e. subst (λ (h : List Happening). ends (h ++ more) last) (sym one.ends_so.0) (ends_so more last e))
      (λ text more t m. subst (λ (x : List ℕ). wrote (x ++ more)) (sym t) (joins more m))

  -- An exchange over the bus, which may be lost over it.
  pub way_exchange : (budget : ℕ) (state : State) (before : List Turn) (line : ℕ) (moment : ℕ) (meter : Identity) (was is : Bool) (request answer : List ℕ) (wrote : List ℕ → Type 0) (machine : Machine D)
      → Went g origin budget state before [] machine machine → (was ≡ true → is ≡ true) → length answer ≤ most_answer → IsHeardOver (link_by is) answer → wrote (loss_text (link_by was) (link_by is))
      → Way g (run_of origin budget state before machine machine) line moment meter (record { due = to_send request; link = link_by was }) (λ happened last. (happened ≡ exchange_happening was is (record { request = request; answer = answer })) × (last ≡ record { due = to_hear answer; link = link_by is })) wrote
  way_exchange budget state before line moment meter false false request answer wrote machine went stays short over text =
      record { happened = talks (record { request = request; answer = answer }) ∷ []; last = record { due = to_hear answer; link = linked }; way = ((refl, short, tt), refl); ends_so = (refl, refl); went = went; text = text }
  way_exchange budget state before line moment meter true true request answer wrote machine went stays short over text =
      record { happened = talks (record { request = request; answer = answer }) ∷ []; last = record { due = to_hear answer; link = lost }; way = ((refl, short, over), refl); ends_so = (refl, refl); went = went; text = text }
  way_exchange budget state before line moment meter false true request answer wrote machine went stays short over text =
      record {
        happened = talks (record { request = request; answer = answer }) ∷ loses ∷ [];
        last = record { due = to_hear answer; link = lost };
        way = ((refl, short, tt), ((refl, over), refl));
        ends_so = (refl, refl);
        went = went;
        text = subst wrote (sym (append-nil (loss_line))) text;
      }
  way_exchange budget state before line moment meter true false request answer wrote machine went stays short over text = absurd_bool (stays refl)

  -- a turn, and no more
  pub turn_last : (budget : ℕ) (state : State) (before : List Turn) (line : ℕ) (moment : ℕ) (meter : Identity) (due : Due) (link : Link) (event : Event) (such : Answer → Type 0) (told : Answer) (ends : List Happening → Phase → Type 0) (wrote : List ℕ → Type 0) (first new : Machine D)
      → IsDueEvent line moment meter due event
      → TurnWent g origin budget state before event such first new → ((answer : Answer) → such answer → answer ≡ told)
      → ends (does (event, told) ∷ []) (record { due = behind_turn due event told; link = link }) → wrote (told_text told)
      → Way g (run_of origin budget state before first new) line moment meter (record { due = due; link = link }) ends wrote
  turn_last budget state before line moment meter due link event such told ends wrote first new is_due turn is ends_so text =
      way_turn budget state before line moment meter due link event such ends wrote first new is_due turn
      (λ answer s. subst (λ (a : Answer). ends (does (event, a) ∷ []) (record { due = behind_turn due event a; link = link })) (sym (is answer s)) ends_so)
      (λ answer s. subst (λ (a : Answer). wrote (told_text a)) (sym (is answer s)) text)
