-- What is told of a line after a commit.
use Rattle.std.proofs.Common.{◌≡◌, ◌≢◌, ℕ, ◌+◌, ◌≤◌, Bool, true, false, List, [], ◌∷◌, ◌++◌, Result, Ok, Err, length, take, drop, refl, ap, sym, subst, ◌∙◌, arith}
use Rattle.std.specs.Prelude.{OnOk}
use Rattle.mbdc_change.specs.State.{State}
use Rattle.dc_core.specs.Core.{Core, present}
use Rattle.dc_core.specs.Transcript.{Turn, leads}
use Rattle.mbdc_poll.specs.Telling.{TakesAll}
use Rattle.mbdc_poll.specs.Bus.{Bus}
use Rattle.mbdc_poll.specs.Happening.{Happening, does, tells, happened_events, happened_turns, reads_in, failures_in}
use Rattle.mbdc_poll.specs.declared.event.Event.{Event as Told}
use Rattle.mbdc_poll.specs.declared.event.Event.TheVariants.{Lost as is_lost}
use Rattle.mbdc_poll.specs.Keeping.{Store, IsNewest, AreTrue}
use Rattle.mbdc_poll.specs.Queue.{part, Goes, IsToldAs, stays, is_told, loses_it}
use Rattle.mbdc_poll.specs.Talking.{Talks, rests, tells_it, loses_it as talk_loses_it}
use Rattle.mbdc_poll.specs.Missed.{HasBrought}
use Rattle.mbdc_poll.specs.Round.{LineGoes, Moves, AreTold, told_of, counted}
use Rattle.mbdc_poll.specs.Station.{IsSoundIn, IsSound, rounds_in, rounds_of}
use Rattle.mbdc_poll.specs.declared.brought.Brought.{Brought}
use Rattle.mbdc_poll.specs.declared.end.End.{End}
use Rattle.mbdc_poll.specs.declared.end.End.TheVariants.{Read, Failed, Refused}
use Rattle.mbdc_poll.specs.declared.outcome.Counts.{Counts}
use Rattle.mbdc_poll.specs.declared.phase.Phase.{Phase}
use Rattle.mbdc_poll.specs.declared.phase.Phase.TheVariants.{Free, Busy, Pending, Over}
use Rattle.mbdc_poll.specs.declared.phase.Request.{Request}
use Rattle.mbdc_poll.specs.declared.station.Station.{Station}
use Rattle.mbdc_poll.proofs.Missing.{brings_told}
use Rattle.mbdc_poll.proofs.Happenings.{turns_append, events_append, reads_append, failures_append}
use Rattle.mbdc_poll.proofs.Queues.{line_stays, told_on, told_off}

-- ---- an end

told_as : (state : State) (line : ℕ) (brought : Brought) (end : End) → IsToldAs end (told_of state line brought end)
told_as state line brought (Read meter) = (_, _, _, refl)
told_as state line brought (Failed meter why) = (_, _, refl)
told_as state line brought (Refused meter refusal) = refl

has_brought : (state : State) (line : ℕ) (brought : Brought) (end : End) → HasBrought line brought (told_of state line brought end)
has_brought state line brought (Read meter) = tt
has_brought state line brought (Failed meter why) = (refl, refl)
has_brought state line brought (Refused meter refusal) = tt

newest_told : (state : State) (line : ℕ) (brought : Brought) (end : End) → IsNewest state (told_of state line brought end)
newest_told state line brought (Read meter) = (refl, refl, refl)
newest_told state line brought (Failed meter why) = tt
newest_told state line brought (Refused meter refusal) = tt

no_loss : (state : State) (line : ℕ) (brought : Brought) (end : End) → told_of state line brought end ≢ is_lost line
no_loss state line brought (Read meter) e = absurd cc
no_loss state line brought (Failed meter why) e = absurd cc
no_loss state line brought (Refused meter refusal) e = absurd cc

read_counted : (state : State) (line : ℕ) (brought : Brought) (end : End) (was : Counts) → (counted end was).read ≡ was.read + reads_in (tells line (told_of state line brought end) ∷ [])
read_counted state line brought (Read meter) was = omega arith
read_counted state line brought (Failed meter why) was = omega arith
read_counted state line brought (Refused meter refusal) was = omega arith

failed_counted : (state : State) (line : ℕ) (brought : Brought) (end : End) (was : Counts) → (counted end was).failed ≡ was.failed + failures_in (tells line (told_of state line brought end) ∷ [])
failed_counted state line brought (Read meter) was = omega arith
failed_counted state line brought (Failed meter why) was = omega arith
failed_counted state line brought (Refused meter refusal) was = omega arith

pub few_counted : (end : End) (was : Counts) → (counted end was).read + (counted end was).failed ≤ was.read + was.failed + 1
few_counted (Read meter) was = omega arith
few_counted (Failed meter why) was = omega arith
few_counted (Refused meter refusal) was = omega arith

-- ---- nothing, and one thing after the other

module _ {N : Type 0} (takes : N → Told → N → Type 0) where
  pub takes_none : (teller : N) → TakesAll takes teller teller []
  takes_none teller = refl

  pub takes_one : (old new : N) (event : Told) → takes old event new → TakesAll takes old new (event ∷ [])
  takes_one old new event took = (new, took, refl)

  pub takes_both : (old mid new : N) (first more : List Told) → TakesAll takes old mid first → TakesAll takes mid new more → TakesAll takes old new (first ++ more)
  takes_both old mid new [] more same b = subst (λ (n : N). TakesAll takes n new more) same b
  takes_both old mid new (event ∷ first) more (next, took, a) b = (next, took, takes_both next mid new first more a b)

  pub told_none : (out : N) (outcome : Counts) (core : Core) → AreTold (TakesAll takes out out) outcome outcome core []
  told_none out outcome core = record { events = takes_none out; no_turns = refl; are_true = λ store settled. tt; read = omega arith; failed = omega arith }

  true_both : (core : Core) (store : Store) (happened more : List Happening) → happened_turns happened ≡ [] → AreTrue core store happened → AreTrue core store more → AreTrue core store (happened ++ more)
  true_both core store [] more none a b = b
  true_both core store (does turn ∷ happened) more none a b = absurd cc
  true_both core store (tells line told ∷ happened) more none a b = (a.0, a.1, true_both core store happened more none a.2 b)

  pub told_both : (old mid new : N) (was between now : Counts) (core : Core) (happened more : List Happening) → AreTold (TakesAll takes old mid) was between core happened → AreTold (TakesAll takes mid new) between now core more
      → AreTold (TakesAll takes old new) was now core (happened ++ more)
  told_both old mid new was between now core happened more a b = record {
    events = subst (TakesAll takes old new) (sym (events_append happened more)) (takes_both old mid new (happened_events happened) (happened_events more) a.events b.events);
    no_turns = turns_append happened more ∙ ap (λ (ts : List Turn). ts ++ happened_turns more) a.no_turns ∙ b.no_turns;
    are_true = λ store settled. true_both core store happened more a.no_turns (a.are_true store settled) (b.are_true store settled);
    read = let first = a.read in let second = b.read in let both = reads_append happened more in omega (arith, first, second, both);
    failed = let first = a.failed in let second = b.failed in let both = failures_append happened more in omega (arith, first, second, both);
  }

  pub told_then : (old mid new : N) (was between now : Counts) (core : Core) (happened more : List Happening) → AreTold (TakesAll takes old mid) was between core happened → AreTold (TakesAll takes mid new) between now (leads core (happened_turns happened)) more
      → AreTold (TakesAll takes old new) was now core (happened ++ more)
  told_then old mid new was between now core happened more a b =
      told_both old mid new was between now core happened more a (subst (λ (ts : List Turn). AreTold (TakesAll takes mid new) between now (leads core ts) more) a.no_turns b)

  -- one event
  told_one : (old new : N) (line : ℕ) (told : Told) (was now : Counts) (core : Core) → takes old told new → IsNewest (present core) told
      → now.read ≡ was.read + reads_in (tells line told ∷ []) → now.failed ≡ was.failed + failures_in (tells line told ∷ []) → AreTold (TakesAll takes old new) was now core (tells line told ∷ [])
  told_one old new line told was now core took newest read failed = record {
    events = takes_one old new told took;
    no_turns = refl;
    are_true = λ store settled. (settled, newest, tt);
    read = read;
    failed = failed;
  }

  pub told_end : (old new : N) (line : ℕ) (brought : Brought) (end : End) (was now : Counts) (core : Core) (state : State) → state ≡ present core → takes old (told_of state line brought end) new → now ≡ counted end was
      → AreTold (TakesAll takes old new) was now core (tells line (told_of state line brought end) ∷ [])
  told_end old new line brought end was now core state is put same =
      told_one old new line (told_of state line brought end) was now core put (subst (λ (x : State). IsNewest x (told_of state line brought end)) is (newest_told state line brought end))
      (ap (λ (o : Counts). o.read) same ∙ read_counted state line brought end was) (ap (λ (o : Counts). o.failed) same ∙ failed_counted state line brought end was)

  pub told_loss : (old new : N) (line : ℕ) (was : Counts) (core : Core) → takes old (is_lost line) new → AreTold (TakesAll takes old new) was was core (tells line (is_lost line) ∷ [])
  told_loss old new line was core put = told_one old new line (is_lost line) was was core put tt (omega arith) (omega arith)

module _ {B : Type 0} (g : Bus B) where
  pub moves_none : (tries line : ℕ) (station : Station B) → Moves g tries line station station []
  moves_none tries line station = record { goes = line_stays tries line station; alone = λ other not. refl }

  moves_told : (tries line : ℕ) (told : Told) (old new : Station B) → LineGoes g tries line old new (tells line told ∷ []) → Moves g tries line old new (tells line told ∷ [])
  moves_told tries line told old new goes = record {
    goes = subst (λ (hs : List Happening). LineGoes g tries line old new hs) (sym (told_on line told)) goes;
    alone = λ other not. told_off line other told not;
  }

  pub moves_end : (tries line : ℕ) (state : State) (end : End) (old new : Station B) → old.phase ≡ Over end → new ≡ record old { phase = Free } → Moves g tries line old new (tells line (told_of state line old.brought end) ∷ [])
  moves_end tries line state end old new over kept =
      subst (λ (s : Station B). Moves g tries line old s (tells line (told_of state line old.brought end) ∷ [])) (sym kept)
      (moves_told tries line (told_of state line old.brought end) old (record old { phase = Free }) (record {
        queue = subst (λ (p : Phase). Goes tries line (part (take old.due old.left.now) (drop old.due old.left.now) old.pass p) (tells line (told_of state line old.brought end) ∷ []) (part (take old.due old.left.now) (drop old.due old.left.now) old.pass Free)) (sym over) (is_told (told_as state line old.brought end) stays);
        talk = tells_it (no_loss state line old.brought end) rests;
        brought = brings_told line old.brought (told_of state line old.brought end) (has_brought state line old.brought end);
      }))

  pub moves_loss : (tries line : ℕ) (old new : Station B) → old.said ≡ false → g.lost old.bus ≡ true → new ≡ record old { said = true } → Moves g tries line old new (tells line (is_lost line) ∷ [])
  moves_loss tries line old new not lost kept =
      subst (λ (s : Station B). Moves g tries line old s (tells line (is_lost line) ∷ [])) (sym kept)
      (moves_told tries line (is_lost line) old (record old { said = true }) (record {
        queue = loses_it stays;
        talk = subst (λ (b : Bool). Talks g line (record { bus = old.bus; request = old.request; said = b }) (tells line (is_lost line) ∷ []) (record { bus = old.bus; request = old.request; said = true })) (sym not) (talk_loses_it lost rests);
        brought = brings_told line old.brought (is_lost line) tt;
      }))

  pub sound_told : (tries : ℕ) (end : End) (old new : Station B) → old.phase ≡ Over end → new ≡ record old { phase = Free } → IsSound g tries old → IsSound g tries new
  sound_told tries end old new over kept sound =
      let was = subst (λ (p : Phase). IsSoundIn tries (length old.left.now) old.due old.pass p old.request (g.waits_left old.bus)) over sound in
      subst (λ (s : Station B). IsSound g tries s) (sym kept) was

  pub fewer_told : (tries : ℕ) (end : End) (old new : Station B) → old.phase ≡ Over end → new ≡ record old { phase = Free } → rounds_of g 1 1 1 tries new ≤ rounds_of g 1 1 0 tries old
  fewer_told tries end old new over kept =
      subst (λ (s : Station B). rounds_of g 1 1 1 tries s ≤ rounds_of g 1 1 0 tries old) (sym kept)
      (subst (λ (p : Phase). rounds_in 1 1 1 tries (length old.left.now) old.due old.pass Free old.request (g.waits_left old.bus) ≤ rounds_in 1 1 0 tries (length old.left.now) old.due old.pass p old.request (g.waits_left old.bus)) (sym over) (omega arith))

pub on_ok : {X E : Type 0} (result : Result X E) (P Q : Type 0) → (P → Q) → OnOk result P → OnOk result Q
on_ok (Ok x) P Q goes p = goes p
on_ok (Err e) P Q goes p = tt

over_count : (tries count due pass waits : ℕ) (phase : Phase) (request : Request) → ((end : End) → phase ≡ Over end → ⊥) → rounds_in 1 1 1 tries count due pass phase request waits ≤ rounds_in 1 1 0 tries count due pass phase request waits
over_count tries count due pass waits Free request not = omega arith
over_count tries count due pass waits (Busy n) request not = omega arith
over_count tries count due pass waits (Pending n) request not = omega arith
over_count tries count due pass waits (Over end) request not = absurd (not end refl)

pub fewer_silent : {B : Type 0} (g : Bus B) (tries : ℕ) (s : Station B) → ((end : End) → s.phase ≡ Over end → ⊥) → rounds_of g 1 1 1 tries s ≤ rounds_of g 1 1 0 tries s
fewer_silent g tries s not = over_count tries (length s.left.now) s.due s.pass (g.waits_left s.bus) s.phase s.request not

pub on_any : {X E : Type 0} (result : Result X E) (P : Type 0) → P → OnOk result P
on_any (Ok x) P p = p
on_any (Err e) P p = tt
