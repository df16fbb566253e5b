-- Turns that were run, one after the other.
use Rattle.std.proofs.Common.{◌≡◌, ◌≤◌, ℕ, List, [], ◌∷◌, ◌++◌, length, get_or, refl, ap, sym, subst, ◌∙◌, arith, append_assoc, length-append}
use Rattle.std.specs.Prelude.{map}
use Rattle.std.proofs.lemmas.List.{take-append-le}
use Rattle.dc_sectors.specs.Disk.{Image, IsImage}
use Rattle.dc_sectors.specs.declared.device.Disk.{Ghosts}
use Rattle.dc_sectors.specs.Runs.{LeavesOnly}
use Rattle.dc_sectors.proofs.Moments.{followed}
use Rattle.mbdc_change.specs.State.{State}
use Rattle.mbdc_change.specs.declared.change.Change.{Change}
use Rattle.mbdc_log.specs.Halves.{half_of, half_len_of}
use Rattle.dc_core.specs.Core.{Core, opened}
use Rattle.dc_core.specs.Event.{Event, Answer}
use Rattle.dc_core.specs.Step.{next}
use Rattle.dc_core.specs.Transcript.{Turn, leads, IsChain, accepted_by, accepted_in}
use Rattle.dc_core.specs.Promised.{promised_in, HoldsFront}
use Rattle.dc_core.specs.Known.{KnowsItsMeters}
use Rattle.dc_core.specs.Images.{Machine, IsAt, StandsForPromised}
use Rattle.dc_core.specs.Text.{answer_text, run_text}
use Rattle.dc_core.specs.Run.{Turned, DidAll, Ran}
use Rattle.dc_core.proofs.Going.{leads_append, did_both, ran_none, one_turn}
use Rattle.dc_core.specs.Went.{Went, TurnWent}

-- ---- what two runs leave, one after the other

accepted_append : (core : Core) (turns more : List Turn) → accepted_in core (turns ++ more) ≡ accepted_in core turns ++ accepted_in (leads core turns) more
accepted_append core [] more = refl
accepted_append core (t ∷ turns) more =
    ap (λ (x : List Change). accepted_by core t.0 t.1 ++ x) (accepted_append (next core t.0 t.1) turns more)
    ∙ sym (append_assoc (accepted_by core t.0 t.1) (accepted_in (next core t.0 t.1) turns) (accepted_in (leads (next core t.0 t.1) turns) more))

grown : (half_len : ℕ) (state : State) (promised : ℕ) (changes more : List Change) (image : Image) → StandsForPromised half_len state promised changes image → StandsForPromised half_len state promised (changes ++ more) image
grown half_len state promised changes more image stands =
    let within = stands.front.within in
    record {
      front = record { count = stands.front.count; within = omega (arith, within, length-append changes more); stands = rw take-append-le stands.front.stands };
      all_promised = stands.all_promised;
    }

fewer : (half_len : ℕ) (state : State) (few promised : ℕ) (changes : List Change) (image : Image) → few ≤ promised → StandsForPromised half_len state promised changes image → StandsForPromised half_len state few changes image
fewer half_len state few promised changes image less stands = let all = stands.all_promised in record { front = stands.front; all_promised = omega (arith, less, all) }

-- the one turn of one event
one_of : (turns : List Turn) (event : Event) → map (λ (t : Turn). t.0) turns ≡ event ∷ [] → (answer : Answer) × (turns ≡ (event, answer) ∷ [])
one_of [] event e = let counted = ap length e in absurd (omega (arith, counted))
one_of (t ∷ []) event e = (t.1, ap (λ (x : Event). (x, t.1) ∷ []) (ap (λ (es : List Event). get_or es 0 event) e))
one_of (t ∷ u ∷ more) event e = let counted = ap length e in absurd (omega (arith, counted))

module _ {D : Type 0} (g : Ghosts D) (origin : D) where
  -- the concentrator is where they lead
  pub went_chain : (budget : ℕ) (state : State) (before turns : List Turn) (first new : Machine D) → Went g origin budget state before turns first new → IsChain budget (opened state) (before ++ turns)
  went_chain budget state before turns first new went = subst (λ (ts : List Turn). IsChain budget (opened state) (before ++ ts)) went.turns_are went.ran.chain

  pub went_at : (budget : ℕ) (state : State) (before turns : List Turn) (first new : Machine D) → Went g origin budget state before turns first new → IsAt g origin new (leads (opened state) (before ++ turns))
  went_at budget state before turns first new went = subst (λ (ts : List Turn). IsAt g origin new (leads (opened state) (before ++ ts))) went.turns_are went.ran.at

  -- no turn
  no_turns_are : (turns : List Turn) → map (λ (t : Turn). t.0) turns ≡ [] → turns ≡ []
  no_turns_are [] e = refl
  no_turns_are (t ∷ turns) e = let counted = ap length e in absurd (omega (arith, counted))

  pub went_none : (budget : ℕ) (state : State) (before : List Turn) (machine : Machine D) → IsChain budget (opened state) before → IsAt g origin machine (leads (opened state) before)
      → (g.keeps origin → (image : Image) → g.images_since machine.store.disk (g.moment machine.store.disk) image → IsImage (g.choices machine.store.disk) image)
      → Went g origin budget state before [] machine machine
  went_none budget state before machine chain at only =
      let ran = ran_none g origin budget state before (λ text. Unit {0}) machine chain at only tt in
      record { ran = ran; turns_are = no_turns_are ran.turns ran.events_are }

  -- one turn
  pub turn_went : (budget : ℕ) (state : State) (before : List Turn) (event : Event) (such : Answer → Type 0) (piece : List ℕ → Type 0) (old new : Machine D)
      → IsChain budget (opened state) before → IsAt g origin old (leads (opened state) before)
      → (g.keeps origin → (image : Image) → g.images_since old.store.disk (g.moment old.store.disk) image → IsImage (g.choices old.store.disk) image)
      → (turned : Turned g origin budget (leads (opened state) before) event piece old new) → g.sectors new.store.disk ≡ g.sectors old.store.disk
      → such turned.answer → TurnWent g origin budget state before event such old new
  turn_went budget state before event such piece old new chain at only turned count is_such =
      let ran = one_turn g origin budget state before event piece old new chain at only turned count in
      record { answer = turned.answer; is_such = is_such; went = record { ran = ran.0; turns_are = ran.1 } }

  -- a run of one event is its turn
  pub event_went : (budget : ℕ) (state : State) (before : List Turn) (event : Event) (such : Answer → Type 0) (wrote : List ℕ → Type 0) (first new : Machine D)
      → (ran : Ran g origin budget state before (event ∷ []) wrote first new)
      → ((answer : Answer) → wrote (answer_text answer ++ []) → such answer)
      → TurnWent g origin budget state before event such first new
  event_went budget state before event such wrote first new ran goes =
      let one = one_of ran.turns event ran.events_are in
      record {
        answer = one.0;
        is_such = goes one.0 (subst (λ (ts : List Turn). wrote (run_text ts)) one.1 ran.text);
        went = record {
          ran = record {
            turns = ran.turns;
            events_are = ran.events_are;
            steps = ran.steps;
            chain = ran.chain;
            text = tt;
            at = ran.at;
            holds = ran.holds;
            knows = ran.knows;
            count = ran.count;
            kept = ran.kept;
            leaves = ran.leaves;
            behind = ran.behind;
          };
          turns_are = one.1;
        };
      }

  both_ran : (budget : ℕ) (state : State) (before : List Turn) (events more : List Event) (first old new : Machine D)
      → (a : Ran g origin budget state before events (λ text. Unit {0}) first old)
      → (one : Ran g origin budget state (before ++ a.turns) more (λ text. Unit {0}) old new)
      → Went g origin budget state before (a.turns ++ one.turns) first new
  both_ran budget state before events more first old new a one =
      let e : (before ++ a.turns) ++ one.turns ≡ before ++ (a.turns ++ one.turns) = append_assoc before a.turns one.turns in
      let H = half_of g first.store.disk in
      let past = before ++ a.turns in
      let accepted = accepted_in (opened state) (past ++ one.turns) in
      let same_size = a.count in
      let a_kept = a.kept in
      let kept = one.kept in
      record {
        ran = record {
          turns = a.turns ++ one.turns;
          events_are = refl;
          steps = did_both g origin budget (leads (opened state) before) a.turns one.turns first old new a.steps
              (subst (λ (c : Core). DidAll g origin budget c one.turns old new) (leads_append (opened state) before a.turns) one.steps);
          chain = subst (IsChain budget (opened state)) e one.chain;
          text = tt;
          at = subst (λ (ts : List Turn). IsAt g origin new (leads (opened state) ts)) e one.at;
          holds = subst (λ (ts : List Turn). HoldsFront state ts (leads (opened state) ts)) e one.holds;
          knows = subst (λ (ts : List Turn). KnowsItsMeters budget (leads (opened state) ts)) e one.knows;
          count = one.count ∙ a.count;
          kept = subst (λ (ts : List Turn). promised_in before ≤ promised_in ts) e (omega (arith, a_kept, kept));
          leaves = λ h. subst (λ (ts : List Turn). LeavesOnly g first.store.disk new.store.disk (StandsForPromised H state (promised_in before) (accepted_in (opened state) ts))) e
              (followed g first.store.disk old.store.disk new.store.disk
              (StandsForPromised H state (promised_in before) (accepted_in (opened state) past)) (StandsForPromised (half_of g old.store.disk) state (promised_in past) accepted) (StandsForPromised H state (promised_in before) accepted)
              (a.leaves h) (one.leaves h)
              (λ image stands. subst (λ (x : List Change). StandsForPromised H state (promised_in before) x image) (sym (accepted_append (opened state) past one.turns))
              (grown H state (promised_in before) (accepted_in (opened state) past) (accepted_in (leads (opened state) past) one.turns) image stands))
              (λ image stands. fewer H state (promised_in before) (promised_in past) accepted image a_kept
              (subst (λ (n : ℕ). StandsForPromised (half_len_of n) state (promised_in past) accepted image) same_size stands)));
          behind = λ h image is. subst (λ (ts : List Turn). StandsForPromised H state (promised_in ts) (accepted_in (opened state) ts) image) e
              (subst (λ (n : ℕ). StandsForPromised (half_len_of n) state (promised_in (past ++ one.turns)) accepted image) same_size (one.behind h image is));
        };
        turns_are = refl;
      }

  -- some turns, and then others
  pub went_both : (budget : ℕ) (state : State) (before one more : List Turn) (first old new : Machine D)
      → Went g origin budget state before one first old → Went g origin budget state (before ++ one) more old new
      → Went g origin budget state before (one ++ more) first new
  went_both budget state before one more first old new p q =
      let behind = subst (λ (ts : List Turn). Went g origin budget state (before ++ ts) more old new) (sym p.turns_are) q in
      let both = both_ran budget state before (map (λ (t : Turn). t.0) one) (map (λ (t : Turn). t.0) more) first old new p.ran behind.ran in
      subst (λ (ts : List Turn). Went g origin budget state before ts first new)
      (ap (λ (ts : List Turn). ts ++ behind.ran.turns) p.turns_are ∙ ap (λ (ts : List Turn). one ++ ts) behind.turns_are) both
