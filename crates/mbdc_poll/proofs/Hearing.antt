-- Answers that find room among the pending telegrams.
use Rattle.std.proofs.Common.{◌≡◌, ℕ, ◌+◌, ◌<◌, inl, inr, Bool, List, [], ◌∷◌, ◌++◌, Result, Ok, Err, length, set, get_or, refl, sym, subst}
use Rattle.std.specs.List.{All}
use Rattle.std.proofs.lemmas.List.Elements.{All-nil, All-cons, All-append}
use Rattle.dc_core.specs.Event.{commits, committed, hears, heard}
use Rattle.dc_core.specs.Transcript.{Turn}
use Rattle.dc_core.specs.declared.fault.HearFault.{HearFault}
use Rattle.dc_core.specs.declared.line_heard.LineHeard.{LineHeard}
use Rattle.dc_core.specs.declared.line_heard.LineHeard.TheVariants.{Again, Ready, Accepted, Failed}
use Rattle.mbdc_poll.specs.Bus.{Bus}
use Rattle.mbdc_poll.specs.Happening.{Happening, does, happened_turns}
use Rattle.mbdc_poll.specs.Keeping.{AllFindRoom, AreHeard, IsHearing, is_accepted, most_pending, waiting_after}
use Rattle.mbdc_poll.specs.Round.{AllSteps, HearsOne, IsRoom, LineGoes, and_accepted}
use Rattle.mbdc_poll.specs.declared.station.Station.{Station}
use Rattle.mbdc_poll.proofs.Happenings.{turns_append}
use Rattle.mbdc_poll.proofs.Queues.{off_line, on_line, steps_both, steps_none, steps_one, turns_both}
use Rattle.mbdc_poll.proofs.Rounds.{rounds_step}

room_both : (first mid last : ℕ) (turns more : List Turn) → AllFindRoom first turns mid → AllFindRoom mid more last → AllFindRoom first (turns ++ more) last
room_both first mid last [] more a b = subst (λ (n : ℕ). AllFindRoom n more last) (sym a) b
room_both first mid last (turn ∷ turns) more a b = (a.0, room_both (waiting_after first turn.1) mid last turns more a.1 b)

pub heard_none : (moment : ℕ) → AreHeard moment 0 []
heard_none moment = record { are_hearing = All-nil (IsHearing moment); find_room = refl }

heard_then : (moment waiting now : ℕ) (turns next : List Turn) → AreHeard moment waiting turns → All (IsHearing moment) next → AllFindRoom waiting next now → AreHeard moment now (turns ++ next)
heard_then moment waiting now turns next a hearing room = record {
  are_hearing = All-append (IsHearing moment) turns next a.are_hearing hearing;
  find_room = room_both 0 waiting now turns next a.find_room room;
}

-- ---- a commit, where one was due

room_heard : (moment waiting now : ℕ) (turns : List Turn) → IsRoom waiting (Ok now) turns → All (IsHearing moment) turns
room_heard moment waiting now turns (inl none) = subst (λ (ts : List Turn). All (IsHearing moment) ts) (sym none.0) (All-nil (IsHearing moment))
room_heard moment waiting now turns (inr one) = subst (λ (ts : List Turn). All (IsHearing moment) ts) (sym one.0.1) (All-cons (IsHearing moment) (commits, committed (Ok one.0.0)) [] tt (All-nil (IsHearing moment)))

room_found : (waiting now : ℕ) (turns : List Turn) → IsRoom waiting (Ok now) turns → AllFindRoom waiting turns now
room_found waiting now turns (inl none) = subst (λ (ts : List Turn). AllFindRoom waiting ts now) (sym none.0) (sym none.1)
room_found waiting now turns (inr one) = subst (λ (ts : List Turn). AllFindRoom waiting ts now) (sym one.0.1) (tt, sym one.1)

pub room_made : (moment waiting now : ℕ) (turns next : List Turn) → AreHeard moment waiting turns → IsRoom waiting (Ok now) next → AreHeard moment now (turns ++ next)
room_made moment waiting now turns next a is = heard_then moment waiting now turns next a (room_heard moment waiting now next is) (room_found waiting now next is)

-- ---- an answer on one line

waits_by : (waiting : ℕ) (answer : Result LineHeard HearFault) → waiting_after waiting (heard answer) ≡ and_accepted waiting (is_accepted answer)
waits_by waiting (Ok Again) = refl
waits_by waiting (Ok Ready) = refl
waits_by waiting (Ok (Accepted number more)) = refl
waits_by waiting (Ok (Failed why)) = refl
waits_by waiting (Err fault) = refl

module _ {B : Type 0} {g : Bus B} where
  pub hears_none : (tries line moment : ℕ) (old new : Station B) → LineGoes g tries line old new [] → (accepted : Bool) → accepted ≡ is_accepted (Ok Again) → HearsOne g tries line moment accepted old new []
  hears_none tries line moment old new goes accepted is = record {
    steps = steps_none tries line (IsHearing moment) old new goes;
    finds_room = λ waiting few. subst (λ (b : Bool). waiting ≡ and_accepted waiting b) (sym is) refl;
  }

  pub hears_both : (tries line moment : ℕ) (accepted : Bool) (old mid new : Station B) (happened : List Happening) → LineGoes g tries line old mid [] → HearsOne g tries line moment accepted mid new happened → HearsOne g tries line moment accepted old new happened
  hears_both tries line moment accepted old mid new happened goes b = record {
    steps = steps_both tries line (IsHearing moment) old mid new [] happened (steps_none tries line (IsHearing moment) old mid goes) b.steps;
    finds_room = b.finds_room;
  }

  pub hears_one : (tries line moment : ℕ) (bytes : List ℕ) (answer : Result LineHeard HearFault) (accepted : Bool) (old new : Station B) (happened : List Happening) → happened ≡ does (hears line moment bytes, heard answer) ∷ [] → accepted ≡ is_accepted answer
      → LineGoes g tries line old new (does (hears line moment bytes, heard answer) ∷ []) → HearsOne g tries line moment accepted old new happened
  hears_one tries line moment bytes answer accepted old new happened same is goes = record {
    steps = steps_one tries line (IsHearing moment) old new (hears line moment bytes) (heard answer) happened same (on_line line) (λ other not. off_line line other not) refl goes;
    finds_room = λ waiting few. subst (λ (hs : List Happening). AllFindRoom waiting (happened_turns hs) (and_accepted waiting accepted)) (sym same)
        (few, subst (λ (b : Bool). waiting_after waiting (heard answer) ≡ and_accepted waiting b) (sym is) (waits_by waiting answer));
  }

  -- ---- on all lines, one after the other

  pub all_heard : (tries at moment waiting : ℕ) (accepted : Bool) (olds mids : List (Station B)) (new : Station B) (happened more : List Happening) → length mids ≡ length olds → at < length mids → waiting < most_pending → AllSteps g tries (AreHeard moment waiting) olds mids happened
      → ((d : Station B) → HearsOne g tries (at + 1) moment accepted (get_or mids at d) new more) → AllSteps g tries (AreHeard moment (and_accepted waiting accepted)) olds (set mids at new) (happened ++ more)
  all_heard tries at moment waiting accepted olds mids new happened more same within few a one = record {
    rounds = rounds_step tries at olds mids new happened more same within a.rounds (λ d. (one d).steps.moves);
    are_such = subst (AreHeard moment (and_accepted waiting accepted)) (sym (turns_append happened more))
        (heard_then moment waiting (and_accepted waiting accepted) (happened_turns happened) (happened_turns more) a.are_such (one new).steps.are_such ((one new).finds_room waiting few));
    are_turns = turns_both happened more a.are_turns (one new).steps.are_turns;
  }
