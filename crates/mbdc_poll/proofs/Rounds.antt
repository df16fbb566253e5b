-- All lines, one after the other.
use Rattle.std.proofs.Common.{◌≡◌, ◌≢◌, ℕ, zero, suc, ◌+◌, ◌<◌, ◌≤◌, ◌⊎◌, inl, inr, List, [], ◌∷◌, ◌++◌, length, set, get_or, refl, ap, sym, subst, ◌∙◌, arith, append-nil, get_or-set_same, get_or-set_other, length-set}
use Rattle.std.specs.List.{All}
use Rattle.std.proofs.lemmas.Bool.{cases_eq}
use Rattle.std.proofs.lemmas.List.Elements.{All-nil, All-append}
use Rattle.dc_core.specs.Transcript.{Turn}
use Rattle.mbdc_poll.specs.Bus.{Bus}
use Rattle.mbdc_poll.specs.Happening.{Happening, happened_on, happened_turns}
use Rattle.mbdc_poll.specs.Round.{LineGoes, Moves, Steps, Rounds, AllSteps, EachFewer, IsCommitTurn}
use Rattle.mbdc_poll.specs.declared.station.Station.{Station}
use Rattle.mbdc_poll.proofs.Happenings.{on_append, turns_append}
use Rattle.mbdc_poll.proofs.Queues.{line_stays, line_both, turns_both}

below_or : (k n : ℕ) → (k < n) ⊎ (n ≤ k)
below_or zero zero = inr (omega arith)
below_or zero (suc n) = inl (omega arith)
below_or (suc k) zero = inr (omega arith)
below_or (suc k) (suc n) = elim (below_or k n) [ inl under ↦ inl (omega (arith, under)) | inr over ↦ inr (omega (arith, over)) ]

-- the default doesn't matter within a list
pub get_or_any : {X : Type 0} (xs : List X) (i : ℕ) (d e : X) → i < length xs → get_or xs i d ≡ get_or xs i e
get_or_any [] i d e within = absurd (omega arith)
get_or_any (x ∷ xs) zero d e within = refl
get_or_any (x ∷ xs) (suc i) d e within = get_or_any xs i d e (omega arith)

module _ {B : Type 0} {g : Bus B} where
  pub rounds_none : (tries : ℕ) (stations : List (Station B)) → Rounds g tries stations stations []
  rounds_none tries stations = record { goes = λ k d below. line_stays tries (k + 1) (get_or stations k d); alone = λ other past. All-nil IsCommitTurn }

  pub rounds_both : (tries : ℕ) (olds mids news : List (Station B)) (happened more : List Happening) → length mids ≡ length olds → Rounds g tries olds mids happened → Rounds g tries mids news more → Rounds g tries olds news (happened ++ more)
  rounds_both tries olds mids news happened more same a b = record {
    goes = λ k d below. subst (λ (xs : List Happening). LineGoes g tries (k + 1) (get_or olds k d) (get_or news k d) xs)
        (sym (on_append (k + 1) happened more)) (line_both (a.goes k d below) (b.goes k d (omega (arith, same, below))));
    alone = λ other past. subst (λ (xs : List Happening). All IsCommitTurn xs) (sym (on_append other happened more))
        (All-append IsCommitTurn (happened_on other happened) (happened_on other more) (a.alone other past) (b.alone other (λ k below. past k (omega (arith, same, below)))));
  }

  -- one line goes on
  pub rounds_step : (tries at : ℕ) (olds mids : List (Station B)) (new : Station B) (happened more : List Happening) → length mids ≡ length olds → at < length mids → Rounds g tries olds mids happened
      → ((d : Station B) → Moves g tries (at + 1) (get_or mids at d) new more) → Rounds g tries olds (set mids at new) (happened ++ more)
  rounds_step tries at olds mids new happened more same within a moves = record {
    goes = λ k d below. by_place k d below (cases_eq k at);
    alone = λ other past. subst (λ (xs : List Happening). All IsCommitTurn xs) (sym (on_append other happened more ∙ ap (λ (xs : List Happening). happened_on other happened ++ xs) ((moves new).alone other (past at (omega (arith, same, within)))) ∙ append-nil (happened_on other happened))) (a.alone other past);
  }
    where
      by_place : (k : ℕ) (d : Station B) → k < length olds → ((k ≡ at) ⊎ (k ≢ at)) → LineGoes g tries (k + 1) (get_or olds k d) (get_or (set mids at new) k d) (happened_on (k + 1) (happened ++ more))
      by_place k d below (inl here) =
          let is_new : get_or (set mids at new) k d ≡ new = ap (λ (n : ℕ). get_or (set mids at new) n d) here ∙ get_or-set_same mids at new d within in
          let one : LineGoes g tries (k + 1) (get_or mids k d) new (happened_on (k + 1) more) =
          subst (λ (n : ℕ). LineGoes g tries (n + 1) (get_or mids n d) new (happened_on (n + 1) more)) (sym here) (moves d).goes in
          subst (λ (s : Station B). LineGoes g tries (k + 1) (get_or olds k d) s (happened_on (k + 1) (happened ++ more))) (sym is_new)
          (subst (λ (xs : List Happening). LineGoes g tries (k + 1) (get_or olds k d) new xs) (sym (on_append (k + 1) happened more)) (line_both (a.goes k d below) one))
      by_place k d below (inr there) =
          let is_old : get_or (set mids at new) k d ≡ get_or mids k d = get_or-set_other mids at k new d there in
          let none : happened_on (k + 1) more ≡ [] = (moves new).alone (k + 1) (λ e. there (omega (arith, e))) in
          subst (λ (s : Station B). LineGoes g tries (k + 1) (get_or olds k d) s (happened_on (k + 1) (happened ++ more))) (sym is_old)
          (subst (λ (xs : List Happening). LineGoes g tries (k + 1) (get_or olds k d) (get_or mids k d) xs)
          (sym (on_append (k + 1) happened more ∙ ap (λ (xs : List Happening). happened_on (k + 1) happened ++ xs) none ∙ append-nil (happened_on (k + 1) happened))) (a.goes k d below))

  -- ---- turns on all lines

  pub all_none : (tries : ℕ) (such : List Turn → Type 0) (stations : List (Station B)) → such [] → AllSteps g tries such stations stations []
  all_none tries such stations is = record { rounds = rounds_none tries stations; are_such = is; are_turns = tt }

  pub all_as : (tries : ℕ) (one such : List Turn → Type 0) (olds news : List (Station B)) (happened : List Happening) → AllSteps g tries one olds news happened → ((turns : List Turn) → one turns → such turns) → AllSteps g tries such olds news happened
  all_as tries one such olds news happened a goes = record { rounds = a.rounds; are_such = goes (happened_turns happened) a.are_such; are_turns = a.are_turns }

  pub all_then : (tries : ℕ) (one two such : List Turn → Type 0) (olds mids news : List (Station B)) (happened more : List Happening) → length mids ≡ length olds → AllSteps g tries one olds mids happened → AllSteps g tries two mids news more
      → ((turns next : List Turn) → one turns → two next → such (turns ++ next)) → AllSteps g tries such olds news (happened ++ more)
  all_then tries one two such olds mids news happened more same a b joins = record {
    rounds = rounds_both tries olds mids news happened more same a.rounds b.rounds;
    are_such = subst such (sym (turns_append happened more)) (joins (happened_turns happened) (happened_turns more) a.are_such b.are_such);
    are_turns = turns_both happened more a.are_turns b.are_turns;
  }

  pub all_step : (tries at : ℕ) (such : Turn → Type 0) (olds mids : List (Station B)) (new : Station B) (happened more : List Happening) → length mids ≡ length olds → at < length mids → AllSteps g tries (All such) olds mids happened
      → ((d : Station B) → Steps g tries (at + 1) such (get_or mids at d) new more) → AllSteps g tries (All such) olds (set mids at new) (happened ++ more)
  all_step tries at such olds mids new happened more same within a steps = record {
    rounds = rounds_step tries at olds mids new happened more same within a.rounds (λ d. (steps d).moves);
    are_such = subst (λ (ts : List Turn). All such ts) (sym (turns_append happened more)) (All-append such (happened_turns happened) (happened_turns more) a.are_such (steps new).are_such);
    are_turns = turns_both happened more a.are_turns (steps new).are_turns;
  }

module _ {B : Type 0} where
  -- ---- what holds of each line

  pub all_set : (P : Station B → Type 0) (stations : List (Station B)) (at : ℕ) (new : Station B) → at < length stations → All P stations → P new → All P (set stations at new)
  all_set P stations at new within all has k d below = by_place (cases_eq k at)
    where
      by_place : ((k ≡ at) ⊎ (k ≢ at)) → P (get_or (set stations at new) k d)
      by_place (inl here) = subst P (sym (ap (λ (n : ℕ). get_or (set stations at new) n d) here ∙ get_or-set_same stations at new d within)) has
      by_place (inr there) = subst P (sym (get_or-set_other stations at k new d there)) (all k d (omega (arith, below, length-set {A = Station B})))

  -- ---- what becomes of each, one after the other

  -- the ones below this place became so, and the others are as they were
  pub record Becomes (one : Station B → Station B → Type 0) (at : ℕ) (olds news : List (Station B)) : Type 0 where
    pub below : (k : ℕ) (d : Station B) → k < at → one (get_or olds k d) (get_or news k d)
    pub same : (k : ℕ) (d : Station B) → at ≤ k → get_or news k d ≡ get_or olds k d

  pub becomes_none : (one : Station B → Station B → Type 0) (stations : List (Station B)) → Becomes one 0 stations stations
  becomes_none one stations = record { below = λ k d less. absurd (omega arith); same = λ k d more. refl }

  pub becomes_step : (one : Station B → Station B → Type 0) (at : ℕ) (olds mids : List (Station B)) (new : Station B) → at < length mids → Becomes one at olds mids → ((d : Station B) → one (get_or mids at d) new) → Becomes one (at + 1) olds (set mids at new)
  becomes_step one at olds mids new within was now = record { below = λ k d less. by_place k d less (cases_eq k at); same = λ k d more. get_or-set_other mids at k new d (λ e. omega (arith, more, e)) ∙ was.same k d (omega arith) }
    where
      lower : (k : ℕ) → k < at + 1 → k ≢ at → k < at
      lower k less there = elim (below_or k at) [ inl under ↦ under | inr over ↦ absurd (there (omega (arith, over, less))) ]

      by_place : (k : ℕ) (d : Station B) → k < at + 1 → ((k ≡ at) ⊎ (k ≢ at)) → one (get_or olds k d) (get_or (set mids at new) k d)
      by_place k d less (inl here) =
          subst (λ (n : ℕ). one (get_or olds n d) (get_or (set mids at new) n d)) (sym here)
          (subst (λ (s : Station B). one (get_or olds at d) s) (sym (get_or-set_same mids at new d within))
          (subst (λ (s : Station B). one s new) (was.same at d (omega arith)) (now d)))
      by_place k d less (inr there) = subst (λ (s : Station B). one (get_or olds k d) s) (sym (get_or-set_other mids at k new d there)) (was.below k d (lower k less there))

  pub becomes_all : (one : Station B → Station B → Type 0) (olds news : List (Station B)) (at : ℕ) → length olds ≤ at → Becomes one at olds news → (k : ℕ) (d : Station B) → k < length olds → one (get_or olds k d) (get_or news k d)
  becomes_all one olds news at all was k d below = was.below k d (omega (arith, all, below))

  -- ---- how many rounds it takes, where a commit may come between

  pub record Falls (before behind : Station B → ℕ) (at : ℕ) (olds news : List (Station B)) : Type 0 where
    pub below : (k : ℕ) (d : Station B) → k < at → k < length olds → behind (get_or news k d) ≤ before (get_or olds k d)
    pub above : (k : ℕ) (d : Station B) → at ≤ k → k < length olds → before (get_or news k d) ≤ before (get_or olds k d)

  pub falls_none : (before behind : Station B → ℕ) (stations : List (Station B)) → Falls before behind 0 stations stations
  falls_none before behind stations = record { below = λ k d less within. absurd (omega (arith, less)); above = λ k d more within. omega arith }

  pub falls_then : (before behind : Station B → ℕ) (at : ℕ) (olds mids news : List (Station B)) → length mids ≡ length olds → Falls before behind at olds mids → EachFewer before before 0 mids news → EachFewer behind behind 0 mids news → Falls before behind at olds news
  falls_then before behind at olds mids news same falls one two = record {
    below = λ k d less within. let first = falls.below k d less within in let more = two k d (omega (arith, same, within)) in omega (arith, first, more);
    above = λ k d over within. let first = falls.above k d over within in let more = one k d (omega (arith, same, within)) in omega (arith, first, more);
  }

  pub falls_step : (before behind : Station B → ℕ) (at : ℕ) (olds mids : List (Station B)) (new : Station B) → length mids ≡ length olds → at < length mids → Falls before behind at olds mids → ((d : Station B) → behind new ≤ before (get_or mids at d)) → Falls before behind (at + 1) olds (set mids at new)
  falls_step before behind at olds mids new same within falls now = record {
    below = λ k d less inside. by_place k d less inside (cases_eq k at);
    above = λ k d over inside. subst (λ (s : Station B). before s ≤ before (get_or olds k d)) (sym (get_or-set_other mids at k new d (λ e. omega (arith, over, e)))) (falls.above k d (omega (arith, over)) inside);
  }
    where
      lower : (k : ℕ) → k < at + 1 → k ≢ at → k < at
      lower k less there = elim (below_or k at) [ inl under ↦ under | inr over ↦ absurd (there (omega (arith, over, less))) ]

      by_place : (k : ℕ) (d : Station B) → k < at + 1 → k < length olds → ((k ≡ at) ⊎ (k ≢ at)) → behind (get_or (set mids at new) k d) ≤ before (get_or olds k d)
      by_place k d less inside (inl here) =
          let first = falls.above at d (omega arith) (omega (arith, same, within)) in
          let step = now d in
          subst (λ (n : ℕ). behind (get_or (set mids at new) n d) ≤ before (get_or olds n d)) (sym here)
          (subst (λ (s : Station B). behind s ≤ before (get_or olds at d)) (sym (get_or-set_same mids at new d within)) (omega (arith, first, step)))
      by_place k d less inside (inr there) = subst (λ (s : Station B). behind s ≤ before (get_or olds k d)) (sym (get_or-set_other mids at k new d there)) (falls.below k d (lower k less there) inside)

  pub falls_all : (before behind : Station B → ℕ) (olds news : List (Station B)) (at : ℕ) → length olds ≤ at → Falls before behind at olds news → EachFewer before behind 0 olds news
  falls_all before behind olds news at all falls k d within = let less = falls.below k d (omega (arith, all, within)) within in omega (arith, less)

  pub fewer_both : (before between behind : Station B → ℕ) (one two : ℕ) (olds mids news : List (Station B)) → length mids ≡ length olds → EachFewer before between one olds mids → EachFewer between behind two mids news → EachFewer before behind (one + two) olds news
  fewer_both before between behind one two olds mids news same a b k d below = let first = a k d below in let second = b k d (omega (arith, same, below)) in omega (arith, first, second)
