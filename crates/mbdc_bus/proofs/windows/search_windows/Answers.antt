use Rattle.std.proofs.Common.{◌≡◌, ◌⊎◌, inl, inr, ◌<◌, ℕ, Bool, false, List, [], Option, Some, None, Result, Ok, Err, ap, sym, ◌∙◌, subst, refl, arith}
use Rattle.std.specs.Prelude.{IfSome, option_map}
use Rattle.std.specs.Result.{OnOk, is_err}
use Rattle.std.proofs.lemmas.Grind.{common_steps}
use Rattle.dc_address.specs.declared.identity.Identity.{Identity}
use Rattle.dc_linkframe.specs.Frame.{spelling}
use Rattle.dc_search.specs.Request.{request_by}
use Rattle.dc_search.specs.State.{SearchState, after, rounds_left, step_of}
use Rattle.dc_search.specs.declared.step.Step.{Step}
use Rattle.dc_search.specs.declared.step.Step.TheVariants.{Request}
use Rattle.dc_search.proofs.Rounds.{rounds_left-after}
use Rattle.mbdc_bus.specs.Bus.{HasAsked, IsHeard, IsSearched}
use Rattle.mbdc_bus.specs.Windows.{Asking, Questions, are_several}
use Rattle.mbdc_bus.proofs.Asked.{asked_heard, asked_more}
use Rattle.mbdc_bus.proofs.Budgets.{IsWithin, within_step}
use Rattle.mbdc_bus.proofs.Searching.{Searching, busy, one_or_data, searched, searching_step}
use Rattle.mbdc_bus.proofs.windows.search_windows.Goals as goal

unless_err : {T E P : Type 0} (r : Result T E) (b : Bool) → b ≡ is_err r → b ≡ false → OnOk r P → P
unless_err (Ok x) b is not p = p
unless_err (Err e) b is not p = cc

-- what was asked is what the step asks for
asked : (s : SearchState) (step : Step) (request : List ℕ) → step ≡ step_of s → Some request ≡ option_map spelling (request_by step) → option_map spelling (request_by (step_of s)) ≡ Some request
asked s step request is exact = sym (exact ∙ ap (λ (t : Step). option_map spelling (request_by t)) is)

none_of : {X : Type 0} (o : Option X) → ((x : X) → o ≡ Some x → ⊥) → o ≡ None
none_of None not = refl
none_of (Some x) not = absurd (not x refl)

both_told : (several : Bool) (P Q R : List Identity → Type 0) (m0 m1 : Option (List Identity)) → m1 ≡ m0
    → ((x : List Identity) → several ≡ false → P x → Q x → R x) → IfSome m0 (λ x. (several ≡ false) × P x) → (several ≡ false → IfSome m1 Q) → IfSome m0 R
both_told several P Q R None m1 same step p q = tt
both_told several P Q R (Some x) m1 same step p q = step x p.0 p.1 (subst (λ (m : Option (List Identity)). IfSome m Q) same (q p.0))

each_told : (P R : List Identity → Type 0) (m : Option (List Identity)) → ((x : List Identity) → P x → R x) → IfSome m P → IfSome m R
each_told P R None step p = tt
each_told P R (Some x) step p = step x p

-- a bus without meters is silent
nobody_heard : (request : List ℕ) → IsHeard [] [] [] request []
nobody_heard request = record { selects = λ mask is asks. refl; acknowledges = λ mask is asks. refl; keeps = λ asks. refl; responds = λ asks. refl }

still_one : (s : SearchState) (answer : List ℕ) (old new : Bool) → old ≡ false → (step_of s ≡ Request → new ≡ old) → (old ≡ false → are_several answer ≡ false → new ≡ false)
    → (step_of s ≡ Request) ⊎ (are_several answer ≡ false) → new ≡ false
still_one s answer old new is kept one (inl requests) = kept requests ∙ is
still_one s answer old new is kept one (inr single) = one is single

pub steps-smaller : goal.steps-smaller
steps-smaller g c =
    let s : SearchState = c.steps.search in
    let asks = asked s c.next.result c.in-Some.request c.next.ensures c.in-Some.ensures.exact in
    let by = unless_err c.heard.result c.is_err.result c.is_err.ensures.value c.if-is_err.false c.heard.ensures.ok ∙ ap (λ (bytes : List ℕ). after bytes s) c.as_slice.ensures.bytes in
    subst (λ (n : SearchState). rounds_left n < rounds_left s) (sym by) (rounds_left-after c.question-answer.result s (busy s c.in-Some.request asks))

pub steps-preserved : goal.steps-preserved
steps-preserved g c =
    let s : SearchState = c.steps.search in
    let next : SearchState = c.heard.new.self in
    let answer : List ℕ = c.question-answer.result in
    let old : List Identity = g.B.Bus.selected c.steps.bus in
    let new : List Identity = g.B.Bus.selected c.question-answer.new.bus in
    let several : Bool = c.question-answer.new.has_several in
    let budget : ℕ = c.args.budget in
    let asks = asked s c.next.result c.in-Some.request c.next.ensures c.in-Some.ensures.exact in
    let by = unless_err c.heard.result c.is_err.result c.is_err.ensures.value c.if-is_err.false c.heard.ensures.ok ∙ ap (λ (bytes : List ℕ). after bytes s) c.as_slice.ensures.bytes in
    record {
      meters = c.question-answer.ensures.meters ∙ c.steps.invariant.meters;
      within = subst (IsWithin budget) (sym by) (within_step budget answer s c.steps.invariant.within);
      walk = both_told c.steps.has_several (λ told. Searching told budget s old) (λ told. IsHeard told old new c.in-Some.request answer) (λ told. (several ≡ false) × Searching told budget next new)
          (g.B.Bus.meters c.args.bus.now) (g.B.Bus.meters c.steps.bus) c.steps.invariant.meters
          (λ told single searching heard. (
            still_one s answer c.steps.has_several several single c.question-answer.ensures.kept c.question-answer.ensures.one
                (one_or_data told budget s old new c.in-Some.request answer asks searching heard),
            searching_step told budget s next old new c.in-Some.request answer asks searching heard by,
          ))
          c.steps.invariant.walk c.question-answer.ensures.heard;
      asked = subst (HasAsked (Questions g.B.Bus.asks_all) budget (record { bus = c.args.bus.now; has_several = false }) (record { bus = c.question-answer.new.bus; has_several = several })) (sym by)
          (asked_more (Questions g.B.Bus.asks_all) budget (record { bus = c.args.bus.now; has_several = false }) (record { bus = c.steps.bus; has_several = c.steps.has_several })
          (record { bus = c.question-answer.new.bus; has_several = several }) s c.in-Some.request answer c.steps.invariant.asked asks c.question-answer.ensures.asked);
      silent = λ is.
          let old_is = c.steps.invariant.silent is in
          let still = ap g.B.Bus.lost old_is.0 ∙ is in
          let none = c.question-answer.ensures.silence old_is.1.0 still in (
            c.question-answer.ensures.untouched still ∙ old_is.0,
            (
              c.question-answer.ensures.one old_is.1.0 (ap are_several none),
              searching_step [] budget s next [] [] c.in-Some.request [] asks old_is.1.1 (nobody_heard c.in-Some.request) (by ∙ ap (λ (bytes : List ℕ). after bytes s) none),
            ),
          );
    }

pub returns-then-is_err-clause-stopped : goal.returns-then-is_err-clause-stopped
returns-then-is_err-clause-stopped g c =
    let s : SearchState = c.steps.search in
    let asks = asked s c.next.result c.in-Some.request c.next.ensures c.in-Some.ensures.exact in (
      after c.question-answer.result s,
      record {
        has_several = c.question-answer.new.has_several;
        asked = asked_more (Questions g.B.Bus.asks_all) c.args.budget (record { bus = c.args.bus.now; has_several = false }) (record { bus = c.steps.bus; has_several = c.steps.has_several })
            (record { bus = c.question-answer.new.bus; has_several = c.question-answer.new.has_several }) s c.in-Some.request c.question-answer.result c.steps.invariant.asked asks c.question-answer.ensures.asked;
      },
    )

pub returns-clause-heard : goal.returns-clause-heard
returns-clause-heard g c =
    asked_heard (Questions g.B.Bus.asks_all) c.args.budget (record { bus = c.args.bus.now; has_several = false }) (record { bus = c.steps.bus; has_several = c.steps.has_several }) c.steps.search
    c.steps.invariant.asked

pub returns-clause-nobody : goal.returns-clause-nobody
returns-clause-nobody g c is =
    let s : SearchState = c.steps.search in
    let none = sym (ap (λ (t : Step). option_map spelling (request_by t)) c.next.ensures) ∙ sym c.request.ensures.exact ∙ none_of c.request.result c.in_default.not-Some in
    searched [] c.args.budget s [] none (c.steps.invariant.silent is).1.1

pub returns-clause-walk : goal.returns-clause-walk
returns-clause-walk g c =
    let s : SearchState = c.steps.search in
    let chosen : List Identity = g.B.Bus.selected c.steps.bus in
    let none = sym (ap (λ (t : Step). option_map spelling (request_by t)) c.next.ensures) ∙ sym c.request.ensures.exact ∙ none_of c.request.result c.in_default.not-Some in
    each_told (λ told. (c.steps.has_several ≡ false) × Searching told c.args.budget s chosen) (λ told. IsSearched told c.args.budget s) (g.B.Bus.meters c.args.bus.now)
    (λ told searching. searched told c.args.budget s chosen none searching.1) c.steps.invariant.walk

pub steps-init : goal.steps-init
steps-init g c = grind (arith, common_steps)

pub returns-then-is_err-clause-untouched : goal.returns-then-is_err-clause-untouched
returns-then-is_err-clause-untouched g c = grind (arith, common_steps)
