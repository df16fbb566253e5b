-- A search on a bus that states its meters: what holds before each of its steps.
use Rattle.std.proofs.Common.{◌≡◌, ◌⊎◌, inl, inr, ℕ, ◌+◌, ◌<◌, ◌≤◌, Bool, true, false, List, [], ◌∷◌, Option, Some, None, length, filter, take, nat_lt, not, arith, refl, ap, sym, ◌∙◌, subst}
use Rattle.std.specs.Prelude.{option_map}
use Rattle.std.proofs.lemmas.List.{take_all}
use Rattle.dc_address.specs.Mask.{IsMask, MaskParts, mask_wire, matches}
use Rattle.dc_address.specs.declared.identity.Identity.{Identity}
use Rattle.dc_linkframe.specs.Control.{request_to, selected, selection_by}
use Rattle.dc_linkframe.specs.Frame.{FrameSeen, ack, spelling}
use Rattle.dc_linkframe.specs.Reading.{frame_of}
use Rattle.dc_linkframe.proofs.Spellings.{frame_of-spelling}
use Rattle.dc_search.specs.Bus.{visited}
use Rattle.dc_search.specs.Request.{request_by}
use Rattle.dc_search.specs.State.{SearchState, after, after_step, is_idle, new_search, step_by, step_of}
use Rattle.dc_search.specs.Walk.{FindsAll, found_of, shared_of, walk_of}
use Rattle.dc_search.specs.declared.step.Step.{Step}
use Rattle.dc_search.specs.declared.step.Step.TheVariants.{Select, Request, Done, Budget}
use Rattle.dc_search.proofs.Sweeps.{AreShort, Swept, SweptOut, counted, due_select, heard_byte, heard_more, heard_one, swept_more, swept_new, swept_out}
use Rattle.dc_search.proofs.Walks.{walk_finds_all}
use Rattle.mbdc_bus.specs.Bus.{Acknowledge, IsHeard, IsSearched, Respond}
use Rattle.mbdc_bus.specs.Windows.{are_several, is_one}
use Rattle.mbdc_bus.proofs.Digits.{AreDecimal, decimal_visited, is_mask}

-- the selections so far are a prefix of the walk
pub record Calm (meters : List Identity) (budget : ℕ) (s : SearchState) : Type 0 where
  pub so : Swept meters budget s
  pub decimal : AreDecimal s.due

-- meters acknowledged a selection, and are asked for their data next
pub record Asked (meters : List Identity) (budget : ℕ) (s : SearchState) (chosen : List Identity) : Type 0 where
  pub before : SearchState
  pub mask : MaskParts
  pub step : step_of before ≡ Select mask
  pub calm : Calm meters budget before
  pub state : s ≡ counted before
  pub are : chosen ≡ filter (matches mask) meters
  pub some : 0 < length chosen

abbrev pub Searching : List Identity → ℕ → SearchState → List Identity → Type 0
Searching meters budget s chosen = Calm meters budget s ⊎ Asked meters budget s chosen

pub searching_new : (meters : List Identity) (budget : ℕ) (chosen : List Identity) → Searching meters budget (new_search budget) chosen
searching_new meters budget chosen = inl (record { so = swept_new meters budget; decimal = (refl, tt) })

abbrev request_at : Step → Option (List ℕ)
request_at step = option_map spelling (request_by step)

some_is : {X : Type 0} (x y : X) → Some x ≡ Some y → x ≡ y
some_is x y e = cc

-- ---- a selection

selected_mask : (meters : List Identity) (budget : ℕ) (s : SearchState) (mask : MaskParts) → step_of s ≡ Select mask → Calm meters budget s → IsMask mask
selected_mask meters budget s mask is calm =
    let due = due_select s mask is in
    let short : AreShort (due.0 ∷ due.1) = subst AreShort due.2 calm.so.short in
    let decimal : AreDecimal (due.0 ∷ due.1) = subst AreDecimal due.2 calm.decimal in
    subst IsMask (sym due.4) (is_mask due.0 short.0 decimal.0)

made : (meters : List Identity) (budget : ℕ) (s next : SearchState) (mask : MaskParts) (matching : List Identity) → step_of s ≡ Select mask → Calm meters budget s
    → matching ≡ filter (matches mask) meters → next ≡ visited matching s → Calm meters budget next
made meters budget s next mask matching is calm are by =
    let due = due_select s mask is in
    subst (Calm meters budget) (sym by) (record {
      so = swept_more meters budget s due.0 due.1 matching due.2 due.3 (are ∙ ap (λ (m : MaskParts). filter (matches m) meters) due.4) calm.so;
      decimal = decimal_visited matching s calm.decimal;
    })

silent : (s : SearchState) (mask : MaskParts) → step_of s ≡ Select mask → after [] s ≡ visited [] s
silent s mask is = ap (λ (step : Step). after_step step [] s) is

pub selection : (meters : List Identity) (budget : ℕ) (s next : SearchState) (mask : MaskParts) (chosen : List Identity) (answer : List ℕ) → step_of s ≡ Select mask → Calm meters budget s
    → chosen ≡ filter (matches mask) meters → Acknowledge chosen answer → next ≡ after answer s → Searching meters budget next chosen
selection meters budget s next mask [] answer is calm are heard by =
    inl (made meters budget s next mask [] is calm are (by ∙ ap (λ (bytes : List ℕ). after bytes s) heard ∙ silent s mask is))
selection meters budget s next mask (meter ∷ more) answer is calm are heard by =
    inr (record {
      before = s;
      mask = mask;
      step = is;
      calm = calm;
      state = by ∙ ap (λ (bytes : List ℕ). after bytes s) heard ∙ heard_byte s mask 0xE5 is;
      are = are;
      some = omega arith;
    })

-- ---- a request for data

pub asked_step : (before : SearchState) (mask : MaskParts) → step_of before ≡ Select mask → step_of (counted before) ≡ Request
asked_step before mask is = let due = due_select before mask is in ap (λ (ds : List (List ℕ)). step_by ds true (nat_lt (before.selections + 1) before.budget)) due.2

pub response : (meters : List Identity) (budget : ℕ) (before next : SearchState) (mask : MaskParts) (chosen : List Identity) (answer : List ℕ) → step_of before ≡ Select mask → Calm meters budget before
    → chosen ≡ filter (matches mask) meters → 0 < length chosen → Respond chosen answer → next ≡ after answer (counted before) → Calm meters budget next
response meters budget before next mask [] answer is calm are some heard by = absurd (omega (arith, some))
response meters budget before next mask (meter ∷ []) answer is calm are some heard by =
    made meters budget before next mask (filter (matches mask) meters) is calm refl (by ∙ heard_one before mask meters meter answer is (sym are) heard)
response meters budget before next mask (meter ∷ other ∷ more) answer is calm are some heard by =
    made meters budget before next mask (meter ∷ other ∷ more) is calm are (by ∙ heard_more before mask (meter ∷ other ∷ more) answer is (omega arith) heard)

-- ---- one step

pub no_data : (due : List (List ℕ)) (answered left : Bool) → answered ≡ false → step_by due answered left ≡ Request → ⊥
no_data [] answered left calm is = cc
no_data (digits ∷ rest) true left calm is = cc
no_data (digits ∷ rest) false true calm is = cc
no_data (digits ∷ rest) false false calm is = cc

calm_step : (meters : List Identity) (budget : ℕ) (s next : SearchState) (old new : List Identity) (request answer : List ℕ) (step : Step) → step_of s ≡ step → request_at step ≡ Some request
    → Calm meters budget s → IsHeard meters old new request answer → next ≡ after answer s → Searching meters budget next new
calm_step meters budget s next old new request answer (Select mask) is asks calm heard by =
    let right : request ≡ spelling (selection_by (mask_wire mask)) = sym (some_is _ _ asks) in
    let mask_is = selected_mask meters budget s mask is calm in
    selection meters budget s next mask new answer is calm (heard.selects mask mask_is right) (heard.acknowledges mask mask_is right) by
calm_step meters budget s next old new request answer Request is asks calm heard by = absurd (no_data s.due s.answered (nat_lt s.selections s.budget) calm.so.calm is)
calm_step meters budget s next old new request answer Done is asks calm heard by = cc
calm_step meters budget s next old new request answer Budget is asks calm heard by = cc

pub searching_step : (meters : List Identity) (budget : ℕ) (s next : SearchState) (old new : List Identity) (request answer : List ℕ) → request_at (step_of s) ≡ Some request
    → Searching meters budget s old → IsHeard meters old new request answer → next ≡ after answer s → Searching meters budget next new
searching_step meters budget s next old new request answer asks (inl calm) heard by = calm_step meters budget s next old new request answer (step_of s) refl asks calm heard by
searching_step meters budget s next old new request answer asks (inr asked) heard by =
    let step : step_of s ≡ Request = ap step_of asked.state ∙ asked_step asked.before asked.mask asked.step in
    let right : request ≡ spelling (request_to true selected) = sym (some_is _ _ (sym (ap request_at step) ∙ asks)) in
    inl (response meters budget asked.before next asked.mask old answer asked.step asked.calm asked.are asked.some (heard.responds right) (by ∙ ap (after answer) asked.state))

-- where a selection is due, bytes that come to it are one acknowledgement
one_ack : (chosen : List Identity) (answer : List ℕ) → Acknowledge chosen answer → are_several answer ≡ false
one_ack [] answer heard = ap are_several heard
one_ack (meter ∷ more) answer heard = ap are_several heard ∙ ap (λ (f : Option FrameSeen). not (is_one f)) (frame_of-spelling ack)

no_selection_now : (step : Step) (mask : MaskParts) → step ≡ Select mask → step ≡ Request → ⊥
no_selection_now step mask is asks = cc

one_by : (meters : List Identity) (budget : ℕ) (s : SearchState) (old new : List Identity) (request answer : List ℕ) (step : Step) → step_of s ≡ step → request_at step ≡ Some request
    → Searching meters budget s old → IsHeard meters old new request answer → (step_of s ≡ Request) ⊎ (are_several answer ≡ false)
one_by meters budget s old new request answer (Select mask) is asks (inl calm) heard =
    inr (one_ack new answer (heard.acknowledges mask (selected_mask meters budget s mask is calm) (sym (some_is _ _ asks))))
one_by meters budget s old new request answer (Select mask) is asks (inr asked) heard =
    absurd (no_selection_now (step_of s) mask is (ap step_of asked.state ∙ asked_step asked.before asked.mask asked.step))
one_by meters budget s old new request answer Request is asks searching heard = inl is
one_by meters budget s old new request answer Done is asks searching heard = absurd cc
one_by meters budget s old new request answer Budget is asks searching heard = absurd cc

pub one_or_data : (meters : List Identity) (budget : ℕ) (s : SearchState) (old new : List Identity) (request answer : List ℕ) → request_at (step_of s) ≡ Some request → Searching meters budget s old
    → IsHeard meters old new request answer → (step_of s ≡ Request) ⊎ (are_several answer ≡ false)
one_or_data meters budget s old new request answer asks searching heard = one_by meters budget s old new request answer (step_of s) refl asks searching heard

-- ---- the end

whole_walk : (meters found : List Identity) (shared : List ℕ) (budget : ℕ) → found ≡ found_of (take budget (walk_of meters)) → shared ≡ shared_of (take budget (walk_of meters))
    → length (walk_of meters) ≤ budget → FindsAll meters found shared
whole_walk meters found shared budget is_found is_shared fits =
    let all = take_all budget (walk_of meters) fits in
    subst (λ (f : List Identity). FindsAll meters f shared) (sym (is_found ∙ ap found_of all))
    (subst (λ (n : List ℕ). FindsAll meters (found_of (walk_of meters)) n) (sym (is_shared ∙ ap shared_of all)) (walk_finds_all meters))

out : (meters : List Identity) (budget : ℕ) (s : SearchState) → SweptOut meters budget s → IsSearched meters budget s
out meters budget s so = record {
  found = so.found_so;
  shared = so.shared_so;
  selections = so.made;
  step = so.stands;
  whole = whole_walk meters s.found s.shared budget so.found_so so.shared_so;
}

busy_at : (step : Step) (request : List ℕ) → request_at step ≡ Some request → is_idle step ≡ false
busy_at (Select mask) request is = refl
busy_at Request request is = refl
busy_at Done request is = cc
busy_at Budget request is = cc

pub busy : (s : SearchState) (request : List ℕ) → request_at (step_of s) ≡ Some request → is_idle (step_of s) ≡ false
busy s request is = busy_at (step_of s) request is

no_selection : (step : Step) (mask : MaskParts) → request_at step ≡ None → step ≡ Select mask → ⊥
no_selection (Select own) mask none is = cc
no_selection Request mask none is = cc
no_selection Done mask none is = cc
no_selection Budget mask none is = cc

no_asking : (step : Step) → request_at step ≡ None → step ≡ Request → ⊥
no_asking (Select mask) none is = cc
no_asking Request none is = cc
no_asking Done none is = cc
no_asking Budget none is = cc

searched_asked : (meters : List Identity) (budget : ℕ) (s : SearchState) (chosen : List Identity) → request_at (step_of s) ≡ None → Asked meters budget s chosen → ⊥
searched_asked meters budget s chosen none asked = no_asking (step_of s) none (ap step_of asked.state ∙ asked_step asked.before asked.mask asked.step)

searched_calm : (meters : List Identity) (budget : ℕ) (s : SearchState) → request_at (step_of s) ≡ None → Calm meters budget s → IsSearched meters budget s
searched_calm meters budget s none calm = out meters budget s (swept_out meters budget s (λ mask is. no_selection (step_of s) mask none is) calm.so)

pub searched : (meters : List Identity) (budget : ℕ) (s : SearchState) (chosen : List Identity) → request_at (step_of s) ≡ None → Searching meters budget s chosen → IsSearched meters budget s
searched meters budget s chosen none (inl calm) = searched_calm meters budget s none calm
searched meters budget s chosen none (inr asked) = absurd (searched_asked meters budget s chosen none asked)
