-- What a search makes of the answers of its meters: the selections of the walk over them.
use Rattle.std.proofs.Common.{◌≡◌, ◌≢◌, inl, inr, ◌&&◌, ℕ, ◌+◌, ◌*◌, ◌<◌, ◌≤◌, Bool, true, false, not, List, [], ◌∷◌, Option, Some, None, length, filter, nat_lt, arith, refl, sym, ap, ◌∙◌, subst, ◌++◌, take, drop, length-append}
use Rattle.std.specs.Prelude.{IsTrue, option_map}
use Rattle.std.proofs.lemmas.Bool.{and_parts}
use Rattle.std.proofs.Math.Seq.{take-append_seam, drop-append_seam}
use Rattle.dc_address.specs.Mask.{MaskParts, matches}
use Rattle.dc_address.specs.declared.identity.Identity.{Identity}
use Rattle.dc_linkframe.specs.Control.{request_to, selected, selection_by}
use Rattle.dc_linkframe.specs.Frame.{FrameSeen, ack, spelling, long}
use Rattle.dc_linkframe.specs.Reading.{frame_of}
use Rattle.dc_linkframe.proofs.Spellings.{frame_of-spelling}
use Rattle.dc_search.specs.Answer.{answer_of, identity_at, identity_in, identity_of}
use Rattle.dc_search.specs.Request.{request_by}
use Rattle.dc_search.specs.State.{SearchState, after, after_step, is_idle, new_search, step_of}
use Rattle.dc_search.specs.Walk.{FindsAll}
use Rattle.dc_search.specs.declared.step.Step.{Step}
use Rattle.dc_search.specs.declared.step.Step.TheVariants.{Select, Request, Done, Budget}
use Rattle.dc_search.proofs.Lengths.{length-walk_of-le}
use Rattle.dc_search.proofs.Sweeps.{noise as no_telegram, heard_one}
use Rattle.mbdc_bus.specs.Bus.{AreAskedBy, AreExchanged, Exchange, IsSearched, Respond}
use Rattle.mbdc_bus.specs.Windows.{Asking, IsAskedAll, Questions, Reads, are_several, comes_twice, data_request, differs, is_one, is_unread, noise, reads, selection_of, selects, skips, hears}
use Rattle.mbdc_bus.proofs.Asked.{IsNext}
use Rattle.mbdc_bus.proofs.Searching.{Calm, Searching, asked_step, no_data, response, searched, searching_new, selection}
use Rattle.dc_address.specs.Identity.{wire_of}
use Rattle.dc_address.proofs.Identities.{length-wire_of}
use Rattle.dc_records.proofs.Spellings.Headers.{at_found}
use Rattle.dc_search.specs.Prefix.{mask_of_digits}
use Rattle.dc_search.proofs.Prefixes.{node_root}
use Rattle.dc_search.proofs.Matching.{node_from}
use Rattle.mbdc_theorems.specs.Answered.{Acknowledge, AreAnswered, AreRead, IsAnswered, IsAnsweredBy, Counted, OneIsAnswered}

some_is : {X : Type 0} (x y : X) → Some x ≡ Some y → x ≡ y
some_is x y e = cc

-- a selection is no request for data
clash : (wire : List ℕ) → Some (selection_by wire) ≡ Some (request_to true selected) → ⊥
clash wire is = cc

apart : (wire : List ℕ) → spelling (selection_by wire) ≡ data_request → ⊥
apart wire is = clash wire (sym (frame_of-spelling (selection_by wire)) ∙ ap frame_of is ∙ frame_of-spelling (request_to true selected))

-- ---- what comes

one_ack : are_several (spelling ack) ≡ false
one_ack = ap (λ (f : Option FrameSeen). not (is_one f)) (frame_of-spelling ack)

not_both : (b : Bool) → b ≡ true → b ≡ false → ⊥
not_both b is not = cc

several_match : (chosen : List Identity) (answer : List ℕ) → Acknowledge chosen answer → are_several answer ≡ true → 1 < length chosen
several_match [] answer heard several = absurd (not_both (are_several answer) several (ap are_several heard))
several_match (meter ∷ []) answer heard several = absurd (not_both (are_several answer) several (ap are_several heard ∙ one_ack))
several_match (meter ∷ other ∷ more) answer heard several = omega arith

-- bytes to a selection are an acknowledgement to the search
any_bytes : (s : SearchState) (mask : MaskParts) (byte : ℕ) (bytes : List ℕ) → step_of s ≡ Select mask → after (byte ∷ bytes) s ≡ after (spelling ack) s
any_bytes s mask byte bytes is = ap (λ (step : Step). after_step step (byte ∷ bytes) s) is ∙ sym (ap (λ (step : Step). after_step step (spelling ack) s) is)

selection_by_any : (meters : List Identity) (budget : ℕ) (s : SearchState) (mask : MaskParts) (chosen : List Identity) (answer : List ℕ) → step_of s ≡ Select mask → Calm meters budget s
    → chosen ≡ filter (matches mask) meters → Acknowledge chosen answer → Searching meters budget (after answer s) chosen
selection_by_any meters budget s mask [] answer is calm are heard = selection meters budget s (after answer s) mask [] answer is calm are heard refl
selection_by_any meters budget s mask (meter ∷ []) answer is calm are heard = selection meters budget s (after answer s) mask (meter ∷ []) answer is calm are heard refl
selection_by_any meters budget s mask (meter ∷ other ∷ more) [] is calm are heard = absurd (heard refl)
selection_by_any meters budget s mask (meter ∷ other ∷ more) (byte ∷ bytes) is calm are heard =
    selection meters budget s (after (byte ∷ bytes) s) mask (meter ∷ other ∷ more) (spelling ack) is calm are refl (any_bytes s mask byte bytes is)

respond_noise : (chosen : List Identity) → 1 < length chosen → Respond chosen noise
respond_noise [] many = absurd (omega (arith, many))
respond_noise (meter ∷ []) many = absurd (omega (arith, many))
respond_noise (meter ∷ other ∷ more) many = no_telegram

-- before each step: where several meters acknowledged, several are selected
record Holds (meters : List Identity) (budget : ℕ) (s : SearchState) (chosen : List Identity) (several : Bool) : Type 0 where
  searching : Searching meters budget s chosen
  many : several ≡ true → 1 < length chosen

selected_by : (meters : List Identity) (budget : ℕ) (s : SearchState) (before chosen : List Identity) (request answer digits : List ℕ) (step : Step) → step_of s ≡ step
    → option_map spelling (request_by step) ≡ Some request → request ≡ selection_of digits → Searching meters budget s before
    → ((mask : MaskParts) → step_of s ≡ Select mask → chosen ≡ filter (matches mask) meters) → Acknowledge chosen answer → Searching meters budget (after answer s) chosen
selected_by meters budget s before chosen request answer digits (Select mask) is due asks (inl calm) are heard = selection_by_any meters budget s mask chosen answer is calm (are mask is) heard
selected_by meters budget s before chosen request answer digits (Select mask) is due asks (inr asked) are heard =
    let requests : step_of s ≡ Request = ap step_of asked.state ∙ asked_step asked.before asked.mask asked.step in
    let no : Select mask ≡ Request = sym is ∙ requests in
    cc
selected_by meters budget s before chosen request answer digits Request is due asks searching are heard = absurd (apart _ (sym asks ∙ sym (some_is _ _ due)))
selected_by meters budget s before chosen request answer digits Done is due asks searching are heard = absurd cc
selected_by meters budget s before chosen request answer digits Budget is due asks searching are heard = absurd cc

data_by : (meters : List Identity) (budget : ℕ) (s : SearchState) (before : List Identity) (request answer : List ℕ) (step : Step) → step_of s ≡ step → option_map spelling (request_by step) ≡ Some request
    → request ≡ data_request → Searching meters budget s before → (0 < length before → Respond before answer) → Searching meters budget (after answer s) before
data_by meters budget s before request answer (Select mask) is due asks searching heard = absurd (apart _ (some_is _ _ due ∙ asks))
data_by meters budget s before request answer Request is due asks (inl calm) heard = absurd (no_data s.due s.answered (nat_lt s.selections s.budget) calm.so.calm is)
data_by meters budget s before request answer Request is due asks (inr asked) heard =
    inl (response meters budget asked.before (after answer s) asked.mask before answer asked.step asked.calm asked.are asked.some (heard asked.some) (ap (after answer) asked.state))
data_by meters budget s before request answer Done is due asks searching heard = absurd cc
data_by meters budget s before request answer Budget is due asks searching heard = absurd cc

none_at : (step : Step) → IsTrue (is_idle step) → option_map spelling (request_by step) ≡ None
none_at (Select mask) idle = absurd cc
none_at Request idle = absurd cc
none_at Done idle = refl
none_at Budget idle = refl

module _ {B : Type 0} {asks_all : B → List ℕ → List ℕ → B → Type 0} where
  respond_by : {request answer : List ℕ} {old new : B} (chosen : List Identity) → 0 < length chosen → (read : Reads asks_all request old answer new) → AreRead chosen read → Respond chosen answer
  respond_by [] some read heard = absurd (omega (arith, some))
  respond_by (meter ∷ []) some (is_unread answer none asked) heard = heard
  respond_by (meter ∷ other ∷ more) some (is_unread answer none asked) heard = none
  respond_by (meter ∷ []) some (comes_twice first again one same asked repeated) heard = heard.0
  respond_by (meter ∷ other ∷ more) some (comes_twice first again one same asked repeated) heard = heard.1 (one ∙ sym same)
  respond_by (meter ∷ []) some (differs first again one another asked repeated) heard = absurd (another (heard.1 ∙ sym heard.0 ∙ one))
  respond_by (meter ∷ other ∷ more) some (differs first again one another asked repeated) heard = no_telegram

  -- ---- one question

  holds_step : (meters : List Identity) (budget : ℕ) (s : SearchState) (before chosen : List Identity) (request answer : List ℕ) (old new : Asking B) → IsNext s request
      → Holds meters budget s before old.has_several → (asked : Questions asks_all old request answer new) → IsAnswered meters s before chosen asked → Holds meters budget (after answer s) chosen new.has_several
  holds_step meters budget s before chosen request answer old new due holds (selects digits is asked several) heard = record {
    searching = selected_by meters budget s before chosen request answer digits (step_of s) refl due is holds.searching heard.0 heard.1;
    many = λ so. several_match chosen answer heard.1 (and_parts (are_several answer) _ (sym several ∙ so)).0;
  }
  holds_step meters budget s before chosen request answer old new due holds (skips is several silence same) heard =
      let many : 1 < length before = holds.many several in
      let next = data_by meters budget s before request noise (step_of s) refl due is holds.searching (λ some. respond_noise before many) in
      record {
        searching = subst (λ (c : List Identity). Searching meters budget (after answer s) c) (sym heard) (subst (λ (a : List ℕ). Searching meters budget (after a s) before) (sym silence) next);
        many = λ so. subst (λ (c : List Identity). 1 < length c) (sym heard) many;
      }
  holds_step meters budget s before chosen request answer old new due holds (reads is one still read) heard =
      let next = data_by meters budget s before request answer (step_of s) refl due is holds.searching (λ some. respond_by before some read heard.1) in
      record {
        searching = subst (λ (c : List Identity). Searching meters budget (after answer s) c) (sym heard.0) next;
        many = λ so. absurd (not_both new.has_several so still);
      }

-- ---- a run

module _ {B : Type 0} (asks_all : B → List ℕ → List ℕ → B → Type 0) where
  holds_all : (meters : List Identity) (budget : ℕ) (s last : SearchState) (before : List Identity) (exchanges : List Exchange) (old new : Asking B) (happened : AreExchanged (Questions asks_all) old exchanges new)
      → AreAskedBy s exchanges last → AreAnswered asks_all meters s before exchanges old new happened → Holds meters budget s before old.has_several → (chosen : List Identity) × Holds meters budget last chosen new.has_several
  holds_all meters budget s last before [] old new same is heard holds =
      (before, subst (λ (t : SearchState). Holds meters budget t before new.has_several) (sym is) (subst (λ (a : Asking B). Holds meters budget s before a.has_several) (sym same) holds))
  holds_all meters budget s last before (e ∷ more) old new happened is heard holds =
      holds_all meters budget (after e.answer s) last heard.0 more happened.0 new happened.2 is.1 heard.2
      (holds_step meters budget s before heard.0 e.request e.answer old happened.0 is.0 holds happened.1 heard.1)

  pub found : (meters : List Identity) (budget : ℕ) (old new : B) (search : SearchState) (run : IsAskedAll asks_all budget old new search) → IsAnsweredBy meters run
      → IsTrue (is_idle (step_of search)) → IsSearched meters budget search
  found meters budget old new search run heard idle =
      let last = holds_all meters budget (new_search budget) search [] run.asked.exchanges (record { bus = old; has_several = false }) (record { bus = new; has_several = run.has_several }) run.asked.happened run.asked.asked heard
      (record { searching = searching_new meters budget []; many = λ so. absurd (not_both false so refl) }) in
      searched meters budget search last.0 (none_at (step_of search) idle) last.1.searching

  pub all_found : (meters : List Identity) (budget : ℕ) (old new : B) (search : SearchState) (run : IsAskedAll asks_all budget old new search) → IsAnsweredBy meters run
      → IsTrue (is_idle (step_of search)) → 1 + 40 * length meters ≤ budget → FindsAll meters search.found search.shared
  all_found meters budget old new search run heard idle enough =
      let most = length-walk_of-le meters in
      (found meters budget old new search run heard idle).whole (omega (arith, enough, most))

-- A search of one meter: a selection, and its telegram twice.

-- ---- its telegram: a header without records

abbrev zeros : List ℕ
zeros = 0 ∷ 0 ∷ 0 ∷ 0 ∷ []

abbrev telegram : Identity → List ℕ
telegram meter = spelling (long 8 0 114 (wire_of meter ++ zeros))

own_header : (meter : Identity) → identity_at (wire_of meter ++ zeros) ≡ Some meter
own_header meter =
    let wire : List ℕ = wire_of meter in
    let front : take 8 (wire ++ zeros) ≡ wire = ap (λ n. take n (wire ++ zeros)) (sym (length-wire_of meter)) ∙ take-append_seam wire zeros in
    let back : drop 8 (wire ++ zeros) ≡ zeros = ap (λ n. drop n (wire ++ zeros)) (sym (length-wire_of meter)) ∙ drop-append_seam wire zeros in
    ap identity_of
    (at_found (wire ++ zeros) wire zeros (record { identity = meter; access = 0; status = 0; config = 0 })
    (record { wire_is = sym front; rest_is = sym back; lengths = sym (length-append wire zeros ∙ ap (λ n. n + 4) (length-wire_of meter)) })
    (omega arith) refl refl refl refl)

names : (meter : Identity) → answer_of (telegram meter) ≡ Some meter
unfolding answer_of
names meter = ap identity_in (frame_of-spelling (long 8 0 114 (wire_of meter ++ zeros))) ∙ own_header meter

comes : (meter : Identity) → telegram meter ≢ []
comes meter none = cc

-- ---- the selection of all meters

matches_all : (meter : Identity) → matches (mask_of_digits []) meter ≡ true
matches_all meter = node_from [] 8 0 meter node_root (omega arith) (omega (arith, meter.has_eight_digits))

chooses : (meter : Identity) → meter ∷ [] ≡ filter (matches (mask_of_digits [])) (meter ∷ [])
chooses meter = rw (matches_all meter) refl

select_is : (a b : MaskParts) → Select a ≡ Select b → b ≡ a
select_is a b e = cc

abbrev first : SearchState
first = new_search 41

chosen : (meter : Identity) (mask : MaskParts) → step_of first ≡ Select mask → meter ∷ [] ≡ filter (matches mask) (meter ∷ [])
chosen meter mask is =
    subst (λ (m : MaskParts). meter ∷ [] ≡ filter (matches m) (meter ∷ [])) (sym (select_is (mask_of_digits []) mask is)) (chooses meter)

some_ack : spelling ack ≢ []
some_ack none = cc

-- ---- the run

abbrev at : ℕ → Asking ℕ
at count = record { bus = count; has_several = false }

abbrev talk : Identity → List Exchange
talk meter = record { request = selection_of []; answer = spelling ack } ∷ record { request = data_request; answer = telegram meter } ∷ []

abbrev last : Identity → SearchState
last meter = after (telegram meter) (after (spelling ack) first)

first_selection : Questions Counted (at 0) (selection_of []) (spelling ack) (at 1)
first_selection = selects [] refl (hears (spelling ack) (inl some_ack) refl) (sym (ap (λ (b : Bool). b && true) one_ack))

data_read : (meter : Identity) → Questions Counted (at 1) data_request (telegram meter) (at 3)
data_read meter = reads refl refl refl
    (comes_twice {between = 2} (telegram meter) (telegram meter) (names meter) (names meter) (hears (telegram meter) (inl (comes meter)) refl) (hears (telegram meter) (inl (comes meter)) refl))

run : (meter : Identity) → IsAskedAll Counted 41 0 3 (last meter)
run meter = record {
  has_several = false;
  asked = record {
    exchanges = talk meter;
    happened = (at 1, first_selection, (at 3, data_read meter, refl));
    asked = (refl, (refl, refl));
  };
}

is_done : (meter : Identity) → IsTrue (is_idle (step_of (last meter)))
is_done meter =
    let filtered = sym (chosen meter (mask_of_digits []) refl) in
    let found = heard_one first (mask_of_digits []) (meter ∷ []) meter (telegram meter) refl filtered (names meter) in
    rw (found, filtered) refl

pub one_is_answered : (meter : Identity) → OneIsAnswered meter
unfolding run first_selection data_read
one_is_answered meter = record {
  state = last meter;
  run = run meter;
  answered = (meter ∷ [], (chosen meter, refl), (meter ∷ [], (refl, (names meter, tt)), tt));
  ended = is_done meter;
}
