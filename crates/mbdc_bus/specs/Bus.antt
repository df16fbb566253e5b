-- A bus as the list of its meters, by its answers (EN 13757-3, selection with wildcards; EN
-- 13757-2, REQ_UD2).
-- The meters that match a selection acknowledge it at once, and answer the request that follows together.
use Rattle.std.specs.Prelude.{◌≡◌, ℕ, ◌≤◌, true, List, [], ◌∷◌, Some, None, filter, length}
use Rattle.std.specs.Prelude.{min, option_map, take, if◌then◌else◌, nat_le}
use Rattle.dc_address.specs.Mask.{IsMask, MaskParts, mask_wire, matches}
use Rattle.dc_address.specs.declared.identity.Identity.{Identity}
use Rattle.dc_linkframe.specs.Control.{request_to, selected, selection_by}
use Rattle.dc_linkframe.specs.Frame.{ack, spelling}
use Rattle.dc_search.specs.Answer.{answer_of}
use Rattle.dc_search.specs.Request.{request_by}
use Rattle.dc_search.specs.State.{SearchState, after, new_search, step_of}
use Rattle.dc_search.specs.Walk.{FindsAll, found_of, shared_of, walk_of}
use Rattle.dc_search.specs.declared.step.Step.TheVariants.{Done, Budget}

-- the answer when these meters are selected: silence, or acknowledgements that are one
abbrev pub Acknowledge : List Identity → List ℕ → Type 0
Acknowledge [] answer = answer ≡ []
Acknowledge (meter ∷ more) answer = answer ≡ spelling ack

-- the answer when these are requested to send their data: silence, the telegram of the one, or no
-- telegram if answers collide
abbrev pub Respond : List Identity → List ℕ → Type 0
Respond [] answer = answer ≡ []
Respond (meter ∷ []) answer = answer_of answer ≡ Some meter
Respond (meter ∷ other ∷ more) answer = answer_of answer ≡ None

-- What a bus of these meters answers to a search's requests, of which the first ones were selected before it and the
-- others are after it.
pub record IsHeard (meters before after : List Identity) (request answer : List ℕ) : Type 0 where
  pub selects : (mask : MaskParts) → IsMask mask
      → request ≡ spelling (selection_by (mask_wire mask)) → after ≡ filter (matches mask) meters
  pub acknowledges : (mask : MaskParts) → IsMask mask
      → request ≡ spelling (selection_by (mask_wire mask)) → Acknowledge after answer
  pub keeps : request ≡ spelling (request_to true selected) → after ≡ before
  pub responds : request ≡ spelling (request_to true selected) → Respond before answer

-- ---- a search

-- the search after these answers, in order
abbrev pub heard_all : List (List ℕ) → SearchState → SearchState
heard_all [] search = search
heard_all (answer ∷ more) search = heard_all more (after answer search)

-- A search with this budget after some answers, whoever gave them.
pub record HasHeard (budget : ℕ) (search : SearchState) : Type 0 where
  pub answers : List (List ℕ)
  pub state : search ≡ heard_all answers (new_search budget)

-- A request and its answer.
pub record Exchange : Type 0 where
  pub request : List ℕ
  pub answer : List ℕ

-- These exchanges happened one after the other between the two states of a bus, and nothing else
-- was requested.
abbrev pub AreExchanged : {B : Type 0} → (B → List ℕ → List ℕ → B → Type 0) → B → List Exchange → B
    → Type 0
AreExchanged asks old [] new = new ≡ old
AreExchanged {B} asks old (exchange ∷ more) new =
    (between : B) × asks old exchange.request exchange.answer between
    × AreExchanged asks between more new

-- Each request is that of the search's next step, the search takes each answer, and this is the
-- search after them.
abbrev pub AreAskedBy : SearchState → List Exchange → SearchState → Type 0
AreAskedBy search [] last = last ≡ search
AreAskedBy search (exchange ∷ more) last =
    (option_map spelling (request_by (step_of search)) ≡ Some exchange.request)
    × AreAskedBy (after exchange.answer search) more last

-- A search with this budget: its exchanges are all that happened to the bus.
pub record HasAsked {B : Type 0} (asks : B → List ℕ → List ℕ → B → Type 0) (budget : ℕ)
    (old new : B) (search : SearchState) : Type 0 where
  pub exchanges : List Exchange
  pub happened : AreExchanged asks old exchanges new
  pub asked : AreAskedBy (new_search budget) exchanges search

-- A search over these meters made the selections of the walk, as far as the budget went.
pub record IsSearched (meters : List Identity) (budget : ℕ) (search : SearchState) : Type 0 where
  pub found : search.found ≡ found_of (take budget (walk_of meters))
  pub shared : search.shared ≡ shared_of (take budget (walk_of meters))
  pub selections : search.selections ≡ min budget (length (walk_of meters))
  pub step : step_of search ≡ (if nat_le (length (walk_of meters)) budget then Done else Budget)
  -- a whole walk finds every meter
  pub whole : length (walk_of meters) ≤ budget → FindsAll meters search.found search.shared
