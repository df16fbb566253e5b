-- A search on a bus on which several meters may answer one request (EN 13757-3, selection with wildcards; EN 13757-2,
-- REQ_UD2): what it asks, and which answer it believes. All bytes that come while a meter may begin to answer a request are
-- the request's window.
use Rattle.std.specs.Prelude.{◌≡◌, ◌≢◌, ◌⊎◌, ℕ, ◌<◌, ◌-◌, ◌==◌, ◌&&◌, not, Bool, true, false, List, [], ◌∷◌}
use Rattle.std.specs.Prelude.{Option, Some, None, length}
use Rattle.dc_address.specs.Mask.{mask_wire}
use Rattle.dc_address.specs.declared.identity.Identity.{Identity}
use Rattle.dc_linkframe.specs.Control.{request_to, selected, selection_by}
use Rattle.dc_linkframe.specs.Frame.{FrameSeen, ack, short, long, spelling}
use Rattle.dc_linkframe.specs.Reading.{frame_of}
use Rattle.dc_search.specs.Answer.{answer_of}
use Rattle.dc_search.specs.Prefix.{mask_of_digits}
use Rattle.dc_search.specs.State.{SearchState}
use Rattle.mbdc_bus.specs.Bus.{HasAsked}

-- maximum number of windows of one request
abbrev pub most_tries : ℕ
most_tries = 3

-- bytes that are no frame
abbrev pub noise : List ℕ
noise = 0 ∷ []

-- ---- a request

-- IT IS REPEATED while its window is silent, so that it has this many windows at most.
pub data Insists {B : Type 0} (asks_all : B → List ℕ → List ℕ → B → Type 0) (request : List ℕ)
    : ℕ → B → List ℕ → B → Type 0 where
  hears : {most : ℕ} {old new : B} (answer : List ℕ) → (answer ≢ []) ⊎ (most ≡ 1)
      → asks_all old request answer new → Insists asks_all request most old answer new
  repeats : {most : ℕ} {old between new : B} {answer : List ℕ} → 1 < most
      → asks_all old request [] between → Insists asks_all request (most - 1) between answer new
      → Insists asks_all request most old answer new

-- A TELEGRAM IS BELIEVED where it comes twice, each time alone in its window, from one meter. Where another meter, or no
-- readable frame, comes the second time, several meters answer.
pub data Reads {B : Type 0} (asks_all : B → List ℕ → List ℕ → B → Type 0) (request : List ℕ)
    (old : B) : List ℕ → B → Type 0 where
  is_unread : {new : B} (answer : List ℕ) → answer_of answer ≡ None
      → Insists asks_all request most_tries old answer new → Reads asks_all request old answer new
  comes_twice : {between new : B} {meter : Identity} (first again : List ℕ)
      → answer_of first ≡ Some meter → answer_of again ≡ Some meter
      → Insists asks_all request most_tries old first between
      → Insists asks_all request most_tries between again new
      → Reads asks_all request old first new
  differs : {between new : B} {meter : Identity} (first again : List ℕ)
      → answer_of first ≡ Some meter → answer_of again ≢ Some meter
      → Insists asks_all request most_tries old first between
      → Insists asks_all request most_tries between again new
      → Reads asks_all request old noise new

-- ---- a selection

-- the selection of the meters whose number begins with these digits
abbrev pub selection_of : List ℕ → List ℕ
selection_of digits = spelling (selection_by (mask_wire (mask_of_digits digits)))

-- the request for the data of the selected meter
abbrev pub data_request : List ℕ
data_request = spelling (request_to true selected)

abbrev pub is_one : Option FrameSeen → Bool
is_one (Some ack) = true
is_one (Some (short control address)) = false
is_one (Some (long control address ci body)) = false
is_one None = false

-- several meters acknowledge: bytes come that aren't one acknowledgement
abbrev pub are_several : List ℕ → Bool
are_several [] = false
are_several (byte ∷ bytes) = not (is_one (frame_of (byte ∷ bytes)))

-- ---- a question of the search

-- a bus, and whether several meters acknowledged the last selection, with digits left to fix
pub record Asking (B : Type 0) : Type 0 where
  pub bus : B
  pub has_several : Bool

-- WHAT A STEP OF THE SEARCH ASKS, and the answer that it takes. Where several meters acknowledged a selection, their data
-- isn't requested: they would answer together. Only where all eight digits are fixed it is.
pub data Questions {B : Type 0} (asks_all : B → List ℕ → List ℕ → B → Type 0) (old : Asking B)
    (request answer : List ℕ) (new : Asking B) : Type 0 where
  selects : (digits : List ℕ) → request ≡ selection_of digits
      → Insists asks_all request most_tries old.bus answer new.bus
      → new.has_several ≡ (are_several answer && not (length digits == 8))
      → Questions asks_all old request answer new
  skips : request ≡ data_request → old.has_several ≡ true → answer ≡ noise → new ≡ old
      → Questions asks_all old request answer new
  reads : request ≡ data_request → old.has_several ≡ false → new.has_several ≡ false
      → Reads asks_all request old.bus answer new.bus
      → Questions asks_all old request answer new

-- THE SEARCH of a bus: the questions of its steps and their answers are all that happened.
pub record IsAskedAll {B : Type 0} (asks_all : B → List ℕ → List ℕ → B → Type 0) (budget : ℕ)
    (old new : B) (search : SearchState) : Type 0 where
  pub has_several : Bool
  pub asked : HasAsked (Questions asks_all) budget
      (record { bus = old; has_several = false }) (record { bus = new; has_several = has_several })
      search
