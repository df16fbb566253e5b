-- The search for meters on a bus, without an image (EN 13757-3, wildcards; EN 13757-2, primary addresses).
use Rattle.std.specs.Prelude.{◌≡◌, ◌≢◌, ℕ, ◌≤◌, ◌==◌, Bool, true, false, if◌then◌else◌}
use Rattle.std.specs.Prelude.{IsTrue, List, [], ◌∷◌, ◌++◌, codes, Option, None, Some, IfSome, length}
use Rattle.std.specs.Prelude.{Result, Ok, Err}
use Rattle.dc_address.specs.Text.{text_of}
use Rattle.dc_address.specs.declared.identity.Identity.{Identity}
use Rattle.mbdc_bus.specs.Bus.{IsSearched}
use Rattle.mbdc_bus.specs.Windows.{Insists, IsAskedAll, Reads, most_tries}
use Rattle.dc_linkframe.specs.Control.{request_to, reset_to}
use Rattle.dc_linkframe.specs.Frame.{FrameSeen, ack, short, long, spelling}
use Rattle.dc_linkframe.specs.Reading.{frame_of}
use Rattle.dc_readout.specs.Misses.{misses_of}
use Rattle.dc_readout.specs.declared.misses.misses.Misses.{Misses}
use Rattle.dc_search.specs.Found.{search_text}
use Rattle.dc_search.specs.Answer.{answer_of}
use Rattle.dc_search.specs.State.{SearchState, is_idle, step_of}
use Rattle.mbdc_io.specs.Words.{number_word}
use Rattle.mbdc_installer.specs.declared.wildcards.Count.{Count}

-- A wildcard search that ended within its budget.
pub record IsLook {B : Type 0} (asks_all : B → List ℕ → List ℕ → B → Type 0)
    (meters : B → Option (List Identity)) (budget : ℕ) (old new : B)
    (search : SearchState) : Type 0 where
  pub asked : IsAskedAll asks_all budget old new search
  pub ended : IsTrue (is_idle (step_of search))
  pub within : search.selections ≤ budget
  pub walk : IfSome (meters old) (λ known. IsSearched known budget search)
  pub same_meters : meters new ≡ meters old

-- neither a meter nor a number that more than one meter has
abbrev pub is_none : {X : Type 0} → List X → Bool
is_none [] = true
is_none (x ∷ more) = false

-- how much a search found
pub record Counts (count : Count) (search : SearchState) : Type 0 where
  pub meters : count.meters ≡ length search.found
  pub shared : count.shared ≡ length search.shared

-- THE SCAN OF A BUS, as it is printed and counted.
pub record Scanned {B : Type 0} (asks_all : B → List ℕ → List ℕ → B → Type 0)
    (meters : B → Option (List Identity)) (budget : ℕ) (old new : B)
    (wrote : List ℕ → Type 0) (counts : SearchState → Type 0) : Type 0 where
  pub search : SearchState
  pub look : IsLook asks_all meters budget old new search
  pub text : wrote (search_text search)
  pub counted : counts search

-- ---- primary addresses

abbrev pub identity_word : Option Identity → List ℕ
identity_word None = []
identity_word (Some meter) = codes " " ++ text_of meter

-- an address at which somebody answers, and the meter, if it answers alone and can be read
abbrev pub address_line : ℕ → Option Identity → List ℕ
address_line address meter = codes "ADDRESS"
    ++ (number_word address ++ (identity_word meter ++ codes "\n"))

abbrev pub is_ack : Option FrameSeen → Bool
is_ack None = false
is_ack (Some ack) = true
is_ack (Some (short control address)) = false
is_ack (Some (long control address ci body)) = false

-- a telegram says which address it comes from
abbrev pub is_sent_from : ℕ → Option FrameSeen → Bool
is_sent_from address None = false
is_sent_from address (Some ack) = false
is_sent_from address (Some (short control sender)) = false
is_sent_from address (Some (long control sender ci body)) = sender == address

-- the meter whose telegram this is, if the telegram comes from the address that was asked
abbrev pub sender_at : ℕ → List ℕ → Option Identity
sender_at address telegram =
    if is_sent_from address (frame_of telegram) then answer_of telegram else None

-- A METER IS CALLED: the frame goes out, and where bytes come to that, a telegram is requested at the address. This is what
-- came to the one and to the other.
pub data IsCalled {B : Type 0} (asks_all : B → List ℕ → List ℕ → B → Type 0) (frame : List ℕ)
    (address : ℕ) (old : B) (answer telegram : List ℕ) (new : B) : Type 0 where
  is_silent : answer ≡ [] → telegram ≡ [] → Insists asks_all frame most_tries old answer new
      → IsCalled asks_all frame address old answer telegram new
  answers : {between : B} → answer ≢ [] → Insists asks_all frame most_tries old answer between
      → Reads asks_all (spelling (request_to true address)) between telegram new
      → IsCalled asks_all frame address old answer telegram new

-- AN ADDRESS IS ASKED: it is reset.
abbrev pub IsAsked : {B : Type 0} → (B → List ℕ → List ℕ → B → Type 0) → ℕ → B → List ℕ → List ℕ → B
    → Type 0
IsAsked asks_all address = IsCalled asks_all (spelling (reset_to address)) address

-- the meter at an address, or what the failed try brought
abbrev pub identified : Option Identity → List ℕ → Result Identity Misses
identified None telegram = Err (misses_of (telegram ∷ []))
identified (Some meter) telegram = Ok meter

-- WHO IS AT AN ADDRESS
pub record Identifies {B : Type 0} (asks_all : B → List ℕ → List ℕ → B → Type 0) (address : ℕ)
    (old : B) (result : Result Identity Misses) (new : B) : Type 0 where
  pub answer : List ℕ
  pub telegram : List ℕ
  pub asked : IsAsked asks_all address old answer telegram new
  pub result_is : result ≡ identified (sender_at address telegram) telegram
