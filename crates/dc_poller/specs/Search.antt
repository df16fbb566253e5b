-- A search for meters over the gateway (this product): the pending changes are committed first, and
-- nothing is selected while a readout of its line is pending.
use Rattle.std.specs.Prelude.{◌≡◌, ◌⊎◌, ℕ, Bool, ◌≤◌, IsTrue}
use Rattle.std.specs.Prelude.{Option, None, Some, IfSome, Result, Ok, Err, List, [], ◌∷◌, ◌++◌}
use Rattle.dc_address.specs.declared.identity.Identity.{Identity}
use Rattle.dc_core.specs.Event.{asks, commits, started, asked, committed}
use Rattle.dc_core.specs.Text.{answer_text}
use Rattle.dc_core.specs.Transcript.{Turn}
use Rattle.dc_core.specs.declared.fault.CommitFault.{CommitFault}
use Rattle.dc_core.specs.declared.fault.StartFault.TheVariants.{Busy}
use Rattle.mbdc_bus.specs.Bus.{AreAskedBy, Exchange, IsSearched}
use Rattle.dc_search.specs.Found.{search_text}
use Rattle.dc_search.specs.State.{SearchState, is_idle, new_search, step_of}
use Rattle.dc_poller.specs.declared.halt.Halt.{Halt}
use Rattle.dc_poller.specs.declared.halt.Halt.TheVariants.{Write, NoMemory}
use Rattle.dc_poller.specs.Link.{Link, absent, linked, lost, gateway_line, link_by, loss_text}

-- ---- what was searched

-- A search that is over, within its budget: the exchanges are those of its steps, and it is what
-- their answers lead to. If the meters of the bus are known, it follows their walk, and over a lost
-- bus the walk of no meters.
pub record IsOver (meters : Option (List Identity)) (budget : ℕ) (link : Link)
    (exchanges : List Exchange) (search : SearchState) : Type 0 where
  pub ended : IsTrue (is_idle (step_of search))
  pub within : search.selections ≤ budget
  pub asked : AreAskedBy (new_search budget) exchanges search
  pub walk : IfSome meters (λ told. IsSearched told budget search)
  pub nobody : link ≡ lost → IsSearched [] budget search

-- the exchanges are the first ones of a search
abbrev pub AreOfSearch : ℕ → List Exchange → Type 0
AreOfSearch budget exchanges = (search : SearchState)
    × AreAskedBy (new_search budget) exchanges search

-- the state of the bus after it
abbrev pub IsLeft : Link → Link → Type 0
IsLeft absent left = left ≡ absent
IsLeft linked left = (left ≡ linked) ⊎ (left ≡ lost)
IsLeft lost left = left ≡ lost

-- ---- its turns and its text

-- the commit is refused
abbrev pub refused_turns : CommitFault → List Turn
refused_turns fault = (commits, committed (Err fault)) ∷ []

-- it isn't, and so its line is checked for a pending request
abbrev pub looked_turns : ℕ → Option (List ℕ) → List Turn
looked_turns count request = (commits, committed (Ok count)) ∷ (asks gateway_line, asked request) ∷ []

pub record IsRefused (link left : Link) (turns : List Turn) (exchanges : List Exchange)
    (text : List ℕ) : Type 0 where
  pub fault : CommitFault
  pub turns_are : turns ≡ refused_turns fault
  pub text_is : text ≡ answer_text (committed (Err fault))
  pub unasked : exchanges ≡ []
  pub left_is : left ≡ link

-- a readout of the line is pending, which a selection would restart
pub record IsBusy (link left : Link) (turns : List Turn) (exchanges : List Exchange)
    (text : List ℕ) : Type 0 where
  pub count : ℕ
  pub request : List ℕ
  pub turns_are : turns ≡ looked_turns count (Some request)
  pub text_is : text ≡ answer_text (started (Err Busy))
  pub unasked : exchanges ≡ []
  pub left_is : left ≡ link

-- it isn't: the loss of the bus is printed first
pub record Finds (meters : Option (List Identity)) (budget : ℕ) (link left : Link)
    (turns : List Turn) (exchanges : List Exchange) (text : List ℕ) : Type 0 where
  pub count : ℕ
  pub search : SearchState
  pub turns_are : turns ≡ looked_turns count None
  pub over : IsOver meters budget link exchanges search
  pub text_is : text ≡ loss_text link left ++ search_text search
  pub left_is : IsLeft link left

-- A SEARCH, over a bus whose meters are known or not.
abbrev pub Searches : Option (List Identity) → ℕ → Link → Link → List Turn → List Exchange → List ℕ
    → Type 0
Searches meters budget link left turns exchanges text =
    IsRefused link left turns exchanges text
    ⊎ (IsBusy link left turns exchanges text
    ⊎ Finds meters budget link left turns exchanges text)

-- ---- where it ends the script

-- A write failed: all turns are done, since the search writes after them, and the search is done if
-- it began.
abbrev pub SearchesPart : ℕ → List Turn → List Exchange → Type 0
SearchesPart budget turns exchanges =
    ((fault : CommitFault) × (turns ≡ refused_turns fault) × (exchanges ≡ []))
    ⊎ (((count : ℕ) × (request : List ℕ) × (turns ≡ looked_turns count (Some request))
    × (exchanges ≡ []))
    ⊎ ((count : ℕ) × (turns ≡ looked_turns count None) × AreOfSearch budget exchanges))

-- It ran out of memory: nothing that it found is written.
pub record Starves (budget : ℕ) (link left : Link) (turns : List Turn)
    (exchanges : List Exchange) (text : List ℕ) : Type 0 where
  pub count : ℕ
  pub turns_are : turns ≡ looked_turns count None
  pub asked : AreOfSearch budget exchanges
  pub text_is : text ≡ loss_text link left
  pub left_is : IsLeft link left

-- ---- the result of a call

-- Over the bus, which is left like that: `talked` holds of the exchanges on it.
abbrev pub Talked : Option (List Identity) → ℕ → Link → Link → (List Exchange → Type 0)
    → (List ℕ → Type 0) → Result (Unit {0}) Halt → Type 0
Talked meters budget link left talked wrote (Ok done) =
    (exchanges : List Exchange) × (search : SearchState)
    × IsOver meters budget link exchanges search × IsLeft link left × talked exchanges
    × wrote (loss_text link left ++ search_text search)
Talked meters budget link left talked wrote (Err Write) =
    (exchanges : List Exchange) × AreOfSearch budget exchanges × talked exchanges
Talked meters budget link left talked wrote (Err NoMemory) =
    (exchanges : List Exchange) × AreOfSearch budget exchanges × IsLeft link left × talked exchanges
    × wrote (loss_text link left)

-- with its turns
abbrev pub Comes : Option (List Identity) → ℕ → Link → Link → (List Exchange → Type 0)
    → (List ℕ → Type 0) → Result (Unit {0}) Halt → List Turn → Type 0
Comes meters budget link left talked wrote (Ok done) turns =
    (text : List ℕ) × (exchanges : List Exchange)
    × Searches meters budget link left turns exchanges text × talked exchanges
    × wrote text
Comes meters budget link left talked wrote (Err Write) turns =
    (exchanges : List Exchange) × SearchesPart budget turns exchanges × talked exchanges
Comes meters budget link left talked wrote (Err NoMemory) turns =
    (text : List ℕ) × (exchanges : List Exchange)
    × Starves budget link left turns exchanges text × talked exchanges × wrote text

-- A search over this bus, by how its ghosts tell of it before and after.
abbrev pub ComesOver : {B : Type 0} → (B → Option (List Identity)) → (B → Bool) → ℕ → B → B
    → (List Exchange → Type 0) → (List ℕ → Type 0) → Result (Unit {0}) Halt → List Turn → Type 0
ComesOver meters lost_is budget old new talked wrote result turns =
    Comes (meters old) budget (link_by (lost_is old)) (link_by (lost_is new)) talked wrote result
    turns
