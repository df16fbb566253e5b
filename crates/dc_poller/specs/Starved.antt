-- A script that ended because a search ran out of memory (this product).
use Rattle.std.specs.Prelude.{◌≡◌, ℕ, List, [], ◌∷◌, ◌++◌, Option}
use Rattle.dc_sectors.specs.declared.device.Disk.{Ghosts}
use Rattle.dc_poller.specs.ImageRun.{ImageWent}
use Rattle.mbdc_ending.specs.declared.fault.ProgramFault.{ProgramFault}
use Rattle.mbdc_ending.specs.declared.fault.ProgramFault.TheVariants.{NoMemory}
use Rattle.dc_poller.specs.Link.{HasBus, Link}
use Rattle.dc_poller.specs.Script.{AskFor, AreDone, Deed, deeds_exchanges, deeds_text, deeds_turns}
use Rattle.dc_poller.specs.Script.{link_after}
use Rattle.dc_poller.specs.ScriptLine.{LineSeen, search, IsLineOf}
use Rattle.mbdc_bus.specs.Bus.{Exchange}
use Rattle.dc_poller.specs.Search.{Starves}
use Rattle.dc_poller.specs.Run.{Run, IsRunOf, run_from}

-- the line is a search over the gateway, of which this was done
pub record SearchStarves (asked : LineSeen) (link : Link) (deed : Deed) : Type 0 where
  pub budget : ℕ
  pub asked_is : asked ≡ search budget
  pub has_bus : HasBus link
  pub starves : Starves budget link deed.left deed.turns deed.exchanges deed.text

-- it is the first of these lines, which asks for this
abbrev pub StarvesAt : Link → List (List ℕ) → LineSeen → Deed → Type 0
StarvesAt link [] starving deed = ⊥
StarvesAt link (line ∷ rest) starving deed =
    IsLineOf line starving × SearchStarves starving link deed

-- The lines before it are done, what was written is their text and what it told, and what went over the gateway
-- their exchanges and its own.
pub record ScriptStarved {D : Type 0} (g : Ghosts D) (run : Run D) (link : Link)
    (lines : List (List ℕ)) (wrote : List ℕ → Type 0) (carries : List Exchange → Type 0)
    : Type 0 where
  pub asked : List LineSeen
  pub rest : List (List ℕ)
  pub are_read : AskFor lines asked rest
  pub deeds : List Deed
  pub done : AreDone 0 link asked deeds
  pub starving : LineSeen
  pub last : Deed
  pub starves : StarvesAt (link_after link deeds) rest starving last
  pub went : IsRunOf g run (deeds_turns deeds ++ last.turns)
  pub text : wrote (deeds_text deeds ++ last.text)
  pub carried : carries (deeds_exchanges deeds ++ last.exchanges)

-- one line, with what it wrote
pub record LineStarved {D : Type 0} (g : Ghosts D) (run : Run D) (asked : LineSeen)
    (link : Link) (wrote : List ℕ → Type 0) (talked : List Exchange → Type 0)
    : Type 0 where
  pub last : Deed
  pub starves : SearchStarves asked link last
  pub went : IsRunOf g run last.turns
  pub text : wrote last.text
  pub over : talked last.exchanges

-- A run from the disk to the disk that ended so.
abbrev pub ImageStarved : {D : Type 0} → Ghosts D → Link → Option (List ℕ)
    → (List ℕ → Type 0) → (List Exchange → Type 0) → D → D → Type 0
ImageStarved g link left wrote carries =
    ImageWent g left (λ lines state first last.
    ScriptStarved g (run_from state first last) link lines wrote carries)

-- a search ran out of memory, over a gateway
abbrev pub IsOfSearch : Link → ProgramFault → Type 0
IsOfSearch link fault = (fault ≡ NoMemory) × HasBus link
