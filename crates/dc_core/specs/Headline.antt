-- THE HEADLINE, in two halves: how a concentrator crashed, and what it holds when it is opened
-- again (this product). The theorem is the clause `the_headline` of `Concentrator::open`.
use Rattle.std.specs.Prelude.{◌≡◌, ◌==◌, ℕ, Some, Ok, List, [], ◌∷◌, ◌++◌, Contains, codes, length}
use Rattle.std.specs.Prelude.{decimal}
use Rattle.std.specs.List.{join_with_byte, slice_split}
use Rattle.dc_address.specs.Text.{text_of}
use Rattle.dc_sectors.specs.declared.device.Disk.{Ghosts}
use Rattle.dc_sectors.specs.Disk.{Image, settled}
use Rattle.dc_sectors.specs.declared.sector.Sector.{Sector}
use Rattle.dc_sectors.specs.Record.{image_of}
use Rattle.dc_sectors.specs.File.{FileState, HasKept, opened_on}
use Rattle.dc_sectors.specs.Runs.{LeavesOnly, WasLeft}
use Rattle.mbdc_change.specs.State.{State, ReadingRow}
use Rattle.mbdc_change.specs.declared.change.Change.{Change}
use Rattle.mbdc_change.specs.History.{after}
use Rattle.mbdc_log.specs.Halves.{half_of}
use Rattle.dc_core.specs.PendingImages.{StandsForOne, EachStands, Reads}
use Rattle.dc_core.specs.declared.line_heard.LineHeard.TheVariants.{Accepted}
use Rattle.dc_core.specs.Core.{opened}
use Rattle.dc_core.specs.Event.{Event, Answer, asks, hears, commits, offices, asked, heard}
use Rattle.dc_core.specs.Event.{committed, replied, repeated, refused, shown, out_of_memory, obeyed}
use Rattle.dc_core.specs.Transcript.{Turn, leads, accepted_in}
use Rattle.dc_core.specs.Images.{Machine, IsAt}
use Rattle.dc_core.specs.Run.{DidAll}
use Rattle.dc_core.specs.Told.{AreTold}

-- ---- how it crashed

-- The machine was just opened with this state: what its memory holds, and, where the answers of its disk until now kept
-- the disk model, what its disk holds.
abbrev pub IsOpened : {D : Type 0} → Ghosts D → State → Machine D → Type 0
IsOpened g state machine = IsAt g machine.store.disk machine (opened state)

-- an opening of the disk, as far as it came (`Concentrator::open`: `any_moment`)
abbrev pub IsOpening : {D : Type 0} → Ghosts D → D → D → Type 0
IsOpening g from to = LeavesOnly g from to (StandsForOne (half_of g from) (g.choices from))

-- CRASHED before or within any disk call of any run of line answers, office lines and commits: a
-- concentrator was opened with the state from a disk whose answers until then kept the disk model,
-- and has done the turns `done`; a power cut came at some moment of the turns `more` after them.
-- More power cuts, any number of them, may have come while the remaining image was opened.
pub data WasStopped {D : Type 0} (g : Ghosts D) (state : State) (done more : List Turn) : D
    → Type 0 where
  in_a_run : (first now last : Machine D) (disk : D) → IsOpened g state first
      → g.keeps first.store.disk
      → DidAll g first.store.disk first.house.budget (opened state) done first now
      → DidAll g first.store.disk first.house.budget (leads (opened state) done) more now last
      → WasLeft g now.store.disk last.store.disk disk → WasStopped g state done more disk
  in_an_opening : (from to disk : D) → WasStopped g state done more from
      → IsOpening g from to → WasLeft g from to disk → WasStopped g state done more disk

-- Of a file that was left with this image: the disk of that many sectors that an opening of the file makes is one that
-- was stopped so. What the file holds is a value of the disk, so each life has a disk of the same type.
pub record IsStoppedFile (g : Ghosts FileState) (state : State) (done more : List Turn)
    (sectors : ℕ) (image : Image) : Type 0 where
  pub left : List Sector
  pub left_is : image_of left ≡ image
  pub stopped : WasStopped g state done more (opened_on sectors left)
  pub keeps : HasKept (opened_on sectors left)

-- ---- what it holds

-- the changes that were accepted by these turns after an opening with this state, in order
abbrev pub accepted : State → List Turn → List Change
accepted state turns = accepted_in (opened state) turns

-- the second list of changes begins with the first
abbrev pub IsPrefix : List Change → List Change → Type 0
IsPrefix prefix changes = (rest : List Change) × (changes ≡ prefix ++ rest)

-- another request was asked on the line, whatever its frame count bit
abbrev pub IsAskedOn : ℕ → List Turn → Type 0
IsAskedOn line turns = (request : List ℕ) × Contains turns (asks line, asked (Some request))

-- Promised is every telegram after which a frame count bit was toggled, every command acknowledged and every
-- reading uploaded, with all that was accepted before; and, more than the headline says, all that was accepted before
-- a commit that answered a number, or before an office line that was refused or ended out of memory.
abbrev pub IsPromised : Event → Answer → List Turn → Type 0
IsPromised (hears line moment bytes) (heard (Ok (Accepted part more))) behind =
    IsAskedOn line behind
IsPromised (offices text) (replied (obeyed number change)) behind = Unit {0}
IsPromised (offices text) (replied (repeated number)) behind = Unit {0}
IsPromised (offices text) (replied (shown bytes)) behind = Unit {0}
IsPromised (offices text) (replied (refused code)) behind = Unit {0}
IsPromised (offices text) (replied out_of_memory) behind = Unit {0}
IsPromised commits (committed (Ok count)) behind = Unit {0}
IsPromised event answer behind = ⊥

-- What an answer reported to the office holds of this state: the number in `OK` is the last command's, and each line
-- `READING serial meter flat parts` that was shown is that of one of the state's readings.
abbrev pub HasTold : Answer → State → Type 0
HasTold (replied (repeated number)) s = s.last_number ≡ number
HasTold (replied (obeyed number change)) s = s.last_number ≡ number
HasTold (replied (shown bytes)) s = (words : List ℕ)
    → Contains (slice_split (λ b. b == 10) bytes) (codes "READING " ++ words)
    → (r : ReadingRow) × Contains s.readings r × (words ≡ join_with_byte 32
    (decimal r.serial ∷ text_of r.meter ∷ r.flat ∷ decimal (length r.parts) ∷ []))
HasTold answer s = Unit {0}

-- HELD is exactly the register and readings of a prefix of the accepted telegrams and commands, and
-- that prefix includes all that the completed turns have promised. What these reported to the
-- office holds of the state after all that was accepted until then.
pub record IsKept (state : State) (done more : List Turn) (held : State) : Type 0 where
  pub prefix : List Change
  pub held_is : held ≡ after state prefix
  pub is_prefix : IsPrefix prefix (accepted state (done ++ more))
  pub includes : (before behind : List Turn) (turn : Turn) → done ≡ before ++ turn ∷ behind
      → IsPromised turn.0 turn.1 behind → IsPrefix (accepted state (before ++ turn ∷ [])) prefix
  pub told : (before behind : List Turn) (turn : Turn) → done ≡ before ++ turn ∷ behind
      → HasTold turn.1 (after state (accepted state (before ++ turn ∷ [])))

-- This image may be opened, on whatever disk, and the state that it reads as is kept. Each reply of the completed turns
-- is, text for text, of the state after all that was accepted until then.
pub record HoldsKept (half_len : ℕ) (state : State) (done more : List Turn) (image : Image) : Type 0 where
  pub premise : EachStands half_len (settled image)
  pub kept : (held : State) → Reads half_len held image → IsKept state done more held
  pub told : AreTold state done
