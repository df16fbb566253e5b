-- What an engine's answer says of its input, where contracts know that, and what a task has done at its end (this
-- product).
use Rattle.std.specs.Prelude.{◌≡◌, ◌⊎◌, ℕ, Bool, true, false, List, Option, Some, None, Result, IfSome, IfOk, codes}
use Rattle.dc_poller.specs.Fold.{IsFolded}
use Rattle.dc_roots.specs.declared.root.Root.{Root}
use Rattle.dc_sectors.specs.declared.device.Disk.{Ghosts}
use Rattle.mbdc_audit.specs.File.{IsRight}
use Rattle.mbdc_bus.specs.declared.bus.Bus.{Ghosts as BusGhosts}
use Rattle.mbdc_change.specs.State.{State}
use Rattle.mbdc_commands.specs.Rescue.{Renews}
use Rattle.mbdc_commands.specs.declared.words.link.LinkName.{LinkName}
use Rattle.mbdc_commands.specs.declared.words.task.Engine.{Engine}
use Rattle.mbdc_commands.specs.declared.words.task.Engine.TheVariants.{Decode, Fold, Audit, Fill}
use Rattle.mbdc_commands.specs.declared.words.task.Task.{Task}
use Rattle.mbdc_commands.specs.declared.words.task.Task.TheVariants.{Lines, Sheet, Format, Run, Report, Inspect, Values}
use Rattle.mbdc_commands.specs.declared.words.task.Task.TheVariants.{Status, Fit, Order, Copy, Rescue, Poll, Bus, Demo}
use Rattle.mbdc_decode.specs.Text.{has_fault}
use Rattle.mbdc_ending.specs.Outcome.{EndsAs, IsOfFile}
use Rattle.mbdc_ending.specs.declared.ending.Ending.{Ending}
use Rattle.mbdc_ending.specs.declared.ending.Ending.TheVariants.{Clean}
use Rattle.mbdc_ending.specs.declared.fault.ProgramFault.{ProgramFault}
use Rattle.mbdc_files.specs.Copied.{IsCopied, IsUncopied}
use Rattle.mbdc_files.specs.Formatted.{IsFormatted, IsUnmade}
use Rattle.mbdc_io.specs.Lines.{lines_of}
use Rattle.mbdc_log.specs.declared.greatest.Greatest.{Greatest}
use Rattle.mbdc_log.specs.declared.rescuing.Source.{Source}
use Rattle.mbdc_sheet.specs.Sheet.{is_sheet}
use Rattle.mbdc.specs.Commands.{Fitted, Ordered, Polled, Refuses, Scripted}
use Rattle.mbdc.specs.Linked.{OnBus}

-- THE ANSWER OF AN ENGINE: whether a line or frame of the input has a fault, and of published numbers that they may be
-- wrong.
abbrev pub Answers : Engine → Option (List ℕ) → (faulty : Bool) → Type 0
Answers (Decode form) left faulty = IfSome left (λ input. faulty ≡ has_fault input)
Answers Fold left faulty = IfSome left (λ input. (text : List ℕ) × IsFolded input text faulty)
Answers Audit left faulty = faulty ≡ false → IfSome left (λ input. IsRight false (lines_of input))
Answers Fill left faulty = faulty ≡ false → IfSome left (λ input. IsRight true (lines_of input))

-- AN ENGINE OVER LINES: the file of that name, or standard input for -, was opened, and the ending is the engine's
-- answer over it, or says what stopped it; or the file isn't opened.
abbrev pub Works : {Input : Type 0} → (List ℕ → Input → Type 0) → (Input → Option (List ℕ)) → Engine → List ℕ
    → Ending → Type 0
Works {Input} opened left engine name ending = IsOfFile ending name ⊎ ((input : Input) × opened name input
    × (outcome : Result Bool ProgramFault) × IfOk outcome (Answers engine (left input)) × EndsAs outcome name ending)

-- A PAGE SHOWS A RIGHT FILE: the file's numbers are what its telegrams give, and the page shows them and no others.
pub record ShowsRight (page file : List ℕ) : Type 0 where
  pub right : IsRight false (lines_of file)
  pub shown : is_sheet page (lines_of file) ≡ true

-- A PAGE BESIDE ITS FILE: both were opened, and without a fault the page shows a right file; the ending is that answer,
-- or says what stopped the comparison, and of which of the two; or one of them isn't opened.
abbrev pub Compares : {Input : Type 0} → (List ℕ → Input → Type 0) → (Input → Option (List ℕ)) → (page file : List ℕ)
    → Ending → Type 0
Compares {Input} opened left page file ending = (IsOfFile ending page ⊎ IsOfFile ending file)
    ⊎ ((shown : Input) × opened page shown × (lines : Input) × opened file lines
    × (outcome : Result Bool ProgramFault) × (name : List ℕ) × ((name ≡ page) ⊎ (name ≡ file))
    × IfOk outcome (λ faulty. faulty ≡ false
    → IfSome (left shown) (λ text. IfSome (left lines) (λ input. ShowsRight text input)))
    × EndsAs outcome name ending)

-- AN IMAGE IS RESCUED: the old one was copied, and each image that a crash may leave of the new one stands for the state
-- that was rescued of the copy.
abbrev pub Rescues : {Old New : Type 0} → Ghosts Old → Ghosts New → (Old → Type 0) → (New → Type 0) → Type 0
Rescues {Old} {New} o n copied named = (copy : Old) × (cleared : Old) × (made : New) × (source : Source)
    × (root : Root) × (place : ℕ) × (last : ℕ) × (state : State) × (greatest : Greatest)
    × copied copy × named made × Renews o n copy cleared source root place last state greatest made

-- what a system has, as contracts see it: disks of copies, of new images and of those that a command writes, what was
-- copied, got a name or was opened, what is left of an input, and which link was connected, with which bus
pub record Files (Old New Image Input Peer B : Type 0) : Type 1 where
  pub old : Ghosts Old
  pub new : Ghosts New
  pub image : Ghosts Image
  pub copied : List ℕ → Old → Type 0
  pub named : List ℕ → New → Type 0
  pub held : List ℕ → Image → Type 0
  pub opened : List ℕ → Input → Type 0
  pub left : Input → Option (List ℕ)
  pub bus : BusGhosts B
  pub linked : LinkName → Peer → Type 0
  pub joined : Peer → ℕ → B → Type 0

-- WHAT A TASK HAS DONE AT ITS END, of the tasks whose files or link contracts name: its engine, over what has the task's
-- names.
abbrev pub Runs : {Old New Image Input Peer B : Type 0} → Files Old New Image Input Peer B → Task → Ending → Type 0
Runs s (Lines engine None) ending = Works s.opened s.left engine (codes "-") ending
Runs s (Lines engine (Some file)) ending = Works s.opened s.left engine file.now ending
Runs {Old} {New} {Image} {Input} {Peer} {B} s (Format image sectors) ending = IsUnmade ending image.now
    ⊎ ((ending ≡ Clean) × (made : New) × s.named image.now made × IsFormatted s.new sectors made)
Runs {Old} {New} {Image} {Input} {Peer} {B} s (Copy image file) ending =
    (IsUncopied ending image.now ⊎ IsUnmade ending file.now)
    ⊎ ((ending ≡ Clean) × (copy : Old) × (read : Old) × (made : New) × s.copied image.now copy
    × s.named file.now made × IsCopied s.old s.new copy read made)
Runs s (Rescue image file) ending = ending ≡ Clean → Rescues s.old s.new (s.copied image.now) (s.named file.now)
Runs s (Sheet page file) ending = Compares s.opened s.left page.now file.now ending
Runs s (Run task) ending = Refuses ending
    ⊎ Scripted s.image (s.held task.image.now) (s.opened task.script.now) s.left task.script.now ending
Runs s (Report image table is_json) ending = Unit {0}
Runs s (Inspect image) ending = Unit {0}
Runs s (Values image layout) ending = Unit {0}
Runs s (Status image silent layout) ending = Unit {0}
Runs s (Fit image list) ending = Refuses ending ⊎ Fitted s.image (s.held image.now) (s.opened list.now) s.left ending
Runs s (Order task) ending = Refuses ending ⊎ Ordered s.image (s.held task.image.now) task ending
Runs s (Poll task) ending = Refuses ending ⊎ Polled s.image (s.held task.image.now) task.only.items task.image.now ending
Runs s (Bus task) ending = Refuses ending ⊎ OnBus s.bus s.linked s.joined task ending
Runs s Demo ending = Unit {0}
