-- What `run` does to an image (this product): the concentrator is opened, runs the script, and is closed.
use Rattle.std.specs.Prelude.{◌≡◌, ℕ, Bool, Option, IfSome, List, ◌++◌}
use Rattle.mbdc_change.specs.State.{State}
use Rattle.dc_core.specs.Headline.{WasStopped}
use Rattle.dc_core.specs.Images.{Machine}
use Rattle.dc_core.specs.Transcript.{Turn}
use Rattle.mbdc_bus.specs.Bus.{Exchange}
use Rattle.mbdc_io.specs.Lines.{lines_of}
use Rattle.dc_sectors.specs.declared.device.Disk.{Ghosts}
use Rattle.dc_sectors.specs.Runs.{WasLeft}
use Rattle.dc_core.specs.OpenedOn.{IsOpenedOn}
use Rattle.dc_poller.specs.Link.{Link}
use Rattle.dc_poller.specs.Run.{run_from}
use Rattle.dc_poller.specs.Script.{ScriptRan, ScriptCut}

-- A run from the disk to the disk: `left` is what the reader had left, where it says that, and `script` what the
-- lines of the input did to the concentrator that was opened. The turns of the script are one life (law
-- `a_run_is_one_life`).
pub record ImageWent {D : Type 0} (g : Ghosts D) (left : Option (List ℕ))
    (script : List (List ℕ) → State → Machine D → Machine D → Type 0) (disk new : D) : Type 0 where
  pub input : List ℕ
  pub input_is : IfSome left (λ known. input ≡ known)
  pub state : State
  pub first : Machine D
  pub last : Machine D
  pub opening : IsOpenedOn g disk state first
  pub went : script (lines_of input) state first last
  pub disk_is : new ≡ last.store.disk

-- Its lines are done, with these exchanges over the gateway, which is found like this.
abbrev pub ImageRan : {D : Type 0} → Ghosts D → Link → Option (List ℕ) → Bool
    → (List ℕ → Type 0) → (List Exchange → Type 0) → D → D → Type 0
ImageRan g link left faulty wrote carries =
    ImageWent g left (λ lines state first last.
    ScriptRan g (run_from state first last) link lines faulty wrote carries)

-- A failed write ended it.
abbrev pub ImageCut : {D : Type 0} → Ghosts D → Link → Option (List ℕ)
    → (List Exchange → Type 0) → D → D → Type 0
ImageCut g link left carries =
    ImageWent g left (λ lines state first last.
    ScriptCut g (run_from state first last) link lines carries)

-- THE TURNS ARE ONE LIFE, which began with the state and ended at the last machine. Wherever the
-- turns are split, a machine was between the two parts, and a disk with what a power cut left at
-- any moment after that `WasStopped`.
abbrev pub IsOneLife : {D : Type 0} → Ghosts D → State → List Turn → Machine D → Type 0
IsOneLife {D} g state turns last = (done more : List Turn) → done ++ more ≡ turns
    → (now : Machine D) × ((disk : D) → WasLeft g now.store.disk last.store.disk disk
    → WasStopped g state done more disk)
