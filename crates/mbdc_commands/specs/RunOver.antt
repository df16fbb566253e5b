-- What the command `run` does to an image, what it writes, and how it ends (this product).
use Rattle.std.specs.Prelude.{◌≡◌, ◌≢◌, ◌⊎◌, ◌≤◌, ◌<◌, ℕ, Bool, List, [], length, Option, IfSome}
use Rattle.std.specs.Prelude.{Result, IfOk, IfErr, OnOk, IsErrOf}
use Rattle.mbdc_commands.specs.Bytes.{IsPrinted}
use Rattle.mbdc_commands.specs.Ending.{run_result}
use Rattle.dc_sectors.specs.declared.device.Disk.{Ghosts}
use Rattle.mbdc_ending.specs.Fault.{IfOpen, IsOfReading}
use Rattle.mbdc_ending.specs.Unopened.{IsUnopened}
use Rattle.mbdc_ending.specs.declared.fault.ProgramFault.{ProgramFault}
use Rattle.mbdc_ending.specs.declared.fault.ProgramFault.TheVariants.{TooLong, Write, NoMemory}
use Rattle.mbdc_io.specs.Lines.{most_input}
use Rattle.dc_poller.specs.ImageRun.{ImageCut, ImageRan}
use Rattle.dc_poller.specs.Link.{Link}
use Rattle.dc_poller.specs.Starved.{ImageStarved, IsOfSearch}
use Rattle.dc_poller.specs.Traffic.{AreCarried}
use Rattle.mbdc_bus.specs.Bus.{Exchange}

-- What is said of the exchanges over the gateway of a command, however its way to it is left.
abbrev pub Over : Type 1
Over = ((List Exchange → Type 0) → Type 0) → Type 0

-- it is that over this gateway
abbrev pub OverGateway : {B : Type 0} → (B → Bool) → (B → List ℕ → List ℕ → B → Type 0) → Option B
    → Option B → Over
OverGateway lost asks old new said = said (AreCarried lost asks old new)

-- THE COMMAND `run`, from the disk to the disk: this came of the script, and all of its text was written or wasn't. The
-- result follows from both. Each image of the disk stands for some state, and the run is that of the script's lines.
pub record RunsOver {D O : Type 0} (g : Ghosts D) (link : Link)
    (script : Option (List ℕ)) (over : Over) (contents : O → Option (List ℕ)) (out : O)
    (disk left : D) (result : Result Bool ProgramFault) : Type 0 where
  pub outcome : Result Bool ProgramFault
  pub is_written : Bool
  pub result_is : result ≡ run_result outcome is_written
  pub ran : IfOk outcome (λ faulty. over (λ carries.
      ImageRan g link script faulty (IsPrinted contents out is_written) carries disk left))
  pub cut : IsErrOf outcome Write → over (λ carries. ImageCut g link script carries disk left)
  pub starved : IsErrOf outcome NoMemory → (left ≡ disk) ⊎ over (λ carries.
      ImageStarved g link script (IsPrinted contents out is_written) carries disk left)
  -- what isn't read touches nothing, and an image that isn't opened is refused as by the store
  pub unread : IfErr outcome (λ fault.
      IsOfReading fault → (left ≡ disk) ⊎ IsOfSearch link fault)
  pub unopened : IfErr outcome (λ fault. IfOpen fault (IsUnopened g disk left))
  pub silent : IfErr outcome (λ fault. fault ≢ Write
      → IsPrinted contents out is_written [] ⊎ IsOfSearch link fault)
  -- exactly the scripts over the limit are rejected for their length
  pub fits : OnOk outcome (IfSome script (λ input. length input ≤ most_input))
  pub too_long : IsErrOf outcome TooLong → IfSome script (λ input. most_input < length input)
