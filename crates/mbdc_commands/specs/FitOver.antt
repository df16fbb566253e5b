-- What the commands `fit`, `swap`, `move` and `out` do to an image, what it prints, and how it ends (this product).
use Rattle.std.specs.Prelude.{◌≡◌, Bool, true, false, List, [], ℕ, codes, Option, Result, Ok, Err, IfOk, IfErr}
use Rattle.std.specs.Prelude.{if◌then◌else◌}
use Rattle.mbdc_commands.specs.Bytes.{IsPrinted}
use Rattle.dc_core.specs.declared.fault.CommitFault.{CommitFault}
use Rattle.dc_core.specs.declared.fault.CommitFault.TheVariants.{Device, Worn, Stopped}
use Rattle.dc_sectors.specs.Runs.{LeavesOnly}
use Rattle.dc_sectors.specs.declared.device.Disk.{Ghosts}
use Rattle.mbdc_ending.specs.Outcome.{IsOfFile, opening_ended}
use Rattle.mbdc_ending.specs.declared.ending.Ending.{Ending}
use Rattle.mbdc_ending.specs.declared.ending.Ending.TheVariants.{Clean, Faulty, Disk, Memory}
use Rattle.mbdc_fit.specs.Fit.{Fits, FitsAll, IfDisk, IsBefore}
use Rattle.mbdc_fit.specs.Plan.{Outcome, fit_text}
use Rattle.mbdc_fit.specs.declared.fault.FitFault.{FitFault}
use Rattle.mbdc_fit.specs.declared.fault.FitFault.TheVariants.{Open, NoMemory, Disk as NotWritten}
use Rattle.mbdc_fit.specs.declared.list.wish.Wish.{Wish}
use Rattle.mbdc_log.specs.Halves.{half_of}
use Rattle.mbdc_log.specs.declared.fault.StoreFault.{StoreFault}
use Rattle.mbdc_log.specs.declared.fault.StoreFault.TheVariants.{Device as Failed, Worn as Exhausted, Stopped as Halted}
use Rattle.dc_core.specs.PendingImages.{StandsForOne}

-- a fault of the store as that of a commit
abbrev pub commit_fault : StoreFault → CommitFault
commit_fault Failed = Device
commit_fault Exhausted = Worn
commit_fault Halted = Stopped

-- status 0 says that no row is wrong and that all was printed; a disk that failed comes before that
abbrev pub FitEnds : Result Outcome FitFault → (is_printed : Bool) → Ending → Type 0
FitEnds (Ok plan) false ending = IsOfFile ending (codes "-")
FitEnds (Ok plan) true ending = ending ≡ (if plan.wrong then Faulty else Clean)
FitEnds (Err (Open fault)) is_printed ending = ending ≡ opening_ended fault
FitEnds (Err NoMemory) is_printed ending = ending ≡ Memory
FitEnds (Err (NotWritten fault)) is_printed ending = ending ≡ Disk (commit_fault fault)

-- what is printed: what was done or is wrong; nothing where the image wasn't opened or written
abbrev pub outcome_text : Result Outcome FitFault → List ℕ
outcome_text (Ok plan) = fit_text plan
outcome_text (Err fault) = []

-- THE COMMANDS, from the disk that is ready to the disk and to the ending: all that is asked is done, or nothing of it;
-- what is printed is what was done.
pub record FitsOver {D O : Type 0} (g : Ghosts D) (wish : Wish) (contents : O → Option (List ℕ)) (out : O)
    (disk left : D) (ending : Ending) : Type 0 where
  pub outcome : Result Outcome FitFault
  pub is_printed : Bool
  pub ends : FitEnds outcome is_printed ending
  pub printed : IsPrinted contents out is_printed (outcome_text outcome)
  pub fitted : IfOk outcome (λ plan. FitsAll g wish plan disk left)
  pub broken : IfErr outcome (λ fault. IfDisk fault (λ e. Fits g wish disk left))
  pub before : IfErr outcome (λ fault. IsBefore fault → g.keeps left
      → LeavesOnly g disk left (StandsForOne (half_of g disk) (g.choices disk)))
