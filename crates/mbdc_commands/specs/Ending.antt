-- How a poll and a script end (this product), where what they print may be lost: a full disk of a log.
use Rattle.std.specs.Prelude.{◌≡◌, ◌==◌, ℕ, Bool, true, false, List, codes, Option, None, Some, Result, Ok, Err}
use Rattle.dc_core.specs.declared.fault.CommitFault.{CommitFault}
use Rattle.mbdc_ending.specs.Outcome.{IsOfFile, StopsAs}
use Rattle.mbdc_ending.specs.declared.ending.Ending.{Ending}
use Rattle.mbdc_ending.specs.declared.ending.Ending.TheVariants.{Clean, Faulty, Open, Behind, Disk}
use Rattle.mbdc_ending.specs.declared.fault.ProgramFault.{ProgramFault}
use Rattle.mbdc_ending.specs.declared.fault.ProgramFault.TheVariants.{Write}
use Rattle.mbdc_log.specs.declared.fault.OpenFault.{OpenFault}
use Rattle.mbdc_log.specs.declared.fault.OpenFault.TheVariants.{Device}
use Rattle.mbdc_poll.specs.declared.outcome.Outcome.{Outcome}

-- A failed commit comes first, then lost output, and then a meter that wasn't read.
abbrev pub EndsBy : Option CommitFault → (is_printed is_read : Bool) → Ending → Type 0
EndsBy (Some fault) is_printed is_read ending = ending ≡ Disk fault
EndsBy None false is_read ending = IsOfFile ending (codes "-")
EndsBy None true true ending = ending ≡ Clean
EndsBy None true false ending = ending ≡ Faulty

-- THE ENDING OF A POLL. Where it stopped it is that of the fault, whatever was printed.
abbrev pub PollEnds : Result Outcome ProgramFault → Bool → List ℕ → Ending → Type 0
PollEnds (Ok outcome) is_printed image ending =
    EndsBy outcome.fault is_printed (outcome.failed == 0) ending
PollEnds (Err fault) is_printed image ending = StopsAs fault image ending

-- THE ENDING OF A LOOK: what reads is printed in each case. A sector that is ahead comes first, then why the image
-- wouldn't be opened, and then a meter that is silent. Status 0 says that the image would be opened: each sector that was
-- read is whole, too.
abbrev pub look_ended : Option OpenFault → Option ℕ → (is_whole is_silent : Bool) → Ending
look_ended refusal (Some sector) is_whole is_silent = Behind sector
look_ended (Some fault) None is_whole is_silent = Open fault
look_ended None None false is_silent = Open Device
look_ended None None true true = Faulty
look_ended None None true false = Clean

-- The result of a script of which all that was held back of its text is written, or isn't.
abbrev pub run_result : Result Bool ProgramFault → (is_written : Bool) → Result Bool ProgramFault
run_result result true = result
run_result result false = Err Write
