-- How a command over one bus ends, and what it prints last (this product).
use Rattle.std.specs.Prelude.{◌≡◌, ◌==◌, ◌++◌, ℕ, Bool, true, false, List, [], codes, if◌then◌else◌}
use Rattle.std.specs.Prelude.{Result, Ok, Err}
use Rattle.mbdc_ending.specs.Outcome.{IsOfFile}
use Rattle.mbdc_ending.specs.declared.ending.Ending.{Ending}
use Rattle.mbdc_ending.specs.declared.ending.Ending.TheVariants.{Clean, Faulty, Gateway, Memory}
use Rattle.mbdc_installer.specs.declared.wildcards.ScanFault.{ScanFault}
use Rattle.mbdc_installer.specs.declared.wildcards.ScanFault.TheVariants.{Write, NoMemory}
use Rattle.mbdc_io.specs.Failures.{HasRisen}
use Rattle.mbdc_io.specs.Words.{number_word}
use Rattle.mbdc_io.specs.declared.stream.Sink.{Ghosts}

unfoldable pub late_line : ℕ → List ℕ
late_line late = codes "LATE" ++ number_word late ++ codes "\n"

-- the number of times that bytes came which nothing on the bus could have sent, if any
abbrev pub late_text : ℕ → List ℕ
late_text late = if late == 0 then [] else late_line late

-- What stopped a command before all was printed: the output failed; or memory ran out, and then nothing was printed.
abbrev pub IsStopped : {S : Type 0} → Ghosts S → S → S → ScanFault → Type 0
IsStopped g old new Write = HasRisen (g.put_failures old) (g.put_failures new)
IsStopped g old new NoMemory = new ≡ old

-- where all was printed, a lost bus comes first, and then what was at fault
abbrev pub ended : (is_lost is_faulty : Bool) → Ending
ended true is_faulty = Gateway
ended false true = Faulty
ended false false = Clean

-- THE ENDING of a command, by whether something was at fault, or by what stopped it
abbrev pub EndsOver : (is_lost : Bool) → Result Bool ScanFault → Ending → Type 0
EndsOver is_lost (Ok is_faulty) ending = ending ≡ ended is_lost is_faulty
EndsOver is_lost (Err Write) ending = IsOfFile ending (codes "-")
EndsOver is_lost (Err NoMemory) ending = ending ≡ Memory
