-- The ending of a run, by its engine's result (this product).
use Rattle.std.specs.Prelude.{◌≡◌, ℕ, Bool, true, false, List, codes, Result, Ok, Err}
use Rattle.mbdc_log.specs.declared.fault.OpenFault.{OpenFault}
use Rattle.mbdc_log.specs.declared.fault.OpenFault.TheVariants.{NotImage, Damaged, Version, Worn}
use Rattle.mbdc_log.specs.declared.fault.OpenFault.TheVariants.{Device}
use Rattle.mbdc_log.specs.declared.fault.OpenFault.TheVariants.{NoMemory as NoMemoryToOpen}
use Rattle.mbdc_ending.specs.declared.fault.ProgramFault.{ProgramFault}
use Rattle.mbdc_ending.specs.declared.fault.ProgramFault.TheVariants.{Read, TooLong, Write, NoMemory}
use Rattle.mbdc_ending.specs.declared.fault.ProgramFault.TheVariants.{Open as NotOpened}
use Rattle.mbdc_ending.specs.declared.ending.Ending.{Ending}
use Rattle.mbdc_ending.specs.declared.ending.Ending.TheVariants.{Clean, Faulty, Words, Format, Open}
use Rattle.mbdc_ending.specs.declared.ending.Ending.TheVariants.{Behind, Disk, File, Gateway, Clock, Memory}

-- the run ended by a fault of the file with that name
abbrev pub IsOfFile : Ending → List ℕ → Type 0
IsOfFile Clean wanted = ⊥
IsOfFile Faulty wanted = ⊥
IsOfFile (Words what) wanted = ⊥
IsOfFile (Format fault) wanted = ⊥
IsOfFile (Open fault) wanted = ⊥
IsOfFile (Behind sector) wanted = ⊥
IsOfFile (Disk fault) wanted = ⊥
IsOfFile (File name) wanted = name.now ≡ wanted
IsOfFile Gateway wanted = ⊥
IsOfFile Clock wanted = ⊥
IsOfFile Memory wanted = ⊥

-- an image that isn't opened is at fault, unless there was no memory to open it
abbrev pub opening_ended : OpenFault → Ending
opening_ended NotImage = Open NotImage
opening_ended (Damaged sector) = Open (Damaged sector)
opening_ended Version = Open Version
opening_ended Worn = Open Worn
opening_ended Device = Open Device
opening_ended NoMemoryToOpen = Memory

-- a fault of reading is one of the input, a fault of writing one of the output
abbrev pub StopsAs : ProgramFault → List ℕ → Ending → Type 0
StopsAs Read input ending = IsOfFile ending input
StopsAs TooLong input ending = IsOfFile ending input
StopsAs Write input ending = IsOfFile ending (codes "-")
StopsAs NoMemory input ending = ending ≡ Memory
StopsAs (NotOpened fault) input ending = ending ≡ opening_ended fault

-- an engine answers whether a line was at fault, or what stopped it
abbrev pub EndsAs : Result Bool ProgramFault → List ℕ → Ending → Type 0
EndsAs (Ok false) input ending = ending ≡ Clean
EndsAs (Ok true) input ending = ending ≡ Faulty
EndsAs (Err fault) input ending = StopsAs fault input ending
