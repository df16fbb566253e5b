-- The faults that stop an engine of the program, by number and by name (this product).
use Rattle.std.specs.Prelude.{◌≡◌, ℕ, List, codes}
use Rattle.mbdc_log.specs.declared.fault.OpenFault.{OpenFault}
use Rattle.mbdc_ending.specs.declared.fault.ProgramFault.{ProgramFault}
use Rattle.mbdc_ending.specs.declared.fault.ProgramFault.TheVariants.{Read, TooLong, Write, NoMemory}
use Rattle.mbdc_ending.specs.declared.fault.ProgramFault.TheVariants.{Open}
use Rattle.mbdc_io.specs.declared.text_fault.TextFault.{TextFault}
use Rattle.mbdc_io.specs.declared.text_fault.TextFault.TheVariants.{Read as NotRead}
use Rattle.mbdc_io.specs.declared.text_fault.TextFault.TheVariants.{TooLong as TooMuch}
use Rattle.mbdc_io.specs.declared.text_fault.TextFault.TheVariants.{Write as NotWritten}
use Rattle.mbdc_io.specs.declared.text_fault.TextFault.TheVariants.{NoMemory as Refused}

abbrev pub number_of : ProgramFault → ℕ
number_of Read = 1
number_of TooLong = 2
number_of Write = 3
number_of NoMemory = 4
number_of (Open fault) = 5

abbrev pub name_of : ProgramFault → List ℕ
name_of Read = codes "Read"
name_of TooLong = codes "TooLong"
name_of Write = codes "Write"
name_of NoMemory = codes "NoMemory"
name_of (Open fault) = codes "Open"

-- the fault of the program for a fault of printing an input
abbrev pub stopped_by : TextFault → ProgramFault
stopped_by NotRead = Read
stopped_by TooMuch = TooLong
stopped_by NotWritten = Write
stopped_by Refused = NoMemory

-- what is stated of the reason why an image wasn't opened
abbrev pub IfOpen : ProgramFault → (OpenFault → Type 0) → Type 0
IfOpen Read said = Unit {0}
IfOpen TooLong said = Unit {0}
IfOpen Write said = Unit {0}
IfOpen NoMemory said = Unit {0}
IfOpen (Open fault) said = said fault

-- the input wasn't read, or memory for it ran out
abbrev pub IsOfReading : ProgramFault → Type 0
IsOfReading Read = Unit {0}
IsOfReading TooLong = Unit {0}
IsOfReading Write = ⊥
IsOfReading NoMemory = Unit {0}
IsOfReading (Open fault) = ⊥

-- the image wasn't opened, its table wasn't made, or it wasn't written
abbrev pub IsOfImage : ProgramFault → Type 0
IsOfImage Read = ⊥
IsOfImage TooLong = ⊥
IsOfImage Write = Unit {0}
IsOfImage NoMemory = Unit {0}
IsOfImage (Open fault) = Unit {0}
