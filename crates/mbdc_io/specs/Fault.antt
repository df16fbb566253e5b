-- The faults that stop an engine over lines, by number and by name (this product).
use Rattle.std.specs.Prelude.{ℕ, List, codes}
use Rattle.mbdc_io.specs.declared.text_fault.TextFault.{TextFault}
use Rattle.mbdc_io.specs.declared.text_fault.TextFault.TheVariants.{Read, TooLong, Write, NoMemory}

abbrev pub number_of : TextFault → ℕ
number_of Read = 1
number_of TooLong = 2
number_of Write = 3
number_of NoMemory = 4

abbrev pub name_of : TextFault → List ℕ
name_of Read = codes "Read"
name_of TooLong = codes "TooLong"
name_of Write = codes "Write"
name_of NoMemory = codes "NoMemory"
