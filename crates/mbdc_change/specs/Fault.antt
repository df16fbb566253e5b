-- The number and the name of each fault.
use Rattle.std.specs.Prelude.{ℕ, List, codes}
use Rattle.mbdc_change.specs.declared.fault.ChangeFault.{ChangeFault}
use Rattle.mbdc_change.specs.declared.fault.ChangeFault.TheVariants.{Unknown, Known, AddressTaken}
use Rattle.mbdc_change.specs.declared.fault.ChangeFault.TheVariants.{Beyond, Full}

abbrev pub number_of : ChangeFault → ℕ
number_of Unknown = 1
number_of Known = 2
number_of AddressTaken = 3
number_of Beyond = 4
number_of Full = 5

abbrev pub name_of : ChangeFault → List ℕ
name_of Unknown = codes "Unknown"
name_of Known = codes "Known"
name_of AddressTaken = codes "AddressTaken"
name_of Beyond = codes "Beyond"
name_of Full = codes "Full"
