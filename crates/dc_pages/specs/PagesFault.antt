-- The numbers and names of the faults of a group (this product).
use Rattle.std.specs.Prelude.{ℕ, List, codes}
use Rattle.dc_pages.specs.declared.fault.GroupFault.{GroupFault}
use Rattle.dc_pages.specs.declared.fault.GroupFault.TheVariants.{Incomplete, Device, NoMemory}

abbrev pub number_of : GroupFault → ℕ
number_of (Incomplete sector) = 1
number_of Device = 2
number_of NoMemory = 3

abbrev pub name_of : GroupFault → List ℕ
name_of (Incomplete sector) = codes "Incomplete"
name_of Device = codes "Device"
name_of NoMemory = codes "NoMemory"
