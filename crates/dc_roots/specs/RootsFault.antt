-- The numbers and names of the faults of roots (this product).
use Rattle.std.specs.Prelude.{ℕ, List, codes}
use Rattle.dc_roots.specs.declared.fault.RootFault.{RootFault}
use Rattle.dc_roots.specs.declared.fault.RootFault.TheVariants.{NoRoot, Worn, Device}

abbrev pub number_of : RootFault → ℕ
number_of (NoRoot slot) = 1
number_of Worn = 2
number_of Device = 3

abbrev pub name_of : RootFault → List ℕ
name_of (NoRoot slot) = codes "NoRoot"
name_of Worn = codes "Worn"
name_of Device = codes "Device"
