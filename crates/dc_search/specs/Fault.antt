-- The faults of a search (this product).
use Rattle.std.specs.Prelude.{ℕ, List, codes}
use Rattle.dc_search.specs.declared.fault.SearchFault.{SearchFault}
use Rattle.dc_search.specs.declared.fault.SearchFault.TheVariants.{Idle, NoMemory}

abbrev pub number_of : SearchFault → ℕ
number_of Idle = 1
number_of NoMemory = 2

abbrev pub name_of : SearchFault → List ℕ
name_of Idle = codes "Idle"
name_of NoMemory = codes "NoMemory"
