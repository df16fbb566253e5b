-- The number and the name of each decoding fault.
use Rattle.std.specs.Prelude.{ℕ, List, codes}
use Rattle.mbdc_change.specs.declared.decode_fault.DecodeFault.{DecodeFault}
use Rattle.mbdc_change.specs.declared.decode_fault.DecodeFault.TheVariants.{Bad, NoMemory}

abbrev pub number_of : DecodeFault → ℕ
number_of Bad = 1
number_of NoMemory = 2

abbrev pub name_of : DecodeFault → List ℕ
name_of Bad = codes "Bad"
name_of NoMemory = codes "NoMemory"
