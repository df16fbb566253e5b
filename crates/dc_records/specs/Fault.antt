-- The number and the name of each fault of a body (this product).
use Rattle.std.specs.Prelude.{ℕ, List, codes}
use Rattle.dc_records.specs.declared.fault.BodyFault.{BodyFault}
use Rattle.dc_records.specs.declared.fault.BodyFault.TheVariants.{Short, BadIdentity, Encrypted}
use Rattle.dc_records.specs.declared.fault.BodyFault.TheVariants.{ReservedDif, TooManyDife}
use Rattle.dc_records.specs.declared.fault.BodyFault.TheVariants.{TooManyVife, BadLength}
use Rattle.dc_records.specs.declared.fault.BodyFault.TheVariants.{PlainTextExtension, Cut}

abbrev pub number_of : BodyFault → ℕ
number_of Short = 1
number_of BadIdentity = 2
number_of Encrypted = 3
number_of ReservedDif = 4
number_of TooManyDife = 5
number_of TooManyVife = 6
number_of BadLength = 7
number_of PlainTextExtension = 8
number_of Cut = 9

abbrev pub name_of : BodyFault → List ℕ
name_of Short = codes "Short"
name_of BadIdentity = codes "BadIdentity"
name_of Encrypted = codes "Encrypted"
name_of ReservedDif = codes "ReservedDif"
name_of TooManyDife = codes "TooManyDife"
name_of TooManyVife = codes "TooManyVife"
name_of BadLength = codes "BadLength"
name_of PlainTextExtension = codes "PlainTextExtension"
name_of Cut = codes "Cut"
