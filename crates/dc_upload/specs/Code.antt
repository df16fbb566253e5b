-- Why a billing office's line is refused (this product), and the code's word.
use Rattle.std.specs.Prelude.{ℕ, List, codes}
use Rattle.mbdc_change.specs.declared.fault.ChangeFault.{ChangeFault}
use Rattle.mbdc_change.specs.declared.fault.ChangeFault.TheVariants as fault
use Rattle.dc_upload.specs.declared.code.Code.{Code}
use Rattle.dc_upload.specs.declared.code.Code.TheVariants.{Syntax, Store, Order, Known, Unknown}
use Rattle.dc_upload.specs.declared.code.Code.TheVariants.{Address, Beyond, Gone, Full, Memory}

abbrev pub word_of : Code → List ℕ
word_of Syntax = codes "SYNTAX"
word_of Store = codes "STORE"
word_of (Order last) = codes "ORDER"
word_of Known = codes "KNOWN"
word_of Unknown = codes "UNKNOWN"
word_of Address = codes "ADDRESS"
word_of Beyond = codes "BEYOND"
word_of (Gone confirmed) = codes "GONE"
word_of Full = codes "FULL"
word_of Memory = codes "MEMORY"

-- the code of a change's fault
abbrev pub code_of : ChangeFault → Code
code_of fault.Unknown = Unknown
code_of fault.Known = Known
code_of fault.AddressTaken = Address
code_of fault.Beyond = Beyond
code_of fault.Full = Full
