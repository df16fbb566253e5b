-- The number and the name of each fault.
use Rattle.std.specs.Prelude.{ℕ, List, codes}
use Rattle.dc_upload.specs.declared.fault.ReplyFault.{ReplyFault}
use Rattle.dc_upload.specs.declared.fault.ReplyFault.TheVariants.{NoMemory, Write}

abbrev pub number_of : ReplyFault → ℕ
number_of NoMemory = 1
number_of Write = 2

abbrev pub name_of : ReplyFault → List ℕ
name_of NoMemory = codes "NoMemory"
name_of Write = codes "Write"
