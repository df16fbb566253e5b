-- The numbers and names of the concentrator's faults (this product).
use Rattle.std.specs.Prelude.{ℕ, List, codes}
use Rattle.dc_core.specs.declared.pending.fault.TakeFault.{TakeFault}
use Rattle.dc_core.specs.declared.pending.fault.TakeFault.TheVariants.{PendingFull as TakePendingFull}
use Rattle.dc_core.specs.declared.pending.fault.TakeFault.TheVariants.{Full as TakeFull}
use Rattle.dc_core.specs.declared.pending.fault.TakeFault.TheVariants.{NoMemory as TakeNoMemory}
use Rattle.dc_core.specs.declared.fault.StartFault.{StartFault}
use Rattle.dc_core.specs.declared.fault.StartFault.TheVariants.{NoLine as StartNoLine, Unknown}
use Rattle.dc_core.specs.declared.fault.StartFault.TheVariants.{Busy, Stopped as StartStopped}
use Rattle.dc_core.specs.declared.fault.HearFault.{HearFault}
use Rattle.dc_core.specs.declared.fault.HearFault.TheVariants.{NoLine, Idle, Full, NoMemory}
use Rattle.dc_core.specs.declared.fault.HearFault.TheVariants.{PendingFull, Stopped}
use Rattle.dc_core.specs.declared.fault.CommitFault.{CommitFault}
use Rattle.dc_core.specs.declared.fault.CommitFault.TheVariants.{Device, Worn}
use Rattle.dc_core.specs.declared.fault.CommitFault.TheVariants.{Stopped as CommitStopped}

abbrev pub start_number : StartFault → ℕ
start_number StartNoLine = 1
start_number Unknown = 2
start_number Busy = 3
start_number StartStopped = 4

abbrev pub start_name : StartFault → List ℕ
start_name StartNoLine = codes "NoLine"
start_name Unknown = codes "Unknown"
start_name Busy = codes "Busy"
start_name StartStopped = codes "Stopped"

abbrev pub hear_number : HearFault → ℕ
hear_number NoLine = 1
hear_number Idle = 2
hear_number Full = 3
hear_number NoMemory = 4
hear_number PendingFull = 5
hear_number Stopped = 6

abbrev pub hear_name : HearFault → List ℕ
hear_name NoLine = codes "NoLine"
hear_name Idle = codes "Idle"
hear_name Full = codes "Full"
hear_name NoMemory = codes "NoMemory"
hear_name PendingFull = codes "PendingFull"
hear_name Stopped = codes "Stopped"

abbrev pub commit_number : CommitFault → ℕ
commit_number Device = 1
commit_number Worn = 2
commit_number CommitStopped = 3

abbrev pub commit_name : CommitFault → List ℕ
commit_name Device = codes "Device"
commit_name Worn = codes "Worn"
commit_name CommitStopped = codes "Stopped"

-- the answer of a line to a telegram that wasn't taken
abbrev pub hear_fault : TakeFault → HearFault
hear_fault TakePendingFull = PendingFull
hear_fault TakeFull = Full
hear_fault TakeNoMemory = NoMemory
