-- The numbers and names of the store's faults: this product.
use Rattle.std.specs.Prelude.{ℕ, List, codes}
use Rattle.mbdc_log.specs.declared.fault.OpenFault.{OpenFault}
use Rattle.mbdc_log.specs.declared.fault.OpenFault.TheVariants.{NotImage, Damaged, Version, Worn}
use Rattle.mbdc_log.specs.declared.fault.OpenFault.TheVariants.{Device, NoMemory}
use Rattle.mbdc_log.specs.declared.fault.FormatFault.{FormatFault}
use Rattle.mbdc_log.specs.declared.fault.FormatFault.TheVariants.{TooSmall, AlreadyFormatted}
use Rattle.mbdc_log.specs.declared.fault.FormatFault.TheVariants.{Device as FormatDevice}
use Rattle.mbdc_log.specs.declared.fault.StoreFault.{StoreFault}
use Rattle.mbdc_log.specs.declared.fault.StoreFault.TheVariants.{Device as StoreDevice}
use Rattle.mbdc_log.specs.declared.fault.StoreFault.TheVariants.{Worn as StoreWorn, Stopped}

abbrev pub open_number : OpenFault → ℕ
open_number NotImage = 1
open_number (Damaged sector) = 2
open_number Version = 3
open_number Worn = 4
open_number Device = 5
open_number NoMemory = 6

abbrev pub open_name : OpenFault → List ℕ
open_name NotImage = codes "NotImage"
open_name (Damaged sector) = codes "Damaged"
open_name Version = codes "Version"
open_name Worn = codes "Worn"
open_name Device = codes "Device"
open_name NoMemory = codes "NoMemory"

abbrev pub format_number : FormatFault → ℕ
format_number TooSmall = 1
format_number AlreadyFormatted = 2
format_number FormatDevice = 3

abbrev pub format_name : FormatFault → List ℕ
format_name TooSmall = codes "TooSmall"
format_name AlreadyFormatted = codes "AlreadyFormatted"
format_name FormatDevice = codes "Device"

abbrev pub store_number : StoreFault → ℕ
store_number StoreDevice = 1
store_number StoreWorn = 2
store_number Stopped = 3

abbrev pub store_name : StoreFault → List ℕ
store_name StoreDevice = codes "Device"
store_name StoreWorn = codes "Worn"
store_name Stopped = codes "Stopped"
