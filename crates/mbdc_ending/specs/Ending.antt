-- How a run of the program ends: the exit status, and the line on standard error (this product).
use Rattle.std.specs.Prelude.{ℕ, List, [], ◌++◌, codes, decimal, Option, None, Some}
use Rattle.dc_core.specs.Fault.{commit_number, commit_name}
use Rattle.mbdc_log.specs.Fault.{open_number, open_name, format_number, format_name}
use Rattle.mbdc_log.specs.declared.fault.OpenFault.{OpenFault}
use Rattle.mbdc_log.specs.declared.fault.OpenFault.TheVariants.{NotImage, Damaged, Version, Worn}
use Rattle.mbdc_log.specs.declared.fault.OpenFault.TheVariants.{Device, NoMemory}
use Rattle.mbdc_io.specs.Words.{number_word}
use Rattle.mbdc_ending.specs.Escape.{escaped}
use Rattle.mbdc_ending.specs.declared.ending.Ending.{Ending}
use Rattle.mbdc_ending.specs.declared.ending.Ending.TheVariants.{Clean, Faulty, Words, Format, Open}
use Rattle.mbdc_ending.specs.declared.ending.Ending.TheVariants.{Behind, Disk, File, Gateway, Clock, Memory}

abbrev pub status_of : Ending → ℕ
status_of Clean = 0
status_of Faulty = 1
status_of (Words what) = 2
status_of (Format fault) = 3
status_of (Open fault) = 3
status_of (Behind sector) = 3
status_of (Disk fault) = 3
status_of (File name) = 4
status_of Gateway = 4
status_of Clock = 4
status_of Memory = 4

-- a name after what is at fault with it
unfoldable pub named_line : List ℕ → List ℕ → List ℕ
named_line what name = what ++ escaped name ++ codes "\n"

-- the sector at which an image is damaged
abbrev pub damaged_at : OpenFault → Option ℕ
damaged_at NotImage = None
damaged_at (Damaged sector) = Some sector
damaged_at Version = None
damaged_at Worn = None
damaged_at Device = None
damaged_at NoMemory = None

-- a sector, if there is one
abbrev pub sector_word : Option ℕ → List ℕ
sector_word None = []
sector_word (Some sector) = number_word sector

-- a fault's number and name after what it is a fault of, and the damaged sector
unfoldable pub fault_line : List ℕ → ℕ → List ℕ → Option ℕ → List ℕ
fault_line what number name sector =
    what ++ (decimal number ++ (codes " " ++ (name ++ (sector_word sector ++ codes "\n"))))

-- the line, with its line feed
abbrev pub line_of : Ending → List ℕ
line_of Clean = []
line_of Faulty = []
line_of (Words what) = named_line (codes "mbdc: ") what.now
line_of (Format fault) = fault_line (codes "mbdc: format: ") (format_number fault)
    (format_name fault) None
line_of (Open fault) = fault_line (codes "mbdc: open: ") (open_number fault) (open_name fault)
    (damaged_at fault)
line_of (Behind sector) = codes "mbdc: behind: sector" ++ (number_word sector
    ++ codes " is ahead of what the image reads as; see mbdc rescue --help\n")
line_of (Disk fault) = fault_line (codes "mbdc: disk: ") (commit_number fault) (commit_name fault)
    None
line_of (File name) = named_line (codes "mbdc: file: ") name.now
line_of Gateway = codes "mbdc: gateway\n"
line_of Clock = codes "mbdc: clock: outside 1970 to 9999\n"
line_of Memory = codes "mbdc: memory\n"
