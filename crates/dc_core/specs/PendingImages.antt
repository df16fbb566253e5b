-- The store's definitions, of the register: what `mbdc_log` says of any state, said of the house's.
use Rattle.std.specs.Prelude.{ℕ, List, Option}
use Rattle.dc_sectors.specs.declared.device.Disk.{Ghosts}
use Rattle.dc_sectors.specs.Disk.{Image, Choices}
use Rattle.mbdc_change.specs.State.{State}
use Rattle.mbdc_change.specs.declared.change.Change.{Change}
use Rattle.dc_meters.specs.Language.{register}
use Rattle.dc_roots.specs.declared.root.Root.{Root}
use Rattle.mbdc_log.specs.declared.fault.OpenFault.{OpenFault}
use Rattle.mbdc_log.specs.Stands as standing
use Rattle.mbdc_log.specs.Refusal as refusal
use Rattle.mbdc_log.specs.Behind as behind
use Rattle.mbdc_log.specs.Store as store
use Rattle.mbdc_log.specs.Store.{Opened}

abbrev pub Reads : ℕ → State → Image → Type 0
Reads = standing.Reads register

-- the image stands for this state of the register
abbrev pub Stands : ℕ → State → Image → Type 0
Stands = standing.Stands register

abbrev pub IsRead : ℕ → Root → ℕ → ℕ → State → Image → Type 0
IsRead = standing.IsRead register

-- each image of these possible contents stands for some state of the register
abbrev pub EachStands : ℕ → Choices → Type 0
EachStands = standing.EachStands register

-- the image stands for the same state as some image of these possible contents
abbrev pub StandsForOne : ℕ → Choices → Image → Type 0
StandsForOne = standing.StandsForOne register

abbrev pub StandsForEither : ℕ → State → State → Image → Type 0
StandsForEither = standing.StandsForEither register

-- the image stands for the state after a prefix of these changes
abbrev pub StandsForFront : ℕ → State → List Change → Image → Type 0
StandsForFront = standing.StandsForFront register

abbrev pub IsRefused : ℕ → Image → OpenFault → Type 0
IsRefused = refusal.IsRefused register

abbrev pub IsUnread : ℕ → Image → OpenFault → Type 0
IsUnread = refusal.IsUnread register

abbrev pub IsBehindAt : ℕ → Option ℕ → Image → Type 0
IsBehindAt = behind.IsBehindAt register

abbrev pub IsWorn : ℕ → Image → Type 0
IsWorn = refusal.IsWorn register

-- the open store keeps this state of the register
abbrev pub Keeps : {D : Type 0} → Ghosts D → Opened D → State → Type 0
Keeps g opened state = store.Keeps register g opened state
