-- The result of reading an image: for the contracts of private functions.
use Rattle.std.specs.Prelude.{◌≡◌, ◌⊎◌, ◌≤◌, ℕ, Option, option_map, IfSome, Result}
use Rattle.std.specs.Prelude.{IfErr, IsErrOf}
use Rattle.mbdc_io.specs.Failures.{HasRisen}
use Rattle.dc_sectors.specs.Disk.{Image}
use Rattle.dc_sectors.specs.Runs.{Counts}
use Rattle.dc_sectors.specs.declared.device.Disk.{Ghosts}
use Rattle.mbdc_change.specs.State.{Held}
use Rattle.dc_roots.specs.Held.{IsHeld}
use Rattle.mbdc_ending.specs.declared.fault.ProgramFault.{ProgramFault}
use Rattle.mbdc_ending.specs.declared.fault.ProgramFault.TheVariants.{Open, NoMemory as Refused}
use Rattle.mbdc_log.specs.Halves.{budget_of, half_start, half_end}
use Rattle.mbdc_log.specs.declared.fault.OpenFault.{OpenFault}
use Rattle.mbdc_log.specs.declared.fault.OpenFault.TheVariants.{Device, NoMemory}
use Rattle.mbdc_log.specs.declared.greatest.Greatest.{Greatest}
use Rattle.mbdc_log.specs.declared.reading.Found.{Found}
use Rattle.mbdc_looks.specs.Told.{Seen, IsLook, IsOfLook}
use Rattle.mbdc_looks.specs.declared.look.Outlook.{Outlook}
use Rattle.mbdc_looks.specs.declared.look.Slots.{Slots}

-- the contents of the slots
abbrev pub AreHeld : Image → Slots → Type 0
AreHeld image slots = IsHeld 1 (image 1) slots.first × IsHeld 2 (image 2) slots.second

-- what was found, as contracts see it
abbrev pub seen_of : {A : Type 0} → Found Held A → Seen
seen_of found = record {
  root = found.root;
  last = found.last;
  place = found.place;
  state = found.house.state;
}

-- Where a state was found, its budget is that of a half, and its place lies in its half.
abbrev pub IsPlaced : {A : Type 0} → ℕ → Option (Found Held A) → Type 0
IsPlaced half_len found =
    IfSome found (λ f. f.house.budget ≡ budget_of half_len)
    × IfSome found (λ f. f.root.half ≤ 1)
    × IfSome found (λ f. half_start half_len f.root.half ≤ f.place)
    × IfSome found (λ f. f.place ≤ half_end half_len f.root.half)

abbrev pub IsSeenAs : {A : Type 0} → ℕ → Greatest → Image → Option (Found Held A) → Outlook → Type 0
IsSeenAs half_len greatest image found outlook = IsLook half_len greatest image (option_map seen_of found) outlook

-- Its failures are counted, and what ends it is the disk, which has counted one, or memory.
abbrev pub EndsLook : {D X : Type 0} → Ghosts D → D → D → Result X ProgramFault → Type 0
EndsLook g old new result =
    Counts g old new (IsErrOf result (Open Device))
    × IfErr result (IsOfLook (HasRisen (g.failures old) (g.failures new)))

-- the program fault for a reading fault that ends the inspection
abbrev pub IsStop : OpenFault → ProgramFault → Type 0
IsStop fault stop = ((fault ≡ Device) × (stop ≡ Open Device))
    ⊎ ((fault ≡ NoMemory) × (stop ≡ Refused))
