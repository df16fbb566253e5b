-- What meters count (this product), and the units of amounts. Amounts are whole numbers of the smallest unit: millijoules, millilitres,
-- and thousandths of a heat cost allocator's unit.
use Rattle.std.specs.Prelude.{ℕ, Bool, true, false, List, codes, Option, Some, None, if◌then◌else◌}
use Rattle.std.specs.Str.{bytes_eq}
use Rattle.dc_units.specs.declared.quantity.Quantity as listed_type
use Rattle.dc_units.specs.declared.quantity.Quantity.TheVariants as listed
use Rattle.mbdc_audit.specs.declared.uses.Counted.{Counted}
use Rattle.mbdc_audit.specs.declared.uses.Counted.TheVariants.{Energy, Volume, Allocation}
use Rattle.mbdc_audit.specs.declared.uses.Unit.{Unit}
use Rattle.mbdc_audit.specs.declared.uses.Unit.TheVariants.{Kwh, CubicMetre, Allocated, Count, Smallest}

-- the quantity that a word names
abbrev pub counted_named : List ℕ → Option Counted
counted_named word = if bytes_eq word (codes "energy") then Some Energy
    else if bytes_eq word (codes "volume") then Some Volume
    else if bytes_eq word (codes "units") then Some Allocation else None

-- the unit that a word names
abbrev pub unit_named : List ℕ → Option Unit
unit_named word = if bytes_eq word (codes "kWh") then Some Kwh
    else if bytes_eq word (codes "m3") then Some CubicMetre
    else if bytes_eq word (codes "HCA") then Some Allocated
    else if bytes_eq word (codes "count") then Some Count
    else if bytes_eq word (codes "smallest") then Some Smallest else None

-- what a quantity of the table of units counts, and the smallest units of one of its units
abbrev pub size_of : listed_type.Quantity → Option (Counted × ℕ)
size_of listed.EnergyWattHour = Some (Energy, 3600000)
size_of listed.EnergyJoule = Some (Energy, 1000)
size_of listed.EnergyMegawattHour = Some (Energy, 3600000000000)
size_of listed.EnergyGigajoule = Some (Energy, 1000000000000)
size_of listed.Volume = Some (Volume, 1000000)
size_of listed.HeatCostAllocator = Some (Allocation, 1000)
size_of _ = None

-- the same of the unit of a reading, by its word
abbrev pub size_named : List ℕ → Option (Counted × ℕ)
size_named word = if bytes_eq word (codes "Wh") then size_of listed.EnergyWattHour
    else if bytes_eq word (codes "kWh") then Some (Energy, 3600000000)
    else if bytes_eq word (codes "MWh") then size_of listed.EnergyMegawattHour
    else if bytes_eq word (codes "J") then size_of listed.EnergyJoule
    else if bytes_eq word (codes "GJ") then size_of listed.EnergyGigajoule
    else if bytes_eq word (codes "m3") then size_of listed.Volume
    else if bytes_eq word (codes "HCA") then size_of listed.HeatCostAllocator
    else None

-- units are the same
abbrev pub is_unit : Unit → Unit → Bool
is_unit Kwh Kwh = true
is_unit CubicMetre CubicMetre = true
is_unit Allocated Allocated = true
is_unit Count Count = true
is_unit Smallest Smallest = true
is_unit a b = false
