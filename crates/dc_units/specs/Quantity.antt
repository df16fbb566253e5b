-- The printed units of quantities (this product), and the data fields in which a quantity comes.
use Rattle.std.specs.Prelude.{ℕ, Bool, true, false, ◌&&◌, ◌||◌, ◌==◌, not, nat_le, List, [], codes}
use Rattle.dc_units.specs.declared.quantity.Quantity.{Quantity}
use Rattle.dc_units.specs.declared.quantity.Quantity.TheVariants.{EnergyWattHour, EnergyJoule}
use Rattle.dc_units.specs.declared.quantity.Quantity.TheVariants.{EnergyMegawattHour}
use Rattle.dc_units.specs.declared.quantity.Quantity.TheVariants.{EnergyGigajoule, Volume, Mass}
use Rattle.dc_units.specs.declared.quantity.Quantity.TheVariants.{PowerWatt, PowerJoulePerHour}
use Rattle.dc_units.specs.declared.quantity.Quantity.TheVariants.{VolumeFlowPerHour}
use Rattle.dc_units.specs.declared.quantity.Quantity.TheVariants.{VolumeFlowPerMinute}
use Rattle.dc_units.specs.declared.quantity.Quantity.TheVariants.{VolumeFlowPerSecond, MassFlow}
use Rattle.dc_units.specs.declared.quantity.Quantity.TheVariants.{FlowTemperature}
use Rattle.dc_units.specs.declared.quantity.Quantity.TheVariants.{ReturnTemperature}
use Rattle.dc_units.specs.declared.quantity.Quantity.TheVariants.{TemperatureDifference}
use Rattle.dc_units.specs.declared.quantity.Quantity.TheVariants.{ExternalTemperature, Pressure}
use Rattle.dc_units.specs.declared.quantity.Quantity.TheVariants.{Date, DateTime, HeatCostAllocator}
use Rattle.dc_units.specs.declared.quantity.Quantity.TheVariants.{ErrorFlags}

-- the printed unit; a date has none
abbrev pub unit_of : Quantity → List ℕ
unit_of EnergyWattHour = codes "Wh"
unit_of EnergyJoule = codes "J"
unit_of EnergyMegawattHour = codes "MWh"
unit_of EnergyGigajoule = codes "GJ"
unit_of Volume = codes "m3"
unit_of Mass = codes "kg"
unit_of PowerWatt = codes "W"
unit_of PowerJoulePerHour = codes "J/h"
unit_of VolumeFlowPerHour = codes "m3/h"
unit_of VolumeFlowPerMinute = codes "m3/min"
unit_of VolumeFlowPerSecond = codes "m3/s"
unit_of MassFlow = codes "kg/h"
unit_of FlowTemperature = codes "C-flow"
unit_of ReturnTemperature = codes "C-return"
unit_of TemperatureDifference = codes "K"
unit_of ExternalTemperature = codes "C-external"
unit_of Pressure = codes "bar"
unit_of Date = []
unit_of DateTime = []
unit_of HeatCostAllocator = codes "HCA"
unit_of ErrorFlags = codes "flags"

-- a time point: a date, or a date and time
abbrev pub is_time_point : Quantity → Bool
is_time_point Date = true
is_time_point DateTime = true
is_time_point _ = false

-- data fields of whole numbers: 1, 2, 3, 4, 6 and 7
abbrev pub is_integer : ℕ → Bool
is_integer field = nat_le 1 field && nat_le field 7 && not (field == 5)

-- data fields of packed BCD: 9, A, B, C and E
abbrev pub is_bcd : ℕ → Bool
is_bcd field = nat_le 9 field && nat_le field 0xE && not (field == 0xD)

-- The quantity comes in this data field: a date in field 2, a date and time in field 4, flags as a
-- whole number, any other as a whole number or in BCD.
abbrev pub takes : Quantity → ℕ → Bool
takes Date field = field == 2
takes DateTime field = field == 4
takes ErrorFlags field = is_integer field
takes _ field = is_integer field || is_bcd field
