-- The units of the due-date table are short.
use Rattle.std.proofs.Common.{ℕ, ◌≤◌, length, lit≤}
use Rattle.dc_units.specs.declared.quantity.Quantity.{Quantity}
use Rattle.dc_units.specs.declared.quantity.Quantity.TheVariants as listed
use Rattle.dc_units.specs.Quantity.{unit_of}

pub short_unit : (quantity : Quantity) → length (unit_of quantity) ≤ 16
short_unit listed.EnergyWattHour = lit≤ tt
short_unit listed.EnergyJoule = lit≤ tt
short_unit listed.EnergyMegawattHour = lit≤ tt
short_unit listed.EnergyGigajoule = lit≤ tt
short_unit listed.Volume = lit≤ tt
short_unit listed.Mass = lit≤ tt
short_unit listed.PowerWatt = lit≤ tt
short_unit listed.PowerJoulePerHour = lit≤ tt
short_unit listed.VolumeFlowPerHour = lit≤ tt
short_unit listed.VolumeFlowPerMinute = lit≤ tt
short_unit listed.VolumeFlowPerSecond = lit≤ tt
short_unit listed.MassFlow = lit≤ tt
short_unit listed.FlowTemperature = lit≤ tt
short_unit listed.ReturnTemperature = lit≤ tt
short_unit listed.TemperatureDifference = lit≤ tt
short_unit listed.ExternalTemperature = lit≤ tt
short_unit listed.Pressure = lit≤ tt
short_unit listed.Date = lit≤ tt
short_unit listed.DateTime = lit≤ tt
short_unit listed.HeatCostAllocator = lit≤ tt
short_unit listed.ErrorFlags = lit≤ tt
