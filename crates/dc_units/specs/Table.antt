-- The units of codes (EN 13757-3, primary VIFs and the tables after FB and FD; OMS Volume 2), as one
-- table over the whole value information block.
use Rattle.std.specs.Prelude.{ℕ, ◌+◌, ◌-◌, Bool, ◌&&◌, ◌==◌, nat_eq, nat_le, List, [], ◌∷◌, length}
use Rattle.std.specs.Prelude.{get_or, Option, ℤ, pos, ◌+ℤ◌}
use Rattle.std.specs.List.{find, starts_with}
use Rattle.std.specs.Option.{option_map}
use Rattle.dc_units.specs.declared.quantity.Quantity.{Quantity}
use Rattle.dc_units.specs.declared.quantity.Quantity.TheVariants.{EnergyWattHour, EnergyJoule}
use Rattle.dc_units.specs.declared.quantity.Quantity.TheVariants.{EnergyMegawattHour}
use Rattle.dc_units.specs.declared.quantity.Quantity.TheVariants.{EnergyGigajoule, Volume, Mass}
use Rattle.dc_units.specs.declared.quantity.Quantity.TheVariants.{PowerWatt, PowerJoulePerHour}
use Rattle.dc_units.specs.declared.quantity.Quantity.TheVariants.{VolumeFlowPerHour}
use Rattle.dc_units.specs.declared.quantity.Quantity.TheVariants.{VolumeFlowPerMinute}
use Rattle.dc_units.specs.declared.quantity.Quantity.TheVariants.{VolumeFlowPerSecond, MassFlow}
use Rattle.dc_units.specs.declared.quantity.Quantity.TheVariants.{FlowTemperature}
use Rattle.dc_units.specs.declared.quantity.Quantity.TheVariants.{ReturnTemperature}
use Rattle.dc_units.specs.declared.quantity.Quantity.TheVariants.{TemperatureDifference}
use Rattle.dc_units.specs.declared.quantity.Quantity.TheVariants.{ExternalTemperature, Pressure}
use Rattle.dc_units.specs.declared.quantity.Quantity.TheVariants.{Date, DateTime, HeatCostAllocator}
use Rattle.dc_units.specs.declared.quantity.Quantity.TheVariants.{ErrorFlags}
use Rattle.dc_units.specs.Number.{minus}

-- Codes of one quantity: the bytes before the code byte, the first and the last code byte, and the power
-- of ten of the first. Each further code stands for the next power of ten.
pub record Row : Type 0 where
  pub before : List ℕ
  pub first : ℕ
  pub last : ℕ
  pub quantity : Quantity
  pub exponent : ℤ

-- a VIF by itself
abbrev pub vif : ℕ → ℕ → Quantity → ℤ → Row
vif first last quantity exponent =
    record { before = []; first = first; last = last; quantity = quantity; exponent = exponent }

-- an extension VIF, FB or FD, and one code byte after it
abbrev pub behind : ℕ → ℕ → ℕ → Quantity → ℤ → Row
behind extension first last quantity exponent =
    record {
      before = extension ∷ [];
      first = first;
      last = last;
      quantity = quantity;
      exponent = exponent;
    }

-- the VIFs that are read, then the codes after the extension VIFs FB and FD, with their quantities
abbrev pub table : List Row
table =
    vif 0x00 0x07 EnergyWattHour (minus 3)
    ∷ vif 0x08 0x0F EnergyJoule (pos 0)
    ∷ vif 0x10 0x17 Volume (minus 6)
    ∷ vif 0x18 0x1F Mass (minus 3)
    ∷ vif 0x28 0x2F PowerWatt (minus 3)
    ∷ vif 0x30 0x37 PowerJoulePerHour (pos 0)
    ∷ vif 0x38 0x3F VolumeFlowPerHour (minus 6)
    ∷ vif 0x40 0x47 VolumeFlowPerMinute (minus 7)
    ∷ vif 0x48 0x4F VolumeFlowPerSecond (minus 9)
    ∷ vif 0x50 0x57 MassFlow (minus 3)
    ∷ vif 0x58 0x5B FlowTemperature (minus 3)
    ∷ vif 0x5C 0x5F ReturnTemperature (minus 3)
    ∷ vif 0x60 0x63 TemperatureDifference (minus 3)
    ∷ vif 0x64 0x67 ExternalTemperature (minus 3)
    ∷ vif 0x68 0x6B Pressure (minus 3)
    ∷ vif 0x6C 0x6C Date (pos 0)
    ∷ vif 0x6D 0x6D DateTime (pos 0)
    ∷ vif 0x6E 0x6E HeatCostAllocator (pos 0)
    ∷ behind 0xFB 0x00 0x01 EnergyMegawattHour (minus 1)
    ∷ behind 0xFB 0x08 0x09 EnergyGigajoule (minus 1)
    ∷ behind 0xFB 0x10 0x11 Volume (pos 2)
    ∷ behind 0xFD 0x17 0x17 ErrorFlags (pos 0)
    ∷ []

-- the code byte of a VIB in a row
abbrev pub code_in : List ℕ → Row → ℕ
code_in vib row = get_or vib (length row.before) 0

-- The VIB is what stands before the row's codes and one of these codes, and nothing more.
abbrev pub lies_in : List ℕ → Row → Bool
lies_in vib row =
    (length vib == length row.before + 1) && starts_with nat_eq vib row.before
    && (nat_le row.first (code_in vib row) && nat_le (code_in vib row) row.last)

-- the row of a VIB
unfoldable pub row_of : List ℕ → Option Row
row_of vib = find (lies_in vib) table

-- the power of ten that a VIB stands for in its row
abbrev pub exponent_of : List ℕ → Row → ℤ
exponent_of vib row = row.exponent +ℤ pos (code_in vib row - row.first)

-- the quantity of a VIB and its power of ten
abbrev pub unit_at : List ℕ → Option (Quantity × ℤ)
unit_at vib = option_map (λ row. (row.quantity, exponent_of vib row)) (row_of vib)
