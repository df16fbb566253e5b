-- What a meter stands at (this product): of its device type's quantity the total, else the first value of each tariff.
use Rattle.std.specs.Prelude.{ℕ, zero, suc, ◌%◌, ◌==◌, ◌&&◌, ◌||◌, not, Bool, true, false, nat_le, nat_lt}
use Rattle.std.specs.Prelude.{if◌then◌else◌, List, [], ◌∷◌, fold, length, Option, Some, None, is_some}
use Rattle.std.specs.List.{list_all, list_any}
use Rattle.dc_units.specs.declared.value.Value.TheVariants as value
use Rattle.mbdc_reading.specs.declared.form.DataType.TheVariants as typed
use Rattle.mbdc_reading.specs.declared.reading.Found.{Found}
use Rattle.mbdc_reading.specs.declared.reading.Found.TheVariants as found
use Rattle.mbdc_reading.specs.declared.value.Datum.TheVariants as datum
use Rattle.mbdc_reading.specs.Codes.{number_of}
use Rattle.mbdc_reading.specs.Parts.{label_of, maker_of, vifes_of}
use Rattle.mbdc_reading.specs.Reading.{reading_of}
use Rattle.mbdc_reading.specs.Sent.{Sent}
use Rattle.mbdc_reading.specs.declared.content.headline.Main.{Main}
use Rattle.mbdc_reading.specs.declared.content.headline.Main.TheVariants.{Energy, Volume, Allocation}
use Rattle.mbdc_reading.specs.declared.content.headline.Key.{Key}

-- ---- the quantity of a device type

abbrev pub within : ℕ → ℕ → ℕ → Bool
within low high n = nat_le low n && nat_le n high

abbrev pub is_energy_meter : ℕ → Bool
is_energy_meter kind = (kind == 2) || (within 4 5 kind || within 0x0A 0x0D kind)

abbrev pub is_volume_meter : ℕ → Bool
is_volume_meter kind =
    (kind == 1) || ((kind == 3) || (within 6 7 kind || ((kind == 9) ||
    ((kind == 0x10) || ((kind == 0x13) || (within 0x15 0x17 kind || (kind == 0x28)))))))

-- electricity, heat and cooling have an energy, media a volume, heat cost allocators their units
abbrev pub main_of : ℕ → Option Main
main_of kind =
    if is_energy_meter kind then Some Energy
    else if is_volume_meter kind then Some Volume
    else if kind == 8 then Some Allocation
    else None

-- the codes of that quantity
abbrev pub is_of : Main → ℕ → Bool
is_of Energy number = nat_le number 0x0F || (within 0xFB00 0xFB01 number || (within 0xFB08 0xFB09 number || within 0xFB0C 0xFB0F number))
is_of Volume number = within 0x10 0x17 number || (within 0xFB10 0xFB11 number || within 0xFB20 0xFB23 number)
is_of Allocation number = number == 0x6E

-- ---- candidates

-- no error, uncorrected, at base conditions, corrections, and forward flow only: the value is still the meter's
abbrev pub keeps : ℕ → Bool
keeps vife =
    (vife % 128 == 0) || ((vife % 128 == 0x3A) || ((vife % 128 == 0x3B) ||
    ((vife % 128 == 0x3E) || (within 0x70 0x77 (vife % 128) || (vife % 128 == 0x7D)))))

abbrev pub is_number : Found → Bool
is_number (found.Value typed.Number (datum.Known (value.Number d))) = true
is_number _ = false

-- current, instantaneous, of the quantity, with a number, and with no VIFE, manufacturer's byte or text that changes it
abbrev pub is_candidate : Main → Sent → Bool
is_candidate main s =
    (s.entry.storage == 0) && ((s.entry.function == 0) && (is_of main (number_of s.entry.vib)
    && (list_all keeps (vifes_of s.entry.vib) && is_number (reading_of s.entry s.len).found)))

-- ---- their order

-- those of no direction come first, then those of the lowest subunit, then those of the lowest tariff
abbrev pub key_of : Sent → Key
key_of s = record {
  is_forward = is_some (reading_of s.entry s.len).direction;
  subunit = s.entry.subunit;
  tariff = s.entry.tariff;
}

abbrev pub flag_lt : Bool → Bool → Bool
flag_lt false true = true
flag_lt _ _ = false

abbrev pub same_flag : Bool → Bool → Bool
same_flag a b = not (flag_lt a b) && not (flag_lt b a)

abbrev pub same_group : Key → Key → Bool
same_group a b = same_flag a.is_forward b.is_forward && (a.subunit == b.subunit)

abbrev pub comes_before : Key → Key → Bool
comes_before a b =
    flag_lt a.is_forward b.is_forward
    || (same_flag a.is_forward b.is_forward && (nat_lt a.subunit b.subunit || ((a.subunit == b.subunit) && nat_lt a.tariff b.tariff)))

-- after a record come those of its group and of a higher tariff
abbrev pub follows : Option Key → Key → Bool
follows None key = true
follows (Some last) key = same_group last key && nat_lt last.tariff key.tariff

abbrev pub is_better : Option Sent → Sent → Bool
is_better None s = true
is_better (Some best) s = comes_before (key_of s) (key_of best)

-- a record in place of the best so far
abbrev pub taken : Main → Option Key → Option Sent → Sent → Option Sent
taken main last best s =
    if is_candidate main s && (follows last (key_of s) && is_better best s) then Some s else best

-- the first candidate of the least key, of those that come after the last one
unfoldable pub next_in : Main → Option Key → Option Sent → List Sent → Option Sent
next_in main last best [] = best
next_in main last best (s ∷ ss) = next_in main last (taken main last best s) ss

-- ---- all

-- a record, and those that come after it, unless it is a total
abbrev pub with_next : (Key → List Sent) → Option Sent → List Sent
with_next others None = []
with_next others (Some s) = s ∷ (if s.entry.tariff == 0 then [] else others (key_of s))

-- at most this many
abbrev pub headline_from : ℕ → Main → Option Key → List Sent → List Sent
headline_from zero main last ss = []
headline_from (suc n) main last ss = with_next (λ key. headline_from n main (Some key) ss) (next_in main last None ss)

-- There are no more tariffs than ten DIFEs make.
abbrev pub most_tariffs : ℕ
most_tariffs = 1048576

abbrev pub headline_by : Option Main → List Sent → List Sent
headline_by None ss = []
headline_by (Some main) ss = headline_from most_tariffs main None ss

-- what a meter of this device type stands at
unfoldable pub headline : ℕ → List Sent → List Sent
headline kind ss = headline_by (main_of kind) ss
