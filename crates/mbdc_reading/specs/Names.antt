-- The names of what is read (this product).
use Rattle.std.specs.Prelude.{ℕ, ◌/◌, ◌%◌, ◌==◌, nat_le, Bool, List, [], ◌∷◌, codes, get_or, Option, Some, None}
use Rattle.dc_units.specs.declared.value.Value.{Value}
use Rattle.dc_units.specs.declared.value.Value.TheVariants as value
use Rattle.mbdc_reading.specs.declared.form.DataType.{DataType}
use Rattle.mbdc_reading.specs.declared.form.DataType.TheVariants as typed
use Rattle.mbdc_reading.specs.declared.reading.How.{How}
use Rattle.mbdc_reading.specs.declared.reading.How.TheVariants as how
use Rattle.mbdc_reading.specs.declared.reading.Found.{Found}
use Rattle.mbdc_reading.specs.declared.reading.Found.TheVariants as found
use Rattle.mbdc_reading.specs.declared.value.Datum.{Datum}
use Rattle.mbdc_reading.specs.declared.value.Datum.TheVariants as datum
use Rattle.mbdc_reading.specs.declared.value.NoValue.{NoValue}
use Rattle.mbdc_reading.specs.declared.value.NoValue.TheVariants as fault
use Rattle.mbdc_reading.specs.Meaning.{is_extension, number_after}
use Rattle.mbdc_reading.specs.Vifes.{vife_at}

-- the names of VIFEs; the first may follow an FC
unfoldable pub names_of : Bool → List ℕ → List (List ℕ)
names_of after_fc [] = []
names_of after_fc (vife ∷ others) =
    (vife_at (number_after after_fc vife)).name ∷ names_of (is_extension after_fc vife) others

-- the text of a VIFE, where there is one
abbrev pub vife_text : Option ℕ → Option (List ℕ)
vife_text None = None
vife_text (Some number) = Some (vife_at number).text

abbrev pub how_name : How → List ℕ
how_name (how.Point quantity) = codes "point"
how_name how.Plain = codes "plain"
how_name how.Qualified = codes "qualified"
how_name how.Other = codes "other"

abbrev pub type_name : DataType → List ℕ
type_name typed.Number = codes "number"
type_name typed.Digits = codes "digits"
type_name typed.Flags = codes "flags"
type_name typed.Date = codes "date"
type_name typed.Minute = codes "minute"
type_name typed.Second = codes "second"
type_name typed.Time = codes "time"
type_name typed.Text = codes "text"
type_name typed.Letters = codes "text"
type_name typed.Identity = codes "identity"

abbrev pub fault_name : NoValue → List ℕ
fault_name fault.Invalid = codes "marked invalid"
fault_name fault.Digit = codes "digits above 9"
fault_name fault.NotANumber = codes "not a number"
fault_name fault.Infinite = codes "infinite"
fault_name fault.Sign = codes "sign not known"
fault_name fault.NoTime = codes "no such time"
fault_name fault.NoDate = codes "no such date"
fault_name fault.NoLetters = codes "no three letters"
fault_name fault.OutOfRange = codes "power of ten out of range"

abbrev pub type_found : Found → Option (List ℕ)
type_found (found.Value t d) = Some (type_name t)
type_found _ = None

-- why there is no value
abbrev pub fault_found : Found → Option (List ℕ)
fault_found (found.Value t (datum.None fault)) = Some (fault_name fault)
fault_found (found.Value t d) = None
fault_found (found.Failure number) = Some (vife_at number).name
fault_found found.Nothing = None

-- summer time: bit 7 of the second byte of type F, bit 6 of the first of type I
abbrev pub datum_summer : Datum → List ℕ → Option Bool
datum_summer (datum.Known (value.Minute day hour minute)) content = Some (nat_le 0x80 (get_or content 1 0))
datum_summer (datum.Second day hour minute second) content = Some (get_or content 0 0 / 64 % 2 == 1)
datum_summer _ content = None

abbrev pub summer_found : Found → List ℕ → Option Bool
summer_found (found.Value t d) content = datum_summer d content
summer_found _ content = None
