-- The numbers of variants.
use Rattle.std.proofs.Common.{◌≡◌, ◌+◌, refl}
use denote.Enum.Declared.{tag_of}
use Rattle.mbdc_reading.specs.declared.form.DataType.{DataType}
use Rattle.mbdc_reading.specs.declared.form.DataType.TheVariants as typed
use Rattle.mbdc_reading.specs.declared.value.NoValue.{NoValue}
use Rattle.mbdc_reading.specs.declared.value.NoValue.TheVariants as fault
use Rattle.mbdc_reading.specs.contracts.form.DataType as data_type
use Rattle.mbdc_reading.specs.contracts.value.NoValue as no_value
use Rattle.mbdc_library.specs.Plain.{fault_number, type_number}

pub type_tag : (t : DataType) → 1 + tag_of data_type.the_type t ≡ type_number t
type_tag typed.Number = refl
type_tag typed.Digits = refl
type_tag typed.Flags = refl
type_tag typed.Date = refl
type_tag typed.Minute = refl
type_tag typed.Second = refl
type_tag typed.Time = refl
type_tag typed.Text = refl
type_tag typed.Letters = refl
type_tag typed.Identity = refl

pub fault_tag : (f : NoValue) → 1 + tag_of no_value.the_type f ≡ fault_number f
fault_tag fault.Invalid = refl
fault_tag fault.Digit = refl
fault_tag fault.NotANumber = refl
fault_tag fault.Infinite = refl
fault_tag fault.Sign = refl
fault_tag fault.NoTime = refl
fault_tag fault.NoDate = refl
fault_tag fault.NoLetters = refl
fault_tag fault.OutOfRange = refl
