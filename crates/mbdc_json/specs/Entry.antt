-- The lines of a journal (RFC 8259; this product): an object names its event and its meter.
use Rattle.std.specs.Prelude.{◌≡◌, ℕ, ◌<◌, List, Option, Some, None, codes, option_and_then}
use Rattle.std.specs.Fmt.{decimal}
use Rattle.std.specs.Str.{IsUtf8}
use Rattle.dc_address.specs.Text.{text_of}
use Rattle.dc_address.specs.declared.identity.Identity.{Identity}
use Rattle.mbdc_change.specs.Fields.{IsOfBytes, end_of_numbers}
use Rattle.mbdc_json.specs.declared.journal.entry.Entry.{Entry}
use Rattle.mbdc_json.specs.declared.journal.entry.Said.{Said}
use Rattle.mbdc_json.specs.declared.journal.entry.Said.TheVariants.{Read, Failed}
use Rattle.json.specs.Find.{as_number, as_str, get}
use Rattle.json.specs.Json.{Json, document}

-- the text of a member
abbrev pub text_in : List ℕ → Json → Option (List ℕ)
text_in name json = option_and_then as_str (get name json)

-- a member is this number
abbrev pub HasNumber : List ℕ → Json → ℕ → Type 0
HasNumber name json n = option_and_then as_number (get name json) ≡ Some (decimal n)

-- its meter
abbrev pub NamesMeter : Json → Identity → Type 0
NamesMeter json meter = text_in (codes "meter") json ≡ Some (text_of meter)

-- the serial, the time stamp of the last telegram, and its status byte
pub record HasReading (json : Json) (serial moment status : ℕ) : Type 0 where
  pub serial_is : HasNumber (codes "serial") json serial
  pub serial_fits : serial < end_of_numbers
  pub moment_is : HasNumber (codes "moment") json moment
  pub moment_fits : moment < end_of_numbers
  pub object : Json
  pub object_is : get (codes "status") json ≡ Some object
  pub status_is : HasNumber (codes "code") object status
  pub status_fits : status < 256

-- when the line was written, and the number of the fault
pub record HasFailure (json : Json) (at number : ℕ) : Type 0 where
  pub at_is : HasNumber (codes "at") json at
  pub at_fits : at < end_of_numbers
  pub number_is : HasNumber (codes "number") json number
  pub number_fits : number < 256

abbrev pub IsReadIn : Json → Said → Type 0
IsReadIn json (Read serial moment status) = HasReading json serial moment status
IsReadIn json (Failed at number) = ⊥

abbrev pub IsFailedIn : Json → Said → Type 0
IsFailedIn json (Read serial moment status) = ⊥
IsFailedIn json (Failed at number) = HasFailure json at number

-- a meter was read, or its readout failed
abbrev pub IsSaid : Json → Said → Type 0
IsSaid json (Read serial moment status) =
    (text_in (codes "event") json ≡ Some (codes "read")) × HasReading json serial moment status
IsSaid json (Failed at number) =
    (text_in (codes "event") json ≡ Some (codes "failed")) × HasFailure json at number

-- THE ENTRY THAT AN OBJECT IS
pub record IsEntry (json : Json) (entry : Entry) : Type 0 where
  pub meter_is : NamesMeter json entry.meter
  pub meter_fits : IsOfBytes entry.meter
  pub said_is : IsSaid json entry.said

-- THE ENTRY THAT A LINE IS: its text is a value that is one
abbrev pub IsLine : List ℕ → Option Entry → Type 0
IsLine line None = IsUtf8 line → (json : Json) → document line ≡ Some json → (entry : Entry) → ¬ (IsEntry json entry)
IsLine line (Some entry) = (json : Json) × (document line ≡ Some json) × IsEntry json entry
