-- Why the register doesn't take what a body says (this product).
use Rattle.std.specs.Prelude.{ℕ, nat_lt, if◌then◌else◌, List, ◌++◌, codes, Option, Some, None}
use Rattle.dc_records.specs.declared.fault.BodyFault.{BodyFault}
use Rattle.dc_records.specs.declared.fault.BodyFault.TheVariants as fault
use Rattle.dc_units.specs.Text.{last_digits}
use Rattle.mbdc_reading.specs.declared.content.content.Structure.{Structure}
use Rattle.mbdc_reading.specs.declared.content.content.Structure.TheVariants as structure
use Rattle.mbdc_reading.specs.declared.content.content.Head.{Head}
use Rattle.mbdc_reading.specs.declared.content.reason.Reason.{Reason}
use Rattle.mbdc_reading.specs.declared.content.reason.Reason.TheVariants as reason
use Rattle.mbdc_reading.specs.Content.{Content, Variable, variable, fixed, fault_of}
use Rattle.mbdc_reading.specs.Security.{mode_of, security_name}

abbrev pub head_mode : Option Head → ℕ
head_mode (Some h) = mode_of h.config
head_mode None = 0

-- a telegram that has no fault but for a unit in plain text with VIFEs
abbrev pub structure_reason : Structure → Option BodyFault → Option Reason
structure_reason structure.NoHeader fault = Some reason.NoHeader
structure_reason structure.ShortHeader fault = Some reason.ShortHeader
structure_reason structure.LongHeader None = Some reason.PlainText
structure_reason structure.LongHeader (Some f) = None

abbrev pub variable_reason : Variable → Option BodyFault → Option Reason
variable_reason v (Some fault.Encrypted) = Some (reason.Encrypted (head_mode v.head))
variable_reason v f = structure_reason v.structure f

abbrev pub reason_of : Content → Option Reason
reason_of (variable v) = variable_reason v (fault_of (variable v))
reason_of (fixed f) = Some reason.Fixed

unfoldable pub mode_text : ℕ → List ℕ
mode_text mode = if nat_lt mode 10 then last_digits 10 1 mode else last_digits 10 2 mode

abbrev pub encrypted_text : ℕ → List ℕ
encrypted_text mode =
    codes "encrypted (mode " ++ (mode_text mode ++ (codes ", " ++ (security_name mode ++ codes "): only mode 0 is read")))

abbrev pub reason_text : Reason → List ℕ
reason_text (reason.Encrypted mode) = encrypted_text mode
reason_text reason.Fixed = codes "fixed data (CI 73): not registered"
reason_text reason.NoHeader = codes "no header (CI 78): the telegram doesn't name its meter"
reason_text reason.ShortHeader = codes "short header (CI 7A): the telegram doesn't name its meter"
reason_text reason.PlainText = codes "a unit in plain text with VIFEs (VIF FC): not registered"
