-- The names of control fields (EN 13757-2), CI fields, functions of records and states of an application (EN 13757-3).
use Rattle.std.specs.Prelude.{ℕ, ◌%◌, List, map}
use Rattle.dc_records.specs.Codes.{name_in}
use Rattle.dc_records.specs.declared.names.fields.TheConstants.{CONTROLS, INFORMATIONS, FUNCTIONS, STATES}

-- EN 13757-2, control field
abbrev pub control_name : ℕ → List ℕ
control_name control = name_in (map (λ r. (r.0, r.1.now)) CONTROLS) control

-- EN 13757-3, CI field
abbrev pub ci_name : ℕ → List ℕ
ci_name ci = name_in (map (λ r. (r.0, r.1.now)) INFORMATIONS) ci

-- EN 13757-3, function field of the DIF
abbrev pub function_name : ℕ → List ℕ
function_name function = name_in (map (λ r. (r.0, r.1.now)) FUNCTIONS) function

-- EN 13757-3, status byte, bits 1 and 0
abbrev pub application_name : ℕ → List ℕ
application_name status = name_in (map (λ r. (r.0, r.1.now)) STATES) (status % 4)
