-- What the body of a long frame says, as JSON (this product; the fields are those of EN 13757-3).
use Rattle.std.specs.Prelude.{ℕ, List, [], ◌∷◌, ◌++◌, codes, map, if◌then◌else◌, Option, Some, None, Result, Ok, Err}
use Rattle.json.specs.Json.{Json, string, null}
use Rattle.dc_address.specs.declared.identity.Identity.{Identity}
use Rattle.dc_records.specs.declared.fault.BodyFault.{BodyFault}
use Rattle.dc_records.specs.Fault as records
use Rattle.dc_records.specs.Body.{Ending, plain}
use Rattle.mbdc_reading.specs.Text.{hex_text}
use Rattle.mbdc_reading.specs.declared.content.content.Head.{Head}
use Rattle.mbdc_reading.specs.declared.content.reason.Reason.{Reason}
use Rattle.mbdc_reading.specs.declared.content.security.Security.{Security}
use Rattle.mbdc_reading.specs.Content.{Content, Variable, variable, fixed, structure_name, sents_of, end_of, fault_of}
use Rattle.mbdc_reading.specs.Counter.{Counter}
use Rattle.mbdc_reading.specs.Fixed.{Fixed, counters_of, has_number}
use Rattle.mbdc_reading.specs.Reason.{reason_of, reason_text}
use Rattle.mbdc_reading.specs.Security.{medium_of, security_name, security_of}
use Rattle.mbdc_decode.specs.Object.{Field, object_of, array_of, count}
use Rattle.mbdc_decode.specs.Fault.{fault_fields}
use Rattle.mbdc_decode.specs.Meter.{identity_fields, status_fields}
use Rattle.mbdc_decode.specs.Record.{counter_json}
use Rattle.mbdc_decode.specs.JsonTelegram.{records_field, end_fields}

abbrev pub count_or_null : Option ℕ → Json
count_or_null None = null
count_or_null (Some n) = count n

abbrev pub meter_or_null : Option Identity → Json
meter_or_null None = null
meter_or_null (Some i) = object_of (identity_fields i)

abbrev pub status_or_null : Option ℕ → Json
status_or_null None = null
status_or_null (Some status) = object_of (status_fields status)

-- ---- headers

abbrev pub access_of : Option Head → Option ℕ
access_of None = None
access_of (Some h) = Some h.access

abbrev pub status_of : Option Head → Option ℕ
status_of None = None
status_of (Some h) = Some h.status

-- the structure, the meter, the access number and the status byte
unfoldable pub head_fields : Variable → List Field
head_fields v =
    (codes "structure", string (structure_name v.structure))
    ∷ (codes "meter", meter_or_null v.meter)
    ∷ (codes "access", count_or_null (access_of v.head))
    ∷ (codes "status", status_or_null (status_of v.head))
    ∷ []

-- the security mode, its name, the number of encrypted blocks, and the whole configuration
unfoldable pub security_fields : Security → ℕ → List Field
security_fields s config =
    (codes "mode", count s.mode)
    ∷ (codes "name", string (security_name s.mode))
    ∷ (codes "blocks", count_or_null s.blocks)
    ∷ (codes "configuration", count config)
    ∷ []

abbrev pub security_json : Option Head → Json
security_json None = null
security_json (Some h) = object_of (security_fields (security_of h.config) h.config)

unfoldable pub security_field : Option Head → Field
security_field head = (codes "security", security_json head)

-- ---- fixed data: a number and a medium are all that names the meter

unfoldable pub number_fields : Fixed → List Field
number_fields f =
    (codes "id", null)
    ∷ (codes "number", string (hex_text f.number))
    ∷ (codes "manufacturer", null)
    ∷ (codes "version", null)
    ∷ (codes "medium", string (medium_of f.medium))
    ∷ (codes "medium_code", count f.medium)
    ∷ []

abbrev pub number_json : Fixed → Json
number_json f = if has_number f then object_of (number_fields f) else null

abbrev pub whose_json : Option Fixed → Json
whose_json None = null
whose_json (Some f) = number_json f

unfoldable pub whose_field : Option Fixed → Field
whose_field f = (codes "meter", whose_json f)

-- the access number, the status byte, and no security
unfoldable pub state_fields : Option ℕ → Option ℕ → List Field
state_fields access status =
    (codes "access", count_or_null access) ∷ (codes "status", status_or_null status) ∷ (codes "security", null) ∷ []

unfoldable pub fixed_name : Field
fixed_name = (codes "structure", string (codes "fixed"))

abbrev pub state_of : Option Fixed → List Field
state_of None = state_fields None None
state_of (Some f) = state_fields (Some f.access) (Some f.status)

unfoldable pub fixed_head : Option Fixed → List Field
fixed_head f = fixed_name ∷ whose_field f ∷ state_of f

abbrev pub counters_in : Option Fixed → List Counter
counters_in None = []
counters_in (Some f) = counters_of f

unfoldable pub counters_field : List Counter → Field
counters_field counters = (codes "records", array_of (map counter_json counters))

-- ---- all

-- after a fault nothing is known of the end
abbrev pub ending_of : Result Ending BodyFault → Ending
ending_of (Ok end) = end
ending_of (Err f) = plain

-- what stands before the fault
unfoldable pub known_fields : Content → List Field
known_fields (variable v) =
    head_fields v ++ (security_field v.head ∷ (records_field (sents_of v) ∷ end_fields (ending_of (end_of v))))
known_fields (fixed f) = fixed_head f ++ (counters_field (counters_in f) ∷ end_fields plain)

abbrev pub fault_json : Option BodyFault → Json
fault_json None = null
fault_json (Some f) = object_of (fault_fields (codes "body") (records.number_of f) (records.name_of f))

abbrev pub reason_json : Option Reason → Json
reason_json None = null
reason_json (Some r) = string (reason_text r)

-- the fault, and why the register doesn't take it
unfoldable pub refusal_fields : Option BodyFault → Option Reason → List Field
refusal_fields f r = (codes "fault", fault_json f) ∷ (codes "reason", reason_json r) ∷ []

unfoldable pub content_json : Content → Json
content_json c = object_of (known_fields c ++ refusal_fields (fault_of c) (reason_of c))

-- what is known of a structure
abbrev pub content_field : Option Content → List Field
content_field None = []
content_field (Some c) = (codes "content", content_json c) ∷ []
