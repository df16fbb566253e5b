-- The events of a poll as JSON objects (RFC 8259; this product), a line each.
use Rattle.std.specs.Prelude.{ℕ, List, [], ◌∷◌, ◌++◌, Option, codes, length, map}
use Rattle.json.specs.Json.{Json, string}
use Rattle.dc_address.specs.Text.{text_of}
use Rattle.dc_address.specs.declared.identity.Identity.{Identity}
use Rattle.mbdc_change.specs.State.{PartRow}
use Rattle.mbdc_decode.specs.Content.{content_field}
use Rattle.mbdc_decode.specs.JsonText.{value_line}
use Rattle.dc_readout.specs.declared.misses.misses.Misses.{Misses}
use Rattle.dc_readout.specs.declared.why.Why.{Why}
use Rattle.dc_readout.specs.declared.why.Why.TheVariants.{NoAnswer, WrongFrame, WrongAddress}
use Rattle.dc_readout.specs.declared.why.Why.TheVariants.{ApplicationError, Content, Stranger}
use Rattle.dc_readout.specs.declared.why.Why.TheVariants.{TooManyParts}
use Rattle.dc_readout.specs.Why.{number_of as why_number, name_of as why_name}
use Rattle.dc_records.specs.Fault.{number_of as content_number, name_of as content_name}
use Rattle.mbdc_decode.specs.Object.{Field, array_of, object_of as object_with, count}
use Rattle.mbdc_poll.specs.Content.{untaken}
use Rattle.mbdc_poll.specs.Read.{hex_json, last_fields}
use Rattle.mbdc_poll.specs.Refusal.{refusal_number, refusal_name}
use Rattle.mbdc_poll.specs.declared.brought.Brought.{Brought}
use Rattle.mbdc_poll.specs.declared.end.Refusal.{Refusal}
use Rattle.mbdc_poll.specs.declared.event.Event.{Event}
use Rattle.mbdc_poll.specs.declared.event.Event.TheVariants.{Read, Failed, Refused, Lost, Late, End}

-- a field of a text
abbrev pub text_field : List ℕ → List ℕ → Field
text_field name text = (name, string text)

-- a field of a whole number
abbrev pub count_field : List ℕ → ℕ → Field
count_field name number = (name, count number)

-- which event it is
abbrev pub event_field : List ℕ → Field
event_field name = text_field (codes "event") name

abbrev pub meter_field : Identity → Field
meter_field meter = text_field (codes "meter") (text_of meter)

-- a fault's number and name
unfoldable pub fault_fields : ℕ → List ℕ → List Field
fault_fields number name = count_field (codes "number") number ∷ text_field (codes "name") name ∷ []

-- the fault of the body, of a fault of content
unfoldable pub body_fields : Why → List Field
body_fields (Content fault) =
    (codes "fault", object_with (fault_fields (content_number fault) (content_name fault))) ∷ []
body_fields NoAnswer = []
body_fields WrongFrame = []
body_fields WrongAddress = []
body_fields ApplicationError = []
body_fields Stranger = []
body_fields TooManyParts = []

-- the line of a failed readout, and how many of its failed tries brought what
unfoldable pub heard_fields : ℕ → Misses → List Field
heard_fields line misses = count_field (codes "line") line
    ∷ (
      codes "heard",
      object_with (count_field (codes "silent") misses.silent
          ∷ count_field (codes "noise") misses.noise ∷ count_field (codes "others") misses.others ∷ []),
    )
    ∷ []

-- also what the last answer says where the register doesn't take it
unfoldable pub failed_fields : ℕ → Identity → Why → Brought → List Field
failed_fields line meter why brought =
    (event_field (codes "failed") ∷ meter_field meter ∷ [])
    ++ (fault_fields (why_number why) (why_name why)
    ++ (body_fields why ++ (heard_fields line brought.misses ++ content_field (untaken brought.last))))

unfoldable pub refused_fields : Identity → Refusal → List Field
refused_fields meter refusal = (event_field (codes "refused") ∷ meter_field meter ∷ [])
    ++ fault_fields (refusal_number refusal) (refusal_name refusal)

-- the bodies of telegrams
unfoldable pub bodies_field : List (List ℕ) → Field
bodies_field bodies = (codes "bodies", array_of (map hex_json bodies))

-- what was read, the reading's serial, the number and the bodies of its parts, and what they report
unfoldable pub read_fields : Identity → ℕ → List (List ℕ) → Option PartRow → List Field
read_fields meter serial parts last =
    (event_field (codes "read") ∷ meter_field meter ∷ count_field (codes "serial") serial
    ∷ count_field (codes "parts") (length parts) ∷ bodies_field parts ∷ []) ++ last_fields meter.kind parts last

-- THE FIELDS OF AN EVENT.
abbrev pub fields_of : Event → List Field
fields_of (Read meter serial parts last) = read_fields meter serial parts last
fields_of (Failed line meter why brought) = failed_fields line meter why brought
fields_of (Refused meter refusal) = refused_fields meter refusal
fields_of (Lost line) = event_field (codes "lost") ∷ count_field (codes "line") line ∷ []
fields_of (Late line answers) = event_field (codes "late") ∷ count_field (codes "line") line
    ∷ count_field (codes "answers") answers ∷ []
fields_of (End read failed) = event_field (codes "end") ∷ count_field (codes "read") read
    ∷ count_field (codes "failed") failed ∷ []

abbrev pub json_of : Event → Json
json_of event = object_with (fields_of event)

-- THE OBJECT OF AN EVENT, on a line of its own.
abbrev pub object_of : Event → List ℕ
object_of event = value_line (json_of event)
