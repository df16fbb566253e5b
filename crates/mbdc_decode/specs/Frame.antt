-- A link frame or its fault as JSON (this product; frames are those of EN 13757-2, bodies those of
-- EN 13757-3).
use Rattle.std.specs.Prelude.{ℕ, ◌==◌, if◌then◌else◌, List, [], ◌∷◌, ◌++◌, codes}
use Rattle.std.specs.Prelude.{Result, Ok, Err}
use Rattle.mbdc_io.specs.Hex.{upper_hex}
use Rattle.json.specs.Json.{Json, string}
use Rattle.dc_linkframe.specs.declared.fault.FrameFault.{FrameFault}
use Rattle.dc_linkframe.specs.Fault as link
use Rattle.dc_linkframe.specs.Frame.{FrameSeen, ack, short, long}
use Rattle.dc_linkframe.specs.Control.{variable_data}
use Rattle.dc_records.specs.declared.fault.BodyFault.{BodyFault}
use Rattle.dc_records.specs.Fault as records
use Rattle.dc_records.specs.Telegram.{Parsed, telegram_at}
use Rattle.dc_records.specs.Fields.{control_name, ci_name}
use Rattle.mbdc_decode.specs.Frames.{read_as}
use Rattle.mbdc_decode.specs.Object.{Field, object_of, count}
use Rattle.mbdc_reading.specs.Content.{content_of}
use Rattle.mbdc_decode.specs.Content.{content_field}
use Rattle.mbdc_decode.specs.Fault.{fault_field}
use Rattle.mbdc_decode.specs.JsonTelegram.{telegram_fields}

-- the line, counted from 1, and the kind of frame
unfoldable pub place_fields : ℕ → List ℕ → List Field
place_fields line kind = (codes "line", count line) ∷ (codes "frame", string kind) ∷ []

unfoldable pub link_fields : ℕ → ℕ → List Field
link_fields control address =
    (codes "control", count control)
    ∷ (codes "control_name", string (control_name control))
    ∷ (codes "address", count address)
    ∷ []

unfoldable pub ci_fields : ℕ → List Field
ci_fields ci = (codes "ci", count ci) ∷ (codes "ci_name", string (ci_name ci)) ∷ []

-- bytes that aren't decoded
unfoldable pub bytes_field : List ℕ → List ℕ → Field
bytes_field name bytes = (name, string (upper_hex bytes))

-- a body that is a telegram; or its fault, and what it says all the same
abbrev pub body_fields : List ℕ → Result Parsed BodyFault → List Field
body_fields body (Ok t) = telegram_fields t
body_fields body (Err f) =
    bytes_field (codes "body") body ∷ fault_field (codes "body") (records.number_of f)
    (records.name_of f) ∷ content_field (content_of variable_data body)

-- a body without a frame around it
unfoldable pub body_json : List ℕ → Json
body_json body = object_of (body_fields body (telegram_at body))

-- a body is a telegram for CI 72
unfoldable pub content_fields : ℕ → List ℕ → List Field
content_fields ci body =
    if ci == variable_data then body_fields body (telegram_at body)
    else bytes_field (codes "body") body ∷ content_field (content_of ci body)

abbrev pub frame_fields : ℕ → FrameSeen → List Field
frame_fields line ack = place_fields line (codes "ack")
frame_fields line (short control address) =
    place_fields line (codes "short") ++ link_fields control address
frame_fields line (long control address ci body) =
    place_fields line (codes "long")
    ++ (link_fields control address ++ (ci_fields ci ++ content_fields ci body))

-- the frame that a text spells, or its fault
abbrev pub read_fields : ℕ → List ℕ → Result FrameSeen FrameFault → List Field
read_fields line text (Ok frame) = frame_fields line frame
read_fields line text (Err f) =
    place_fields line (codes "none")
    ++ (bytes_field (codes "bytes") text
    ∷ fault_field (codes "frame") (link.number_of f) (link.name_of f) ∷ [])

unfoldable pub text_fields : ℕ → List ℕ → List Field
text_fields line text = read_fields line text (read_as text)

unfoldable pub text_json : ℕ → List ℕ → Json
text_json line text = object_of (text_fields line text)

-- a line that isn't pairs of hex digits, or is too long
unfoldable pub hex_fault_fields : ℕ → List Field
hex_fault_fields line = place_fields line (codes "none")
    ++ (fault_field (codes "hex") 1 (codes "Hex") ∷ [])

unfoldable pub hex_fault_json : ℕ → Json
hex_fault_json line = object_of (hex_fault_fields line)
