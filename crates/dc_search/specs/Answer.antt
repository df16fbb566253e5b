-- What the answer to a request for data says of a search (EN 13757-2, RSP_UD; EN 13757-3, CI 72h).
use Rattle.std.specs.Prelude.{ℕ, ◌&&◌, List, Option, Some, None, Result, Ok, Err, ◌==◌}
use Rattle.std.specs.Prelude.{if◌then◌else◌}
use Rattle.dc_address.specs.declared.identity.Identity.{Identity}
use Rattle.dc_linkframe.specs.Control.{is_rsp_ud, variable_data}
use Rattle.dc_linkframe.specs.Frame.{FrameSeen, ack, short, long}
use Rattle.dc_linkframe.specs.Reading.{frame_of}
use Rattle.dc_records.specs.Header.{header_at}
use Rattle.dc_records.specs.declared.fault.BodyFault.{BodyFault}
use Rattle.dc_records.specs.declared.header.Header.{Header}

-- the identity in the header of a telegram's body
abbrev pub identity_of : Result Header BodyFault → Option Identity
identity_of (Ok header) = Some header.identity
identity_of (Err fault) = None

abbrev pub identity_at : List ℕ → Option Identity
identity_at body = identity_of (header_at body)

abbrev pub identity_in : Option FrameSeen → Option Identity
identity_in (Some (long control address ci body)) =
    if is_rsp_ud control && ci == variable_data then identity_at body else None
identity_in (Some ack) = None
identity_in (Some (short control address)) = None
identity_in None = None

-- the meter that a readable response with a telegram comes from
unfoldable pub answer_of : List ℕ → Option Identity
answer_of bytes = identity_in (frame_of bytes)
