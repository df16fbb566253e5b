-- What a body says (EN 13757-3, CI fields 72, 73, 78 and 7A).
use Rattle.std.specs.Prelude.{◌≡◌, ◌⊎◌, ℕ, ◌+◌, ◌*◌, ◌==◌, if◌then◌else◌, List, [], ◌∷◌, codes, drop, Option, Some, None, Result, Ok, Err}
use Rattle.std.specs.Option.{option_map}
use Rattle.dc_address.specs.declared.identity.Identity.{Identity}
use Rattle.dc_records.specs.declared.fault.BodyFault.{BodyFault}
use Rattle.dc_records.specs.declared.fault.BodyFault.TheVariants.{Short, Encrypted, BadIdentity, PlainTextExtension}
use Rattle.dc_records.specs.declared.header.Header.{Header}
use Rattle.dc_records.specs.Body.{Ending}
use Rattle.dc_records.specs.Header.{header_at}
use Rattle.dc_records.specs.Telegram.{Parsed}
use Rattle.mbdc_reading.specs.Sent as sent
use Rattle.mbdc_reading.specs.declared.content.content.Structure.{Structure}
use Rattle.mbdc_reading.specs.declared.content.content.Structure.TheVariants as structure
use Rattle.mbdc_reading.specs.declared.content.content.Head.{Head}
use Rattle.mbdc_reading.specs.declared.content.content.Variable as written_variable
use Rattle.mbdc_reading.specs.declared.content.content.Content as written
use Rattle.mbdc_reading.specs.declared.content.content.Content.TheVariants as variant
use Rattle.mbdc_reading.specs.Fixed.{Fixed, fixed_view, fixed_at, has_number}
use Rattle.mbdc_reading.specs.Security.{mode_of}

abbrev pub structure_name : Structure → List ℕ
structure_name structure.LongHeader = codes "long header"
structure_name structure.ShortHeader = codes "short header"
structure_name structure.NoHeader = codes "no header"

-- a variable data structure: what is whole of its header, and the bytes after it, or why they aren't read
pub record Variable : Type 0 where
  pub structure : Structure
  pub meter : Option Identity
  pub head : Option Head
  pub after : List ℕ
  pub refused : Option BodyFault

abbrev pub variable_view : written_variable.Variable → Variable
variable_view v = record { structure = v.structure; meter = v.meter; head = v.head; after = v.after.now; refused = v.refused }

pub data Content : Type 0 where
  variable : Variable → Content
  fixed : Option Fixed → Content

abbrev pub content_view : written.Content → Content
content_view (variant.Variable v) = variable (variable_view v)
content_view (variant.Fixed f) = fixed (option_map fixed_view f)

-- ---- headers

-- the access number, the status and the configuration, low byte first
abbrev pub head_in : List ℕ → Option Head
head_in (access ∷ status ∷ low ∷ high ∷ rest) = Some (record { access = access; status = status; config = low + 256 * high })
head_in _ = None

-- what is refused after a header: an encrypted body
abbrev pub refused_by : ℕ → Option BodyFault
refused_by config = if mode_of config == 0 then None else Some Encrypted

abbrev pub meter_in : Result Header BodyFault → Option Identity
meter_in (Ok h) = Some h.identity
meter_in (Err f) = None

abbrev pub long_refused : Result Header BodyFault → Option BodyFault
long_refused (Ok h) = refused_by h.config
long_refused (Err f) = Some f

abbrev pub long_header : List ℕ → Variable
long_header body = record {
  structure = structure.LongHeader;
  meter = meter_in (header_at body);
  head = head_in (drop 8 body);
  after = drop 12 body;
  refused = long_refused (header_at body);
}

abbrev pub short_refused : Option Head → Option BodyFault
short_refused (Some h) = refused_by h.config
short_refused None = Some Short

abbrev pub short_header : List ℕ → Variable
short_header body = record {
  structure = structure.ShortHeader;
  meter = None;
  head = head_in body;
  after = drop 4 body;
  refused = short_refused (head_in body);
}

abbrev pub no_header : List ℕ → Variable
no_header body = record { structure = structure.NoHeader; meter = None; head = None; after = body; refused = None }

-- what the body of a long frame with this CI field says
unfoldable pub content_of : ℕ → List ℕ → Option Content
content_of ci body =
    if ci == 0x72 then Some (variable (long_header body))
    else if ci == 0x73 then Some (fixed (fixed_at body))
    else if ci == 0x78 then Some (variable (no_header body))
    else if ci == 0x7A then Some (variable (short_header body))
    else None

-- ---- records and end

abbrev pub sents_in : List ℕ → Option BodyFault → List sent.Sent
sents_in bytes None = sent.sent_at bytes
sents_in bytes (Some f) = []

-- the records up to the end or the first fault
abbrev pub sents_of : Variable → List sent.Sent
sents_of v = sents_in v.after v.refused

abbrev pub end_in : List ℕ → Option BodyFault → Result Ending BodyFault
end_in bytes None = sent.end_at bytes
end_in bytes (Some f) = Err f

-- how the body ends, or its first fault
abbrev pub end_of : Variable → Result Ending BodyFault
end_of v = end_in v.after v.refused

abbrev pub fault_in : Result Ending BodyFault → Option BodyFault
fault_in (Ok end) = None
fault_in (Err f) = Some f

abbrev pub fixed_fault : Option Fixed → Option BodyFault
fixed_fault None = Some Short
fixed_fault (Some f) = if has_number f then None else Some BadIdentity

-- the first fault
abbrev pub fault_of : Content → Option BodyFault
fault_of (variable v) = fault_in (end_of v)
fault_of (fixed f) = fixed_fault f

-- ---- what the register reads

-- a telegram has the same meter, records and end; another body has the same fault, unless it is that of VIF FC
abbrev pub IsAsRead : Result Parsed BodyFault → Variable → Type 0
IsAsRead (Ok t) v = (v.meter ≡ Some t.header.identity) × (sent.entries_of (sents_of v) ≡ t.records) × (end_of v ≡ Ok t.ending)
IsAsRead (Err f) v = (end_of v ≡ Err f) ⊎ (f ≡ PlainTextExtension)
