-- The fixed part of a telegram's body: twelve bytes (EN 13757-3, the long data header).
use Rattle.std.specs.Prelude.{◌≡◌, ℕ, ◌/◌, ◌%◌, ◌<◌, ◌≤◌, Bool, true, false, List, length, take}
use Rattle.std.specs.Prelude.{slice_index, Result, Ok, Err, nat_lt, if◌then◌else◌, refl}
use Rattle.byteorder.specs.Endian.{little_from}
use Rattle.dc_address.specs.Identity.{IsWire, is_identity}
use Rattle.dc_address.proofs.Identities.{spelled_identity}
use Rattle.dc_address.specs.declared.identity.Identity.{Identity}
use Rattle.dc_records.specs.declared.fault.BodyFault.{BodyFault}
use Rattle.dc_records.specs.declared.fault.BodyFault.TheVariants.{Short, BadIdentity}
use Rattle.dc_records.specs.declared.header.Header.{Header}

-- A text begins with a header: the identity, the access number, the status and the configuration, low byte first.
pub record BeginsWithHeader (text : List ℕ) (h : Header) : Type 0 where
  pub enough : 12 ≤ length text
  pub identity : IsWire (take 8 text) h.identity
  pub access : h.access ≡ slice_index text 8
  pub status : h.status ≡ slice_index text 9
  pub config : h.config ≡ little_from 10 2 text

-- The fault of a text that doesn't.
pub data HasHeaderFault (text : List ℕ) (f : BodyFault) : Type 0 where
  short : f ≡ Short → length text < 12 → HasHeaderFault text f
  bad_identity : f ≡ BadIdentity → 12 ≤ length text
      → ((identity : Identity) → IsWire (take 8 text) identity → ⊥) → HasHeaderFault text f

-- the security mode, bits 12 to 8 of the configuration
abbrev pub security_mode : Header → ℕ
security_mode h = h.config / 256 % 32

-- ---- reading

-- the long header with this identity, and its other fields from bytes 8 to 11 of the text
abbrev pub header_with : Identity → List ℕ → Header
header_with identity text = record {
  identity = identity;
  access = slice_index text 8;
  status = slice_index text 9;
  config = little_from 10 2 text;
}

-- the long header where the first eight bytes are an identity, otherwise BadIdentity
abbrev pub header_by : (text : List ℕ) (is : Bool) → is_identity (take 8 text) ≡ is
    → Result Header BodyFault
header_by text true is = Ok (header_with (spelled_identity (take 8 text) is).0 text)
header_by text false is = Err BadIdentity

-- the header that is read at the front, or the first fault
unfoldable pub header_at : List ℕ → Result Header BodyFault
header_at text = if nat_lt (length text) 12 then Err Short
    else header_by text (is_identity (take 8 text)) refl
