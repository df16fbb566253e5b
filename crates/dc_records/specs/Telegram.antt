-- What a telegram's body is: a header, items and an end (EN 13757-3, the variable data structure).
use Rattle.std.specs.Prelude.{◌≡◌, ◌≢◌, ℕ, ◌==◌, List, drop, Result, Ok, Err, if◌then◌else◌}
use Rattle.dc_records.specs.declared.fault.BodyFault.{BodyFault}
use Rattle.dc_records.specs.declared.fault.BodyFault.TheVariants.{Encrypted}
use Rattle.dc_records.specs.declared.header.Header.{Header}
use Rattle.dc_records.specs.declared.telegram.Telegram.{Telegram}
use Rattle.dc_records.specs.Record.{Entry}
use Rattle.dc_records.specs.Reading.{◌>>=◌}
use Rattle.dc_records.specs.Header.{BeginsWithHeader, HasHeaderFault, security_mode, header_at}
use Rattle.dc_records.specs.Stops.{Fails}
use Rattle.dc_records.specs.Body.{Ending, IsContent, content_at, records_in}
use Rattle.dc_records.specs.Seen.{ending}

-- a telegram without where it lies in memory
pub record Parsed : Type 0 where
  pub body : List ℕ
  pub header : Header
  pub records : List Entry
  pub ending : Ending

-- what a telegram shows
unfoldable pub parsed : Telegram → Parsed
parsed t = record {
  body = t.body.now;
  header = t.header;
  records = records_in (content_at (drop 12 t.body.now));
  ending = ending t.«end»;
}

-- The text is a telegram: a header of security mode 0, and then items and an end.
pub record IsTelegram (text : List ℕ) (t : Parsed) : Type 0 where
  pub header : BeginsWithHeader text t.header
  pub unencrypted : security_mode t.header ≡ 0
  pub content : IsContent (drop 12 text) t.records t.ending
  pub body : t.body ≡ text

-- The fault of a text that is none: that of its header, another security mode, or that of what follows the header.
pub data HasFault (text : List ℕ) (f : BodyFault) : Type 0 where
  no_header : HasHeaderFault text f → HasFault text f
  encrypted : f ≡ Encrypted → (h : Header) → BeginsWithHeader text h → security_mode h ≢ 0
      → HasFault text f
  no_content : (h : Header) → BeginsWithHeader text h → security_mode h ≡ 0 → Fails (drop 12 text) f
      → HasFault text f

-- ---- reading

-- the telegram of a body, its header, and its records and end
abbrev pub parsed_of : List ℕ → Header → List Entry × Ending → Parsed
parsed_of body h x = record { body = body; header = h; records = x.0; ending = x.1 }

-- the telegram that is read, or the first fault
unfoldable pub telegram_at : List ℕ → Result Parsed BodyFault
telegram_at body =
    header_at body >>= λ h. if security_mode h == 0
    then (content_at (drop 12 body) >>= λ x. Ok (parsed_of body h x)) else Err Encrypted
