-- A meter's identity and its status byte as JSON (this product; the fields are those of EN 13757-3, long data header).
use Rattle.std.specs.Prelude.{ℕ, ◌/◌, ◌%◌, ◌==◌, Bool, List, [], ◌∷◌, codes, slice_range}
use Rattle.json.specs.Json.{string, boolean}
use Rattle.dc_address.specs.declared.identity.Identity.{Identity}
use Rattle.dc_address.specs.Text.{text_of}
use Rattle.dc_records.specs.Media.{medium_name}
use Rattle.dc_records.specs.Fields.{application_name}
use Rattle.mbdc_decode.specs.Object.{Field, count}

-- the printed identity, and its parts: eight digits, three letters, the version and the device type
unfoldable pub identity_fields : Identity → List Field
identity_fields i =
    (codes "id", string (text_of i))
    ∷ (codes "number", string (slice_range (text_of i) 0 8))
    ∷ (codes "manufacturer", string (slice_range (text_of i) 9 12))
    ∷ (codes "version", count i.version)
    ∷ (codes "medium", string (medium_name i.kind))
    ∷ (codes "medium_code", count i.kind)
    ∷ []

-- a bit of the status byte, by its power of two
abbrev pub has_bit : ℕ → ℕ → Bool
has_bit power status = status / power % 2 == 1

-- bits 1 and 0, 2, 3 and 4, and bits 7 to 5, which the manufacturer defines
unfoldable pub status_fields : ℕ → List Field
status_fields status =
    (codes "code", count status)
    ∷ (codes "application", string (application_name status))
    ∷ (codes "power_low", boolean (has_bit 4 status))
    ∷ (codes "permanent_error", boolean (has_bit 8 status))
    ∷ (codes "temporary_error", boolean (has_bit 16 status))
    ∷ (codes "manufacturer_bits", count (status / 32))
    ∷ []
