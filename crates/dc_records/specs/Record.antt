-- What a data record is, and which texts spell it (EN 13757-3, the data record header and the data).
use Rattle.std.specs.Prelude.{◌≡◌, ◌≢◌, ℕ, ◌+◌, ◌*◌, ◌/◌, ◌%◌, ◌<◌, ◌≤◌, List, [], ◌∷◌, ◌++◌}
use Rattle.std.specs.Prelude.{length, map, ◌⊎◌, slice_index}
use Rattle.dc_records.specs.declared.record.Record.{Record}

-- a record without where it lies in memory
pub record Entry : Type 0 where
  pub storage : ℕ
  pub tariff : ℕ
  pub subunit : ℕ
  pub function : ℕ
  pub field : ℕ
  pub vib : List ℕ
  pub content : List ℕ

abbrev pub view : Record → Entry
view r = record {
  storage = r.storage;
  tariff = r.tariff;
  subunit = r.subunit;
  function = r.function;
  field = r.field;
  vib = r.vib.now;
  content = r.content.now;
}

-- ---- DIF and DIFEs

-- Bit 7 of a byte announces another: these are all that come after the first.
abbrev pub Extends : ℕ → List ℕ → Type 0
Extends first [] = first < 0x80
Extends first (next ∷ others) = (0x80 ≤ first) × Extends next others

-- a number by its digits, the lowest first
abbrev pub number : ℕ → List ℕ → ℕ
number base [] = 0
number base (digit ∷ higher) = digit + base * number base higher

-- the digit that a DIFE adds to each number: bits 3 to 0, bits 5 and 4, bit 6
abbrev pub storage_digit : ℕ → ℕ
storage_digit dife = dife % 16

-- the tariff bits of a DIFE
abbrev pub tariff_digit : ℕ → ℕ
tariff_digit dife = dife / 16 % 4

-- the subunit bit of a DIFE
abbrev pub subunit_digit : ℕ → ℕ
subunit_digit dife = dife / 64 % 2

-- ---- length bytes

-- A length byte says how many bytes follow. F0 to FF say nothing that is read here.
abbrev pub IsLength : ℕ → ℕ → Type 0
IsLength byte n = ((byte < 0xC0) × (n ≡ byte)) ⊎ ((0xC0 ≤ byte) × (byte < 0xF0) × (n ≡ byte % 16))

-- a length byte, then that many bytes
pub record IsCounted (text content : List ℕ) : Type 0 where
  pub byte : ℕ
  pub parts : text ≡ byte ∷ content
  pub length_of : IsLength byte (length content)

-- ---- VIF, VIFEs and data

-- The VIF and what follows it: a length byte and characters after 7C, else at most ten VIFEs. FC isn't read here.
abbrev pub IsVib : List ℕ → Type 0
IsVib [] = ⊥
IsVib (vif ∷ others) = ((vif ≡ 0x7C) × (characters : List ℕ) × IsCounted others characters)
    ⊎ ((vif ≢ 0x7C) × (vif ≢ 0xFC) × Extends vif others × (length others ≤ 10))

-- how many bytes of data the fields 0 to E have: none, whole numbers, REAL (5), whole numbers, none, BCD; D says its
-- own
abbrev pub width : ℕ → ℕ
width field = slice_index (0 ∷ 1 ∷ 2 ∷ 3 ∷ 4 ∷ 4 ∷ 6 ∷ 8 ∷ 0 ∷ 1 ∷ 2 ∷ 3 ∷ 4 ∷ 0 ∷ 6 ∷ []) field

-- the data as sent, and its content
abbrev pub IsData : ℕ → List ℕ → List ℕ → Type 0
IsData field sent content = ((field ≡ 0xD) × IsCounted sent content)
    ⊎ ((field ≢ 0xD) × (sent ≡ content) × (length content ≡ width field))

-- ---- the record

-- A text spells a record: DIF, at most ten DIFEs, the VIB, and the data.
pub record Spells (text : List ℕ) (e : Entry) : Type 0 where
  pub dif : ℕ
  pub difes : List ℕ
  pub sent : List ℕ
  pub parts : text ≡ dif ∷ (difes ++ (e.vib ++ sent))
  pub not_special : dif % 16 ≢ 15
  pub extends : Extends dif difes
  pub at_most_ten : length difes ≤ 10
  pub storage : e.storage ≡ dif / 64 % 2 + 2 * number 16 (map storage_digit difes)
  pub tariff : e.tariff ≡ number 4 (map tariff_digit difes)
  pub subunit : e.subunit ≡ number 2 (map subunit_digit difes)
  pub function : e.function ≡ dif / 16 % 4
  pub field : e.field ≡ dif % 16
  pub vib : IsVib e.vib
  pub data_of : IsData e.field sent e.content
