-- The values of data (EN 13757-3, data types A, B, F, G, H, I and J).
use Rattle.std.specs.Prelude.{ℕ, ◌+◌, ◌*◌, ◌%◌, ◌==◌, ◌||◌, ◌&&◌, Bool, nat_le, nat_lt, if◌then◌else◌, List, [], ◌∷◌, ◌++◌, length, get_or}
use Rattle.std.specs.Prelude.{Option, Some, None, Result, Ok, Err, ℤ, pos, negsuc, neg_ℤ, ◌+ℤ◌}
use Rattle.dc_address.specs.declared.identity.Identity.{Identity}
use Rattle.dc_records.specs.declared.fault.BodyFault.{BodyFault}
use Rattle.dc_records.specs.declared.header.Header.{Header}
use Rattle.dc_records.specs.Header.{header_at}
use Rattle.dc_units.specs.declared.decimal.Decimal.{Decimal}
use Rattle.dc_units.specs.declared.value.Value.{Value}
use Rattle.dc_units.specs.declared.value.Value.TheVariants as value
use Rattle.dc_units.specs.Number.{unsigned, integer, bcd, bcd_digits, number_after}
use Rattle.dc_units.specs.Date.{type_g}
use Rattle.dc_units.specs.Time.{type_f}
use Rattle.dc_units.specs.Value.{on_day, at_minute}
use Rattle.mbdc_reading.specs.Real.{real_of}
use Rattle.mbdc_reading.specs.declared.form.Form.{Form}
use Rattle.mbdc_reading.specs.declared.form.Form.TheVariants as form
use Rattle.mbdc_reading.specs.declared.form.DataType.{DataType}
use Rattle.mbdc_reading.specs.declared.form.DataType.TheVariants as typed
use Rattle.mbdc_reading.specs.declared.value.NoValue.{NoValue}
use Rattle.mbdc_reading.specs.declared.value.NoValue.TheVariants.{Invalid, Digit, NotANumber, Infinite, Sign, NoTime}
use Rattle.mbdc_reading.specs.declared.value.NoValue.TheVariants.{NoDate, NoLetters, OutOfRange}
use Rattle.mbdc_reading.specs.declared.value.Datum.{Datum}
use Rattle.mbdc_reading.specs.declared.value.Datum.TheVariants as datum
use Rattle.mbdc_reading.specs.Meaning.{fitting}

-- ---- numbers

-- type H: an infinity has no fraction
abbrev pub real_or : Option Decimal → ℕ → Result Decimal NoValue
real_or (Some d) bits = Ok d
real_or None bits = if bits % 0x800000 == 0 then Err Infinite else Err NotANumber

abbrev pub real_with : ℕ → Result Decimal NoValue
real_with bits = real_or (real_of bits) bits

abbrev pub real_in : List ℕ → Result Decimal NoValue
real_in (a ∷ b ∷ c ∷ d ∷ []) = real_with (a + 256 * (b + 256 * (c + 256 * d)))
real_in _ = Err Invalid

abbrev pub whole : Option ℤ → NoValue → Result Decimal NoValue
whole None fault = Err fault
whole (Some n) fault = Ok (record { mantissa = n; exponent = pos 0 })

abbrev pub as_positive : Option ℕ → Option ℤ
as_positive None = None
as_positive (Some n) = Some (pos n)

-- counted digits
abbrev pub magnitude : List ℕ → Option ℤ
magnitude content = as_positive (number_after 0 (bcd_digits content))

abbrev pub negated : Option ℤ → Option ℤ
negated None = None
negated (Some n) = Some (neg_ℤ n)

-- a counted binary number whose highest bit is 0
abbrev pub unsigned_only : Option ℤ → Option ℤ
unsigned_only None = None
unsigned_only (Some (pos n)) = Some (pos n)
unsigned_only (Some (negsuc n)) = None

abbrev pub number_in : Form → List ℕ → Result Decimal NoValue
number_in form.Integer content = whole (integer content) Invalid
number_in form.Real content = real_in content
number_in form.Bcd content = whole (bcd content) Digit
number_in form.Positive content = whole (magnitude content) Digit
number_in form.Negative content = whole (negated (magnitude content)) Digit
number_in form.Binary content = whole (unsigned_only (integer content)) Sign
number_in _ content = Err Invalid

-- ---- a number times a power of ten

abbrev pub with_power : ℤ → Option ℤ → Datum
with_power n None = datum.None OutOfRange
with_power n (Some e) = datum.Known (value.Number (record { mantissa = n; exponent = e }))

abbrev pub scaled_by : ℤ → Result Decimal NoValue → Datum
scaled_by exponent (Ok d) = with_power d.mantissa (fitting (exponent +ℤ d.exponent))
scaled_by exponent (Err fault) = datum.None fault

-- ---- dates and times

abbrev pub clock_fault : Bool → ℕ → ℕ → ℕ → Option NoValue
clock_fault invalid hour minute second =
    if invalid then Some Invalid
    else if nat_lt 23 hour || (nat_lt 59 minute || nat_lt 59 second) then Some NoTime else None

abbrev pub known : Value → Datum
known value.None = datum.None NoDate
known v = datum.Known v

abbrev pub unless : Option NoValue → Datum → Datum
unless (Some fault) d = datum.None fault
unless None d = d

-- type G
abbrev pub day_in : List ℕ → Datum
day_in content = known (on_day (type_g content))

-- type F
abbrev pub minute_in : List ℕ → Datum
minute_in content =
    unless (clock_fault (nat_le 0x80 (get_or content 0 0)) (get_or content 1 0 % 32) (get_or content 0 0 % 64) 0)
    (known (at_minute (type_f content)))

abbrev pub second_on : Value → ℕ → ℕ → ℕ → Datum
second_on (value.Day date) hour minute second = datum.Second date hour minute second
second_on _ hour minute second = datum.None NoDate

-- type I: second and minute in bits 5 to 0, hour in bits 4 to 0, then a date; bit 7 of the second byte marks it invalid
abbrev pub second_in : List ℕ → Datum
second_in (a ∷ b ∷ c ∷ d ∷ e ∷ f ∷ []) =
    unless (clock_fault (nat_le 0x80 b) (c % 32) (b % 64) (a % 64))
    (second_on (on_day (type_g (d ∷ e ∷ []))) (c % 32) (b % 64) (a % 64))
second_in _ = datum.None Invalid

-- type J
abbrev pub time_in : List ℕ → Datum
time_in (a ∷ b ∷ c ∷ []) =
    unless (clock_fault (nat_le 0x80 b) (c % 32) (b % 64) (a % 64)) (datum.Time (c % 32) (b % 64) (a % 64))
time_in _ = datum.None Invalid

-- ---- identities, letters, digits

abbrev pub identity_or_none : Result Header BodyFault → Option Identity
identity_or_none (Ok h) = Some h.identity
identity_or_none (Err f) = None

-- eight bytes as a telegram's header has them
abbrev pub identity_at : List ℕ → Option Identity
identity_at wire = identity_or_none (header_at (wire ++ (0 ∷ 0 ∷ 0 ∷ 0 ∷ [])))

abbrev pub digits_or : Option ℕ → Datum → Datum
digits_or (Some n) d = d
digits_or None d = datum.None Digit

abbrev pub identity_or : Option Identity → List ℕ → Datum
identity_or (Some i) number = datum.Identity i
identity_or None number = digits_or (number_after 0 (bcd_digits number)) (datum.None NoLetters)

abbrev pub identity_in : List ℕ → Datum
identity_in (a ∷ b ∷ c ∷ d ∷ e ∷ f ∷ g ∷ h ∷ []) =
    identity_or (identity_at (a ∷ b ∷ c ∷ d ∷ e ∷ f ∷ g ∷ h ∷ [])) (a ∷ b ∷ c ∷ d ∷ [])
identity_in _ = datum.None Invalid

abbrev pub letters_or : Option Identity → Datum
letters_or (Some i) = datum.Letters i
letters_or None = datum.None NoLetters

abbrev pub letters_in : List ℕ → Datum
letters_in (low ∷ high ∷ []) = letters_or (identity_at (0 ∷ 0 ∷ 0 ∷ 0 ∷ low ∷ high ∷ 0 ∷ 0 ∷ []))
letters_in _ = datum.None Invalid

abbrev pub digits_in : List ℕ → Datum
digits_in content = digits_or (number_after 0 (bcd_digits content)) datum.Digits

-- ---- all

abbrev pub if_size : Bool → Datum → Datum
if_size fits d = if fits then d else datum.None Invalid

-- the value of a type in data of a form, a number times a power of ten
abbrev pub value_of : DataType → Form → ℤ → List ℕ → Datum
value_of typed.Number form exponent content = scaled_by exponent (number_in form content)
value_of typed.Flags form exponent content =
    if_size (nat_le 1 (length content) && nat_le (length content) 8)
    (datum.Known (value.Flags (length content) (unsigned content)))
value_of typed.Digits form exponent content = if_size (nat_le (length content) 9) (digits_in content)
value_of typed.Date form exponent content = if_size (length content == 2) (day_in content)
value_of typed.Minute form exponent content = if_size (length content == 4) (minute_in content)
value_of typed.Second form exponent content = second_in content
value_of typed.Time form exponent content = time_in content
value_of typed.Text form exponent content = datum.Text
value_of typed.Letters form exponent content = letters_in content
value_of typed.Identity form exponent content = identity_in content
