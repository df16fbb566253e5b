-- The forms of data fields, and the types of values in them (EN 13757-3, data field of the DIF, variable length data, data types).
use Rattle.std.specs.Prelude.{ℕ, ◌&&◌, ◌||◌, ◌==◌, Bool, true, false, nat_le, nat_lt, if◌then◌else◌, Option, Some, None}
use Rattle.dc_units.specs.Quantity.{is_integer, is_bcd}
use Rattle.mbdc_reading.specs.declared.codes.Kind.{Kind}
use Rattle.mbdc_reading.specs.declared.codes.Kind.TheVariants as kind
use Rattle.mbdc_reading.specs.declared.form.Form.{Form}
use Rattle.mbdc_reading.specs.declared.form.Form.TheVariants as form
use Rattle.mbdc_reading.specs.declared.form.DataType.{DataType}
use Rattle.mbdc_reading.specs.declared.form.DataType.TheVariants as typed

-- a form where data of this size fit it
abbrev pub sized : Form → ℕ → ℕ → ℕ → Form
sized f least most size = if nat_le least size && nat_le size most then f else form.Other

abbrev pub within : ℕ → ℕ → ℕ → Bool
within low high n = nat_le low n && nat_le n high

-- data with a length byte: characters, BCD, BCD with a minus, a binary number
abbrev pub counted : ℕ → ℕ → Form
counted length size =
    if nat_lt length 0xC0 then sized form.Text 0 191 size
    else if within 0xC1 0xC9 length then sized form.Positive 1 9 size
    else if within 0xD1 0xD9 length then sized form.Negative 1 9 size
    else if within 0xE1 0xE8 length then sized form.Binary 1 8 size
    else form.Other

abbrev pub form_of : ℕ → ℕ → ℕ → Form
form_of field length size =
    if is_integer field then sized form.Integer 1 8 size
    else if field == 5 then sized form.Real 4 4 size
    else if is_bcd field then sized form.Bcd 1 6 size
    else if field == 0xD then counted length size
    else form.Other

-- a number in each form that has one
abbrev pub numeric : Form → Option DataType
numeric form.Text = None
numeric form.Other = None
numeric _ = Some typed.Number

-- digits in BCD, text where there are characters, else a number
abbrev pub digits_type : Form → Option DataType
digits_type form.Bcd = Some typed.Digits
digits_type form.Positive = Some typed.Digits
digits_type form.Text = Some typed.Text
digits_type f = numeric f

-- a date and time by its size: types G, F, I and J
abbrev pub dated : Kind → ℕ → Option DataType
dated kind.Date size = if size == 2 then Some typed.Date else None
dated kind.DateTime size = if size == 4 then Some typed.Minute else if size == 6 then Some typed.Second
    else if size == 3 then Some typed.Time else None
dated kind.AnyDate size = if size == 2 then Some typed.Date else if size == 4 then Some typed.Minute
    else if size == 6 then Some typed.Second else None
dated _ size = None

-- whether data are a whole number, whatever its sign
abbrev pub is_whole : Form → Bool
is_whole form.Integer = true
is_whole form.Binary = true
is_whole _ = false

-- a binary number of two's complement
abbrev pub is_integral : Form → Bool
is_integral form.Integer = true
is_integral _ = false

-- the type of a value of a kind in data of a form and size; none where the kind isn't read there
abbrev pub type_of : Kind → Form → ℕ → Option DataType
type_of kind.Number f size = numeric f
type_of kind.Words form.Text size = Some typed.Text
type_of kind.Words f size = numeric f
type_of kind.Digits f size = digits_type f
type_of kind.Identity f size = if is_whole f && (size == 8) then Some typed.Identity else digits_type f
type_of kind.Letters f size = if is_integral f && (size == 2) then Some typed.Letters else None
type_of kind.Flags f size = if is_whole f then Some typed.Flags else None
type_of kind.Date f size = if is_integral f then dated kind.Date size else None
type_of kind.DateTime f size = if is_integral f then dated kind.DateTime size else None
type_of kind.AnyDate f size = if is_integral f then dated kind.AnyDate size else None
type_of _ f size = None

-- ---- for private clauses

-- data of this size fit a form
abbrev pub fits : Form → ℕ → Bool
fits form.Integer size = within 1 8 size
fits form.Real size = size == 4
fits form.Bcd size = within 1 6 size
fits form.Positive size = within 1 9 size
fits form.Negative size = within 1 9 size
fits form.Binary size = within 1 8 size
fits _ size = true
