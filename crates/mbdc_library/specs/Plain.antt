-- A record and what is read of it as plain numbers (this product; the fields are those of EN 13757-3, data record).
use Rattle.std.specs.Prelude.{ℕ, ◌+◌, ◌-◌, ◌==◌, Bool, if◌then◌else◌, List, length, Option, Some, None, ℤ, pos}
use Rattle.dc_units.specs.Date.{Day}
use Rattle.dc_records.specs.Record.{Entry}
use Rattle.dc_units.specs.declared.value.Value.TheVariants as value
use Rattle.mbdc_reading.specs.declared.form.DataType.{DataType}
use Rattle.mbdc_reading.specs.declared.form.DataType.TheVariants as typed
use Rattle.mbdc_reading.specs.declared.reading.Reading.{Reading}
use Rattle.mbdc_reading.specs.declared.reading.How.{How}
use Rattle.mbdc_reading.specs.declared.reading.How.TheVariants as how
use Rattle.mbdc_reading.specs.declared.reading.Found.{Found}
use Rattle.mbdc_reading.specs.declared.reading.Found.TheVariants as found
use Rattle.mbdc_reading.specs.declared.value.Datum.{Datum}
use Rattle.mbdc_reading.specs.declared.value.Datum.TheVariants as datum
use Rattle.mbdc_reading.specs.declared.value.NoValue.{NoValue}
use Rattle.mbdc_reading.specs.declared.value.NoValue.TheVariants as fault
use Rattle.mbdc_reading.specs.Names.{summer_found}
use Rattle.mbdc_reading.specs.Parts.{label_of, len_of, maker_of, told_of, vifes_of}
use Rattle.mbdc_library.specs.declared.plain.Places.{Places}
use Rattle.mbdc_library.specs.declared.plain.PlainReading.{PlainReading}
use Rattle.mbdc_library.specs.declared.plain.PlainRecord.{PlainRecord}
use Rattle.mbdc_library.specs.declared.plain.PlainValue.{PlainValue}
use Rattle.mbdc_library.specs.Header.{count, flag}

-- ---- values

abbrev pub number_value : ℤ → ℤ → ℕ → PlainValue
number_value mantissa exponent flags = record {
  mantissa = mantissa;
  exponent = exponent;
  year = 0;
  month = 0;
  day = 0;
  hour = 0;
  minute = 0;
  second = 0;
  flags = flags;
}

abbrev pub no_value : PlainValue
no_value = number_value (pos 0) (pos 0) 0

abbrev pub time_value : ℕ → ℕ → ℕ → ℕ → ℕ → ℕ → PlainValue
time_value year month day hour minute second = record {
  mantissa = pos 0;
  exponent = pos 0;
  year = year;
  month = month;
  day = day;
  hour = hour;
  minute = minute;
  second = second;
  flags = 0;
}

abbrev pub value_on : Day → ℕ → ℕ → ℕ → PlainValue
value_on d hour minute second = time_value d.year d.month d.day hour minute second

abbrev pub datum_value : Datum → PlainValue
datum_value (datum.Known (value.Number d)) = number_value d.mantissa d.exponent 0
datum_value (datum.Known (value.Flags len bits)) = number_value (pos 0) (pos 0) bits
datum_value (datum.Known (value.Day d)) = value_on d 0 0 0
datum_value (datum.Known (value.Minute d hour minute)) = value_on d hour minute 0
datum_value (datum.Second d hour minute second) = value_on d hour minute second
datum_value (datum.Time hour minute second) = time_value 0 0 0 hour minute second
datum_value _ = no_value

-- digits, texts and identities are their bytes
abbrev pub plain_value : Found → PlainValue
plain_value (found.Value t d) = datum_value d
plain_value _ = no_value

-- ---- numbers of names

abbrev pub type_number : DataType → ℕ
type_number typed.Number = 1
type_number typed.Digits = 2
type_number typed.Flags = 3
type_number typed.Date = 4
type_number typed.Minute = 5
type_number typed.Second = 6
type_number typed.Time = 7
type_number typed.Text = 8
type_number typed.Letters = 9
type_number typed.Identity = 10

abbrev pub fault_number : NoValue → ℕ
fault_number fault.Invalid = 1
fault_number fault.Digit = 2
fault_number fault.NotANumber = 3
fault_number fault.Infinite = 4
fault_number fault.Sign = 5
fault_number fault.NoTime = 6
fault_number fault.NoDate = 7
fault_number fault.NoLetters = 8
fault_number fault.OutOfRange = 9

abbrev pub how_number : How → ℕ
how_number how.Other = 0
how_number (how.Point quantity) = 1
how_number how.Plain = 2
how_number how.Qualified = 3

abbrev pub type_of : Found → ℕ
type_of (found.Value t d) = type_number t
type_of _ = 0

-- the VIFEs of record errors come after the other reasons
abbrev pub error_of : Found → ℕ
error_of (found.Value t (datum.None f)) = fault_number f
error_of (found.Failure number) = 0x100 + number
error_of _ = 0

-- the code of a unit is that of its quantity, unless a VIFE replaces it
abbrev pub unit_of : Reading → ℕ → ℕ
unit_of r quantity = if r.is_replaced then 0xFFFF else quantity

abbrev pub is_summer : Option Bool → ℕ
is_summer None = 0
is_summer (Some summer) = flag summer

abbrev pub plain_reading : Reading → ℕ → List ℕ → PlainReading
plain_reading r quantity content = record {
  how = how_number r.how;
  data_type = type_of r.found;
  quantity = quantity;
  unit = unit_of r quantity;
  unit_suffix = count r.unit;
  error = error_of r.found;
  phase = count r.phase;
  direction = count r.direction;
  summer_time = is_summer (summer_found r.found content);
}

-- ---- places

-- where a part begins, if there is one
abbrev pub place_of : Option (List ℕ) → ℕ → ℕ
place_of None place = 0
place_of (Some bytes) place = place

-- the parts of a record whose value information block begins at `vib`: a length byte stands before the data of field D
abbrev pub data_place : ℕ → Entry → ℕ
data_place vib e = vib + length e.vib + flag (e.field == 0xD)

abbrev pub places_of : ℕ → ℕ → Entry → Places
places_of at vib e = record {
  at = at;
  vib_at = vib;
  vib_size = length e.vib;
  data_at = data_place vib e;
  data_size = length e.content;
  label_at = place_of (label_of e.vib) (vib + 2);
  label_size = len_of (label_of e.vib);
  vifes_at = vib + (length e.vib - length (vifes_of e.vib));
  vifes_size = length (told_of e.vib);
  maker_at = place_of (maker_of e.vib) (vib + (length e.vib - len_of (maker_of e.vib)));
  maker_size = len_of (maker_of e.vib);
  next = data_place vib e + length e.content;
}

-- a counter of fixed data: a unit byte, and four bytes of data
abbrev pub counter_places : ℕ → ℕ → ℕ → Places
counter_places at vib place = record {
  at = at;
  vib_at = vib;
  vib_size = 1;
  data_at = place;
  data_size = 4;
  label_at = 0;
  label_size = 0;
  vifes_at = 0;
  vifes_size = 0;
  maker_at = 0;
  maker_size = 0;
  next = place + 4;
}

-- ---- records

abbrev pub plain_record : Entry → ℕ → ℕ → Reading → Places → PlainRecord
plain_record e len quantity r places = record {
  head = record {
    storage = e.storage;
    tariff = e.tariff;
    subunit = e.subunit;
    function = e.function;
    field = e.field;
    length = len;
  };
  places = places;
  reading = plain_reading r quantity e.content;
  value = plain_value r.found;
}
