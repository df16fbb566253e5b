-- The counters of fixed data (EN 13757-3, fixed data structure).
use Rattle.std.specs.Prelude.{ℕ, ◌/◌, ◌%◌, ◌==◌, ◌||◌, Bool, false, if◌then◌else◌, List, [], codes, Option, Some, None}
use Rattle.dc_records.specs.Record.{Entry, view}
use Rattle.mbdc_reading.specs.declared.form.Form.{Form}
use Rattle.mbdc_reading.specs.declared.form.Form.TheVariants as form
use Rattle.mbdc_reading.specs.declared.form.DataType.TheVariants as typed
use Rattle.mbdc_reading.specs.declared.reading.Reading.{Reading}
use Rattle.mbdc_reading.specs.declared.reading.How.{How}
use Rattle.mbdc_reading.specs.declared.reading.How.TheVariants as how
use Rattle.mbdc_reading.specs.declared.reading.Found.{Found}
use Rattle.mbdc_reading.specs.declared.reading.Found.TheVariants as found
use Rattle.mbdc_reading.specs.Value.{value_of}
use Rattle.mbdc_reading.specs.declared.content.counter.Counter as written
use Rattle.mbdc_reading.specs.Units.{FixedUnit, fixed_unit}

-- a counter as a record, what it counts, and what is read of it
pub record Counter : Type 0 where
  pub entry : Entry
  pub name : List ℕ
  pub unit : List ℕ
  pub reading : Reading

abbrev pub counter_view : written.Counter → Counter
counter_view c = record { entry = view c.«record»; name = c.name.now; unit = c.unit.now; reading = c.reading }

abbrev pub read_as : How → Found → Reading
read_as by what = record { how = by; found = what; is_replaced = false; unit = None; direction = None; phase = None }

-- counters are binary or in BCD
abbrev pub form_of : ℕ → Form
form_of field = if field == 4 then form.Integer else form.Bcd

abbrev pub counted : Entry → Option FixedUnit → Counter
counted e None = record { entry = e; name = codes "reserved"; unit = []; reading = read_as how.Other found.Nothing }
counted e (Some u) = record {
  entry = e;
  name = u.name;
  unit = u.unit;
  reading = read_as how.Plain (found.Value typed.Number (value_of typed.Number (form_of e.field) u.exponent e.content));
}

abbrev pub counter_of : Entry → ℕ → Counter
counter_of e code = counted e (fixed_unit code)

-- status bit 0: counters are binary
abbrev pub counter_by : List ℕ → List ℕ → ℕ → ℕ → ℕ → ℕ → Counter
counter_by vib content status code storage subunit = counter_of (record {
  storage = storage;
  tariff = 0;
  subunit = subunit;
  function = 0;
  field = if status % 2 == 1 then 4 else 0xC;
  vib = vib;
  content = content;
}) code

-- ---- both

-- unit code 3E of the second counter: the first one's unit, stored at a fixed date
abbrev pub is_same : ℕ → Bool
is_same two = two % 64 == 0x3E

-- status bit 1: counters were stored at a fixed date
abbrev pub is_stored : ℕ → Bool
is_stored status = status / 2 % 2 == 1

abbrev pub one_if : Bool → ℕ
one_if flag = if flag then 1 else 0

abbrev pub second_code : ℕ → ℕ → ℕ
second_code one two = if is_same two then one % 64 else two % 64

abbrev pub second_stored : ℕ → ℕ → Bool
second_stored status two = is_stored status || is_same two

abbrev pub first_counter : List ℕ → List ℕ → ℕ → ℕ → Counter
first_counter vib content status one = counter_by vib content status (one % 64) (one_if (is_stored status)) 0

-- another subunit, unless it is stored
abbrev pub second_counter : List ℕ → List ℕ → ℕ → ℕ → ℕ → Counter
second_counter vib content status one two =
    if second_stored status two then counter_by vib content status (second_code one two) 1 0
    else counter_by vib content status (second_code one two) 0 1
