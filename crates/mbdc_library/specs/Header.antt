-- The header of a body as plain numbers (this product; the headers are those of EN 13757-3).
use Rattle.std.specs.Prelude.{ℕ, Option, Some, None, is_some, Bool, if◌then◌else◌}
use Rattle.dc_address.specs.declared.identity.Identity.{Identity}
use Rattle.dc_units.specs.Number.{bcd_digits, number_after}
use Rattle.mbdc_reading.specs.declared.content.content.Head.{Head}
use Rattle.mbdc_reading.specs.declared.content.content.Structure.{Structure}
use Rattle.mbdc_reading.specs.declared.content.content.Structure.TheVariants.{LongHeader, ShortHeader, NoHeader}
use Rattle.mbdc_reading.specs.Content.{Content, Variable, variable, fixed}
use Rattle.mbdc_reading.specs.Fixed.{Fixed}
use Rattle.mbdc_reading.specs.Security.{security_of}
use Rattle.mbdc_library.specs.declared.header.PlainHeader.{PlainHeader}

-- 1 where something stands there
abbrev pub flag : Bool → ℕ
flag there = if there then 1 else 0

-- a number; 0 where nothing stands there
abbrev pub count : Option ℕ → ℕ
count None = 0
count (Some n) = n

-- where the first record of a structure begins
abbrev pub first_of : Structure → ℕ
first_of LongHeader = 12
first_of ShortHeader = 4
first_of NoHeader = 0

abbrev pub number_of : Option Identity → ℕ
number_of None = 0
number_of (Some i) = i.number

abbrev pub maker_of : Option Identity → ℕ
maker_of None = 0
maker_of (Some i) = i.maker

abbrev pub version_of : Option Identity → ℕ
version_of None = 0
version_of (Some i) = i.version

abbrev pub kind_of : Option Identity → ℕ
kind_of None = 0
kind_of (Some i) = i.kind

abbrev pub access_of : Option Head → ℕ
access_of None = 0
access_of (Some h) = h.access

abbrev pub status_of : Option Head → ℕ
status_of None = 0
status_of (Some h) = h.status

abbrev pub config_of : Option Head → ℕ
config_of None = 0
config_of (Some h) = h.config

abbrev pub variable_header : Variable → PlainHeader
variable_header v = record {
  named = flag (is_some v.meter);
  number = number_of v.meter;
  manufacturer = maker_of v.meter;
  version = version_of v.meter;
  medium = kind_of v.meter;
  headed = flag (is_some v.head);
  access = access_of v.head;
  status = status_of v.head;
  configuration = config_of v.head;
  mode = (security_of (config_of v.head)).mode;
  blocks = count (security_of (config_of v.head)).blocks;
  first = first_of v.structure;
}

-- fixed data have no manufacturer, no version and no configuration
abbrev pub fixed_header : Fixed → PlainHeader
fixed_header f = record {
  named = flag (is_some (number_after 0 (bcd_digits f.number)));
  number = count (number_after 0 (bcd_digits f.number));
  manufacturer = 0;
  version = 0;
  medium = f.medium;
  headed = 1;
  access = f.access;
  status = f.status;
  configuration = 0;
  mode = 0;
  blocks = 0;
  first = 8;
}

-- nothing stands in fixed data that are too short
abbrev pub header_of : Content → PlainHeader
header_of (variable v) = variable_header v
header_of (fixed (Some f)) = fixed_header f
header_of (fixed None) = record {
  named = 0;
  number = 0;
  manufacturer = 0;
  version = 0;
  medium = 0;
  headed = 0;
  access = 0;
  status = 0;
  configuration = 0;
  mode = 0;
  blocks = 0;
  first = 0;
}
