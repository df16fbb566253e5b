-- Reading a change or a state from the start of bytes: the value and the rest, or `None`.
use Rattle.std.specs.Prelude.{ℕ, Option, None, Some, List, Bool, length, ◌&&◌, Result, Ok, Err}
use Rattle.std.specs.Prelude.{nat_lt, nat_le, ◌==◌, if◌then◌else◌}
use Rattle.dc_address.specs.declared.identity.Identity.{Identity}
use Rattle.dc_records.specs.declared.fault.BodyFault.{BodyFault}
use Rattle.dc_records.specs.Telegram.{Parsed, telegram_at}
use Rattle.mbdc_change.specs.declared.change.Change.{Change}
use Rattle.mbdc_change.specs.declared.change.Change.TheVariants.{Telegram}
use Rattle.mbdc_change.specs.Body.{BodyRow, body_of, longest_body}
use Rattle.mbdc_change.specs.State.{State, MeterRow, PartRow, ReadingRow}
use Rattle.mbdc_change.specs.Fields.{end_of_numbers}
use Rattle.mbdc_change.specs.Pieces.{Reader, address_at, both, byte_at, chosen, counted_at, flat_at}
use Rattle.mbdc_change.specs.Pieces.{identity_at, line_at, listed, long_at, moment_at, only, ◌>>=◌}
use Rattle.mbdc_change.specs.Command.{command_at, longest_line}

abbrev pub body_by : List ℕ → Result Parsed BodyFault → Option BodyRow
body_by bytes (Ok telegram) = if nat_le (length bytes) longest_body then Some (body_of telegram)
    else None
body_by bytes (Err fault) = None

unfoldable pub body_row : List ℕ → Option BodyRow
body_row bytes = body_by bytes (telegram_at bytes)

unfoldable pub body_at : Reader BodyRow
body_at bytes = chosen body_row counted_at bytes

abbrev pub part_of : ℕ × BodyRow → PartRow
part_of x = record { moment = x.0; body = x.1.bytes }

unfoldable pub part_at : Reader PartRow
part_at bytes = chosen (λ (x : ℕ × BodyRow). Some (part_of x)) (both moment_at body_at) bytes

unfoldable pub parts_at : Reader (List PartRow)
parts_at bytes = listed byte_at part_at bytes

-- ---- changes

abbrev pub telegram_of : ℕ × (ℕ × BodyRow) → Change
telegram_of x = Telegram x.0 x.1.0 x.1.1

-- a telegram, after the tag
unfoldable pub telegram_change_at : Reader Change
telegram_change_at bytes = chosen (λ (x : ℕ × (ℕ × BodyRow)). Some (telegram_of x))
    (both byte_at (both moment_at body_at)) bytes

abbrev pub fields_at : ℕ → Reader Change
fields_at tag bytes = if tag == 1 then telegram_change_at bytes else command_at tag bytes

unfoldable pub change_at : Reader Change
change_at bytes = byte_at bytes >>= λ tag. fields_at tag.0 tag.1

-- ---- a state

abbrev pub entry_of : (((Identity × ℕ) × Option ℕ) × List ℕ) × List PartRow → Identity × MeterRow
entry_of x = (x.0.0.0.0, record { line = x.0.0.0.1; address = x.0.0.1; flat = x.0.1; parts = x.1 })

-- a meter and its row
unfoldable pub entry_at : Reader (Identity × MeterRow)
entry_at bytes =
    chosen (λ (x : (((Identity × ℕ) × Option ℕ) × List ℕ) × List PartRow). Some (entry_of x))
    (both (both (both (both identity_at line_at) address_at) flat_at) parts_at) bytes

abbrev pub reading_of : ((ℕ × Identity) × List ℕ) × List PartRow → ReadingRow
reading_of x = record { serial = x.0.0.0; meter = x.0.0.1; flat = x.0.1; parts = x.1 }

unfoldable pub reading_at : Reader ReadingRow
reading_at bytes = chosen (λ (x : ((ℕ × Identity) × List ℕ) × List PartRow). Some (reading_of x))
    (both (both (both long_at identity_at) flat_at) parts_at) bytes

-- the numbers and the last line
pub record Head : Type 0 where
  pub next_serial : ℕ
  pub confirmed : ℕ
  pub last_number : ℕ
  pub last_line : List ℕ

abbrev pub head_of : State → Head
head_of s = record {
  next_serial = s.next_serial;
  confirmed = s.confirmed;
  last_number = s.last_number;
  last_line = s.last_line;
}

abbrev pub head_from : ((ℕ × ℕ) × ℕ) × List ℕ → Head
head_from x = record {
  next_serial = x.0.0.0;
  confirmed = x.0.0.1;
  last_number = x.0.1;
  last_line = x.1;
}

abbrev pub is_head : Head → Bool
is_head h = nat_le h.next_serial end_of_numbers && (nat_lt h.confirmed h.next_serial &&
    (nat_lt h.last_number end_of_numbers && nat_le (length h.last_line) longest_line))

unfoldable pub head_at : Reader Head
head_at bytes = chosen (λ (x : ((ℕ × ℕ) × ℕ) × List ℕ). only is_head (head_from x))
    (both (both (both long_at long_at) long_at) counted_at) bytes
