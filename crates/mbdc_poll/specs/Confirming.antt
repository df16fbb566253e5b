-- On a line with wrong bits a telegram has to come twice: what shows them, and when two agree (this product; frames and
-- telegrams are those of EN 13757-2 and EN 13757-3).
use Rattle.std.specs.Prelude.{ℕ, ◌+◌, ◌-◌, ◌%◌, Bool, true, false, not, ◌&&◌, ◌||◌, ◌==◌, min, List, [], ◌∷◌, length}
use Rattle.std.specs.Prelude.{Option, None, Some, bytes_eq, if◌then◌else◌, is_some, slice_get}
use Rattle.std.specs.List.{list_any}
use Rattle.std.specs.Result.{result_ok}
use Rattle.dc_address.specs.Identity.{wire_of}
use Rattle.dc_linkframe.specs.Control.{is_rsp_ud, variable_data}
use Rattle.dc_linkframe.specs.Frame.{FrameSeen, ack, short, long}
use Rattle.dc_linkframe.specs.Reading.{frame_of}
use Rattle.dc_linkframe.specs.declared.fault.FrameFault.{FrameFault}
use Rattle.dc_linkframe.specs.declared.fault.FrameFault.TheVariants.{Empty, Start, Truncated, Lengths, Trailing, Stop, Checksum}
use Rattle.dc_records.specs.Body.{Ending, plain, last, more}
use Rattle.dc_records.specs.Record.{Entry}
use Rattle.dc_records.specs.Telegram.{Parsed, telegram_at}

-- ---- what shows wrong bits

-- how many answers in a row are clear, until a telegram is taken at once
abbrev pub most_clear : ℕ
most_clear = 200

-- this answer has no wrong checksum
abbrev pub one_more : ℕ → ℕ
one_more clear = min (clear + 1) most_clear

-- A WRONG CHECKSUM shows wrong bits; silence is no answer.
abbrev pub clear_by : ℕ → Option FrameFault → ℕ
clear_by clear None = one_more clear
clear_by clear (Some Empty) = clear
clear_by clear (Some Start) = one_more clear
clear_by clear (Some Truncated) = one_more clear
clear_by clear (Some Lengths) = one_more clear
clear_by clear (Some Trailing) = one_more clear
clear_by clear (Some Stop) = one_more clear
clear_by clear (Some Checksum) = 0

-- ---- telegrams that agree

-- the telegram of a frame
abbrev pub telegram_in : Option FrameSeen → Option Parsed
telegram_in None = None
telegram_in (Some ack) = None
telegram_in (Some (short control address)) = None
telegram_in (Some (long control address ci body)) =
    if is_rsp_ud control && ci == variable_data then result_ok (telegram_at body) else None

-- the sum of a frame's bytes without the access number
abbrev pub less_access : Option ℕ → ℕ → ℕ
less_access None access = 0
less_access (Some sum) access = (sum + 256 - access) % 256

abbrev pub sum_of : List ℕ → ℕ → ℕ
sum_of answer access = less_access (slice_get answer (length answer - 2)) access

-- the same kind of end, and the same manufacturer data, unless values have changed
abbrev pub ends_agree : Bool → Ending → Ending → Bool
ends_agree changed plain plain = true
ends_agree changed plain (last others) = false
ends_agree changed plain (more others) = false
ends_agree changed (last bytes) plain = false
ends_agree changed (last bytes) (last others) = changed || bytes_eq bytes others
ends_agree changed (last bytes) (more others) = false
ends_agree changed (more bytes) plain = false
ends_agree changed (more bytes) (last others) = false
ends_agree changed (more bytes) (more others) = changed || bytes_eq bytes others

-- the same head and value, but for a value with storage number 0 that has changed
abbrev pub records_agree : Bool → Entry → Entry → Bool
records_agree changed one two =
    (one.storage == two.storage) && ((one.tariff == two.tariff) && ((one.subunit == two.subunit)
    && ((one.function == two.function) && ((one.field == two.field) && (bytes_eq one.vib two.vib
    && ((changed && (one.storage == 0)) || bytes_eq one.content two.content))))))

abbrev pub all_agree : Bool → List Entry → List Entry → Bool
all_agree changed [] [] = true
all_agree changed [] (two ∷ others) = false
all_agree changed (one ∷ left) [] = false
all_agree changed (one ∷ left) (two ∷ others) = records_agree changed one two && all_agree changed left others

abbrev pub telegrams_agree : Bool → Parsed → Parsed → Bool
telegrams_agree changed one two =
    bytes_eq (wire_of one.header.identity) (wire_of two.header.identity)
    && ((one.header.status == two.header.status) && ((one.header.config == two.header.config)
    && (ends_agree changed one.ending two.ending && all_agree changed one.records two.records)))

-- VALUES HAVE CHANGED where the sums differ.
abbrev pub both_agree : List ℕ → List ℕ → Option Parsed → Option Parsed → Bool
both_agree first other None two = false
both_agree first other (Some one) None = false
both_agree first other (Some one) (Some two) =
    telegrams_agree (not (sum_of first one.header.access == sum_of other two.header.access)) one two

-- THESE TELEGRAMS AGREE but for their access numbers, and for values that changed in between.
unfoldable pub agree : List ℕ → List ℕ → Bool
agree first other = both_agree first other (telegram_in (frame_of first)) (telegram_in (frame_of other))

-- it is a telegram with which none of these agrees
abbrev pub is_unconfirmed : List (List ℕ) → List ℕ → Bool
is_unconfirmed telegrams given =
    is_some (telegram_in (frame_of given)) && not (list_any (λ earlier. agree earlier given) telegrams)
