-- Why a text spells no link frame: EN 13757-2.
use Rattle.std.specs.Prelude.{ℕ, ◌+◌, ◌-◌, Bool, not, ◌&&◌, ◌||◌, List, [], ◌∷◌, length}
use Rattle.std.specs.Prelude.{slice_index, slice_range, codes, Option, find, nat_lt, ◌==◌}
use Rattle.std.specs.Prelude.{if◌then◌else◌}
use Rattle.dc_linkframe.specs.declared.fault.FrameFault.{FrameFault}
use Rattle.dc_linkframe.specs.declared.fault.FrameFault.TheVariants.{Empty, Start, Truncated}
use Rattle.dc_linkframe.specs.declared.fault.FrameFault.TheVariants.{Lengths, Trailing, Stop}
use Rattle.dc_linkframe.specs.declared.fault.FrameFault.TheVariants.{Checksum}
use Rattle.dc_linkframe.specs.Frame.{checksum}

-- what the first byte begins
abbrev pub begins_ack : List ℕ → Bool
begins_ack text = slice_index text 0 == 0xE5

-- the first byte is the start of a short frame, 0x10
abbrev pub begins_short : List ℕ → Bool
begins_short text = slice_index text 0 == 0x10

-- the first byte is the start of a long frame, 0x68
abbrev pub begins_long : List ℕ → Bool
begins_long text = slice_index text 0 == 0x68

-- how many bytes the frame has that begins so
abbrev pub frame_length : List ℕ → ℕ
frame_length text = if begins_ack text then 1 else if begins_short text then 5
    else slice_index text 1 + 6

-- the fourth byte repeats the start, and both lengths count at least control byte, address and control information
abbrev pub lengths_agree : List ℕ → Bool
lengths_agree text =
    (slice_index text 1 == slice_index text 2) && not (nat_lt (slice_index text 1) 3) &&
    (slice_index text 3 == 0x68)

-- the content: what lies between the start, which has one byte or four, and the checksum
abbrev pub content_of : List ℕ → List ℕ
content_of text = slice_range text (if begins_long text then 4 else 1) (length text - 2)

-- the line that a fault stands for
abbrev pub stands : List ℕ → FrameFault → Bool
stands text Empty = length text == 0
stands text Start = not (begins_ack text || begins_short text || begins_long text)
stands text Truncated = nat_lt (length text) (frame_length text)
stands text Lengths = begins_long text && not (lengths_agree text)
stands text Trailing = nat_lt (frame_length text) (length text)
stands text Stop = not (begins_ack text) && not (slice_index text (length text - 1) == 0x16)
stands text Checksum = not (begins_ack text) && not
    (slice_index text (length text - 2) == checksum (content_of text))

-- the faults in the order in which they are looked for
abbrev pub in_order : List FrameFault
in_order = Empty ∷ Start ∷ Truncated ∷ Lengths ∷ Trailing ∷ Stop ∷ Checksum ∷ []

-- the first fault that stands
abbrev pub fault_of : List ℕ → Option FrameFault
fault_of text = find (stands text) in_order

abbrev pub number_of : FrameFault → ℕ
number_of Empty = 1
number_of Start = 2
number_of Truncated = 3
number_of Lengths = 4
number_of Trailing = 5
number_of Stop = 6
number_of Checksum = 7

abbrev pub name_of : FrameFault → List ℕ
name_of Empty = codes "Empty"
name_of Start = codes "Start"
name_of Truncated = codes "Truncated"
name_of Lengths = codes "Lengths"
name_of Trailing = codes "Trailing"
name_of Stop = codes "Stop"
name_of Checksum = codes "Checksum"
