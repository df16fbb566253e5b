-- The frame that a text spells, as a function of the text: what `parse` answers.
use Rattle.std.specs.Prelude.{ℕ, ◌-◌, List, length, slice_index, slice_range, Option, Some, None}
use Rattle.std.specs.Prelude.{if◌then◌else◌}
use Rattle.dc_linkframe.specs.declared.fault.FrameFault.{FrameFault}
use Rattle.dc_linkframe.specs.Frame.{FrameSeen, ack, short, long}
use Rattle.dc_linkframe.specs.Fault.{begins_ack, begins_short, fault_of}

-- what stands at the places of each kind of frame
abbrev pub fields_of : List ℕ → FrameSeen
fields_of text =
    if begins_ack text then ack
    else if begins_short text then short (slice_index text 1) (slice_index text 2)
    else long (slice_index text 4) (slice_index text 5) (slice_index text 6)
    (slice_range text 7 (length text - 2))

-- the frame, or none where there is a fault
abbrev pub unless_faulty : Option FrameFault → FrameSeen → Option FrameSeen
unless_faulty None frame = Some frame
unless_faulty (Some fault) frame = None

-- the link frame that the bytes spell; none where they have a fault
unfoldable pub frame_of : List ℕ → Option FrameSeen
frame_of text = unless_faulty (fault_of text) (fields_of text)
