-- How much of what came belongs to the frame at its front: this product, by the lengths of EN 13757-2.
use Rattle.std.specs.Prelude.{ℕ, ◌+◌, ◌-◌, List, length, slice_index, nat_lt, ◌==◌, if◌then◌else◌}
use Rattle.dc_linkframe.specs.declared.needs.Need.{Need}
use Rattle.dc_linkframe.specs.declared.needs.Need.TheVariants.{More, Whole, Bad}
use Rattle.dc_linkframe.specs.Fault.{begins_ack, begins_short, begins_long, lengths_agree}

-- a frame of this many bytes: it is whole, or some are missing
abbrev pub up_to : ℕ → List ℕ → Need
up_to whole text = if nat_lt (length text) whole then More (whole - length text) else Whole whole

-- a long frame, which is judged by its first four bytes
abbrev pub need_of_long : List ℕ → Need
need_of_long text =
    if nat_lt (length text) 4 then More (4 - length text)
    else if lengths_agree text then up_to (slice_index text 1 + 6) text
    else Bad

-- what the bytes that came need, by the first of them
abbrev pub need_of : List ℕ → Need
need_of text =
    if length text == 0 then More 1
    else if begins_ack text then Whole 1
    else if begins_short text then up_to 5 text
    else if begins_long text then need_of_long text
    else Bad
