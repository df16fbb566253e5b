-- The text of a trace (this product; the frames are those of EN 13757-2).
use Rattle.std.specs.Prelude.{ℕ, List, [], ◌∷◌, ◌++◌, codes, decimal, Option, None, Some}
use Rattle.dc_linkframe.specs.Frame.{FrameSeen, ack, short, long}
use Rattle.dc_linkframe.specs.Reading.{frame_of}
use Rattle.mbdc_io.specs.Words.{hex_word, number_word}
use Rattle.mbdc_bus.specs.declared.trace.line.Direction.{Direction}
use Rattle.mbdc_bus.specs.declared.trace.line.Direction.TheVariants.{Out, In}

abbrev pub mark_of : Direction → List ℕ
mark_of Out = codes " >"
mark_of In = codes " <"

abbrev pub what_frame : Option FrameSeen → List ℕ
what_frame None = codes " no frame\n"
what_frame (Some ack) = codes " E5\n"
what_frame (Some (short control address)) = codes " frame\n"
what_frame (Some (long control address ci body)) = codes " frame\n"

-- what the bytes of a request or of an answer are, at the end of the line
unfoldable pub what_of : List ℕ → List ℕ
what_of [] = codes " silence\n"
what_of (byte ∷ bytes) = what_frame (frame_of (byte ∷ bytes))

-- The line of a request or of an answer: milliseconds, bus line, direction, bytes, what they are.
unfoldable pub trace_line : ℕ → ℕ → Direction → List ℕ → List ℕ
trace_line moment line direction bytes = decimal moment
    ++ (number_word line ++ (mark_of direction ++ (hex_word bytes ++ what_of bytes)))
