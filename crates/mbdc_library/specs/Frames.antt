-- The link frames of bytes, as plain numbers (this product; the frames are those of EN 13757-2).
use Rattle.std.specs.Prelude.{ℕ, ◌+◌, ◌-◌, List, length, take, drop, Result, Ok, Err}
use Rattle.dc_linkframe.specs.declared.fault.FrameFault.{FrameFault}
use Rattle.dc_linkframe.specs.Fault.{number_of}
use Rattle.dc_linkframe.specs.Frame.{FrameSeen, ack, short, long}
use Rattle.mbdc_library.specs.declared.frames.PlainFrame.{PlainFrame}

-- the bytes from one place to another
abbrev pub between : List ℕ → ℕ → ℕ → List ℕ
between bytes at next = take (next - at) (drop at bytes)

-- a frame from one place to another; the body of a long one comes after seven bytes
abbrev pub plain_frame : ℕ → ℕ → FrameSeen → PlainFrame
plain_frame at next ack =
    record { kind = 1; control = 0; address = 0; ci = 0; body_at = 0; body_size = 0; next = next }
plain_frame at next (short control address) =
    record { kind = 2; control = control; address = address; ci = 0; body_at = 0; body_size = 0; next = next }
plain_frame at next (long control address ci body) =
    record { kind = 3; control = control; address = address; ci = ci; body_at = at + 7; body_size = length body; next = next }

abbrev pub plain_read : ℕ → ℕ → Result FrameSeen FrameFault → PlainFrame
plain_read at next (Ok frame) = plain_frame at next frame
plain_read at next (Err fault) =
    record { kind = 0; control = 0; address = 0; ci = 0; body_at = 0; body_size = 0; next = next }

abbrev pub frame_result : Result FrameSeen FrameFault → ℕ
frame_result (Ok frame) = 0
frame_result (Err fault) = 16 + number_of fault
