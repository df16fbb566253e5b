-- A meter on a line, and how it takes the frames that are sent on it (EN 13757-2, EN 13757-3).
use Rattle.std.specs.Prelude.{◌≡◌, ℕ, ◌-◌, ◌^◌, true, List, length, IsTrue}
use Rattle.dc_linkframe.specs.Frame.{FrameSeen, ack, short, long}
use Rattle.dc_address.specs.Mask.{are_sent}
use Rattle.dc_readout.specs.Meter.{Meter, Position, is_selection, moved_by, answer_to}
use Rattle.dc_readout.specs.Regular.{Fits}
use Rattle.dc_readout.specs.Reply.{bytes_of}

-- a meter and its position
pub record Standing : Type 0 where
  pub meter : Meter
  pub position : Position

-- the last place that is counted
abbrev pub last_place : ℕ
last_place = 2 ^ 64 - 1

-- eight bytes by which a mask is sent
abbrev pub SendsMask : List ℕ → Type 0
SendsMask body = (length body ≡ 8) × IsTrue (are_sent body)

-- a selection addresses meters by a wildcard secondary address; other bodies of a selection aren't
-- defined
abbrev pub SelectsByMask : FrameSeen → Type 0
SelectsByMask ack = Unit {0}
SelectsByMask (short control address) = Unit {0}
SelectsByMask (long control address ci body) =
    is_selection control address ci ≡ true → SendsMask body

-- The frame brought the meter from the old position to the new one, and this is what it sends,
-- provided each of its bodies fits a frame.
pub record Sees (frame : FrameSeen) (old new : Standing) (sent : List ℕ) : Type 0 where
  pub moves : new.position ≡ moved_by frame old.meter old.position
  pub sends : Fits old.meter.bodies → sent ≡ bytes_of (answer_to frame old.meter new.position)
