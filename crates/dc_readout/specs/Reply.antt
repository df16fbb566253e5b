-- The bytes of the answer to a request.
use Rattle.std.specs.Prelude.{ℕ, List, [], Option, Some, None}
use Rattle.dc_linkframe.specs.Frame.{FrameSeen, ack, spelling}
use Rattle.dc_readout.specs.declared.world.reply.Reply.{Reply}
use Rattle.dc_readout.specs.declared.world.reply.Reply.TheVariants.{Silence, Noise, Acknowledged, Telegram}
use Rattle.dc_readout.specs.World.{noise}

abbrev pub bytes_heard : Reply → List ℕ
bytes_heard Silence = []
bytes_heard Noise = noise
bytes_heard Acknowledged = spelling ack
bytes_heard (Telegram frame) = frame

-- the bytes of a frame, or silence
abbrev pub bytes_of : Option FrameSeen → List ℕ
bytes_of None = []
bytes_of (Some frame) = spelling frame
