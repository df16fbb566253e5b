-- What an answer says that the register doesn't take (this product; the frames of EN 13757-2, the bodies of EN 13757-3).
use Rattle.std.specs.Prelude.{ℕ, ◌==◌, ◌&&◌, if◌then◌else◌, List, Option, None, Some, is_ok}
use Rattle.dc_linkframe.specs.Control.{variable_data}
use Rattle.dc_linkframe.specs.Frame.{FrameSeen, ack, short, long}
use Rattle.dc_linkframe.specs.Reading.{frame_of}
use Rattle.mbdc_reading.specs.Content.{Content, content_of}
use Rattle.dc_records.specs.Telegram.{telegram_at}

-- a telegram of variable data with a long header is taken
unfoldable pub untaken_body : ℕ → List ℕ → Option Content
untaken_body ci body =
    if (ci == variable_data) && is_ok (telegram_at body) then None else content_of ci body

abbrev pub untaken_in : Option FrameSeen → Option Content
untaken_in None = None
untaken_in (Some ack) = None
untaken_in (Some (short control address)) = None
untaken_in (Some (long control address ci body)) = untaken_body ci body

-- WHAT AN ANSWER SAYS where its frame is no telegram that the register takes; nothing of what has no known structure.
abbrev pub untaken : List ℕ → Option Content
untaken answer = untaken_in (frame_of answer)
