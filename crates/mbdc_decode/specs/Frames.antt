-- The frames of a line and their text (this product; the frames are those of EN 13757-2).
use Rattle.std.specs.Prelude.{ℕ, zero, suc, ◌==◌, ◌&&◌, ◌||◌, if◌then◌else◌, Bool, true, false}
use Rattle.std.specs.Prelude.{List, [], ◌∷◌, ◌++◌, codes, length, take, drop, flat_map, Option}
use Rattle.std.specs.Prelude.{Some, None, Result, Ok, Err, is_err}
use Rattle.dc_linkframe.specs.declared.fault.FrameFault.{FrameFault}
use Rattle.dc_linkframe.specs.declared.needs.Need.{Need}
use Rattle.dc_linkframe.specs.declared.needs.Need.TheVariants.{More, Whole, Bad}
use Rattle.dc_linkframe.specs.Fault as link
use Rattle.dc_linkframe.specs.Frame.{FrameSeen, ack, short, long}
use Rattle.dc_linkframe.specs.Need.{need_of}
use Rattle.dc_linkframe.specs.Reading.{fields_of}
use Rattle.dc_records.specs.declared.fault.BodyFault.{BodyFault}
use Rattle.dc_records.specs.Fault as records
use Rattle.dc_records.specs.Telegram.{Parsed, telegram_at}
use Rattle.mbdc_io.specs.Words.{number_word, byte_word, fault_line}
use Rattle.mbdc_decode.specs.Telegram.{telegram_text}

-- the length of the first text: that of a whole frame, or otherwise all bytes left
abbrev pub len_by : List ℕ → Need → ℕ
len_by bytes (Whole n) = n
len_by bytes (More n) = length bytes
len_by bytes Bad = length bytes

abbrev pub front_len : List ℕ → ℕ
front_len bytes = len_by bytes (need_of bytes)

-- Splits off one text after the other, this many times.
abbrev pub cut : ℕ → List ℕ → List (List ℕ)
cut zero bytes = []
cut (suc turns) [] = []
cut (suc turns) (b ∷ bytes) = take (front_len (b ∷ bytes)) (b ∷ bytes)
    ∷ cut turns (drop (front_len (b ∷ bytes)) (b ∷ bytes))

-- The texts that bytes split into. Each has at least one byte, so the number of bytes is enough
-- steps.
unfoldable pub frames_of : List ℕ → List (List ℕ)
frames_of bytes = cut (length bytes) bytes

abbrev pub read_by : Option FrameFault → FrameSeen → Result FrameSeen FrameFault
read_by None frame = Ok frame
read_by (Some f) frame = Err f

-- the fault of a text, or otherwise the frame that it spells
unfoldable pub read_as : List ℕ → Result FrameSeen FrameFault
read_as text = read_by (link.fault_of text) (fields_of text)

-- the body of a long frame that begins a variable data structure
abbrev pub body_text : Result Parsed BodyFault → List ℕ
body_text (Ok t) = telegram_text t
body_text (Err f) = fault_line (codes "BODY FAULT") (records.number_of f) (records.name_of f)

-- a body is printed for CI 72
unfoldable pub content_text : ℕ → List ℕ → List ℕ
content_text ci body = if ci == 0x72 then body_text (telegram_at body) else []

unfoldable pub is_bad_content : ℕ → List ℕ → Bool
is_bad_content ci body = (ci == 0x72) && is_err (telegram_at body)

unfoldable pub long_line : ℕ → ℕ → ℕ → List ℕ → List ℕ
long_line control address ci body =
    codes "LONG" ++ byte_word control ++ byte_word address ++ byte_word ci
    ++ number_word (length body) ++ codes "\n"

unfoldable pub short_line : ℕ → ℕ → List ℕ
short_line control address = codes "SHORT" ++ byte_word control ++ byte_word address ++ codes "\n"

abbrev pub frame_text : FrameSeen → List ℕ
frame_text ack = codes "ACK\n"
frame_text (short control address) = short_line control address
frame_text (long control address ci body) =
    long_line control address ci body ++ content_text ci body

abbrev pub is_bad_frame : FrameSeen → Bool
is_bad_frame ack = false
is_bad_frame (short control address) = false
is_bad_frame (long control address ci body) = is_bad_content ci body

-- the text printed for a frame, or for the fault of a text
abbrev pub read_text : Result FrameSeen FrameFault → List ℕ
read_text (Ok frame) = frame_text frame
read_text (Err f) = fault_line (codes "FRAME FAULT") (link.number_of f) (link.name_of f)

abbrev pub is_bad_read : Result FrameSeen FrameFault → Bool
is_bad_read (Ok frame) = is_bad_frame frame
is_bad_read (Err f) = true

unfoldable pub shown : List ℕ → List ℕ
shown text = read_text (read_as text)

unfoldable pub is_bad : List ℕ → Bool
is_bad text = is_bad_read (read_as text)

-- the text printed for several texts, and whether one has a fault
unfoldable pub all_shown : List (List ℕ) → List ℕ
all_shown texts = flat_map shown texts

unfoldable pub any_bad : List (List ℕ) → Bool
any_bad [] = false
any_bad (text ∷ texts) = is_bad text || any_bad texts
