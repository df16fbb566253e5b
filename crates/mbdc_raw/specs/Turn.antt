-- When a request may go out on a line, and what answers it (this product; the frames of EN 13757-2).
use Rattle.std.specs.Prelude.{ℕ, ◌+◌, ◌-◌, ◌^◌, min, Bool, true, false, not, ◌&&◌, ◌||◌, ◌==◌, List}
use Rattle.std.specs.Prelude.{Option, Some, None, bytes_eq, length, if◌then◌else◌}
use Rattle.dc_linkframe.specs.Control.{selected, snd_nke, snd_ud}
use Rattle.dc_linkframe.specs.Frame.{FrameSeen, ack, short, long}
use Rattle.dc_linkframe.specs.Reading.{frame_of}
use Rattle.mbdc_raw.specs.Wire.{Sound, piece, nothing, gap, overdue, silence}
use Rattle.mbdc_raw.specs.declared.state.State.{State}
use Rattle.mbdc_raw.specs.declared.state.State.TheVariants.{Quiet, Listened, Answered, Overdue, Busy}
use Rattle.mbdc_raw.specs.declared.state.Kind.{Kind}
use Rattle.mbdc_raw.specs.declared.state.Kind.TheVariants.{One, All, Nobody}

-- ---- one request under way

-- the reset of all selected meters: nobody needs to know who answers it
abbrev pub is_reset : Option FrameSeen → Bool
is_reset None = false
is_reset (Some ack) = false
is_reset (Some (short control address)) = control == snd_nke && address == selected
is_reset (Some (long control address ci body)) = false

-- SND_NKE and SND_UD are acknowledged
abbrev pub wants_ack : Option FrameSeen → Bool
wants_ack None = false
wants_ack (Some ack) = false
wants_ack (Some (short control address)) = control == snd_nke
wants_ack (Some (long control address ci body)) = control == snd_ud

-- no acknowledgement of a repeated request can be taken for one of this request
abbrev pub is_apart : ℕ → List ℕ → Bool
is_apart repeats request = repeats == 0 || not (wants_ack (frame_of request))

-- A REQUEST MAY GO OUT on a quiet line; after a window, if several meters may answer it; after an answer, if it differs
-- from the request that was answered; while an acknowledgement is overdue, if it repeats the request; and while
-- something may be under way, if that was asked before the line was connected, and the request is the reset of all
-- selected meters, after which all is dropped. After an early repeat a request that is acknowledged waits for a quiet line.
abbrev pub may_go : State → ℕ → List ℕ → List ℕ → Bool → Bool
may_go Quiet repeats last request many = true
may_go Listened repeats last request many = many && is_apart repeats request
may_go Answered repeats last request many = not (bytes_eq last request) && is_apart repeats request
may_go Overdue repeats last request many = not many && (bytes_eq last request && wants_ack (frame_of request))
may_go Busy repeats last request many = length last == 0 && is_reset (frame_of request)

-- a byte where nothing could be under way makes the line busy, and silence makes it quiet
abbrev pub state_by : Sound → State → State
state_by (piece bytes) state = Busy
state_by nothing state = state
state_by gap state = state
state_by overdue state = state
state_by silence state = Quiet

-- the saturating count of times that bytes came late
abbrev pub one_more : ℕ → ℕ
one_more count = min (count + 1) (2 ^ 64 - 1)

-- bytes are late after the silence that met a request, and after a window; a request that was answered has nothing late
abbrev pub late_at : State → ℕ → ℕ
late_at Quiet late = one_more late
late_at Listened late = one_more late
late_at Answered late = late
late_at Overdue late = late
late_at Busy late = late

abbrev pub late_by : Sound → State → ℕ → ℕ
late_by (piece bytes) state late = late_at state late
late_by nothing state late = late
late_by gap state late = late
late_by overdue state late = late
late_by silence state late = late

-- ---- what answers a request

-- AN ANSWER is a whole frame of the request's kind: an acknowledgement, or a long frame
abbrev pub is_answer : Option FrameSeen → Option FrameSeen → Bool
is_answer request None = false
is_answer request (Some ack) = wants_ack request
is_answer request (Some (short control address)) = false
is_answer request (Some (long control address ci body)) = not (wants_ack request)

-- a whole frame of another kind
abbrev pub is_wrong : Option FrameSeen → Option FrameSeen → Bool
is_wrong request None = false
is_wrong request (Some ack) = not (wants_ack request)
is_wrong request (Some (short control address)) = true
is_wrong request (Some (long control address ci body)) = wants_ack request

-- the same bytes again
abbrev pub is_copy : Option (List ℕ) → List ℕ → Bool
is_copy None answer = false
is_copy (Some last) answer = bytes_eq last answer

abbrev pub kind_of : Option FrameSeen → Bool → Kind
kind_of request many = if is_reset request then Nobody else if many then All else One

-- the state after what was taken as the answer: nothing came so far, or for the whole time-out; the request has its
-- answer, and no copy came before it; or else
abbrev pub state_taken : (early none is copied : Bool) → State
state_taken early true is copied = if early then Overdue else Quiet
state_taken early false true false = Answered
state_taken early false true true = Busy
state_taken early false false copied = Busy

-- the number of early repeats of an acknowledged request, of which acknowledgements may be under way
abbrev pub repeats_out : State → ℕ → ℕ
repeats_out Quiet repeats = 0
repeats_out Listened repeats = repeats
repeats_out Answered repeats = repeats
repeats_out Overdue repeats = min (repeats + 1) 255
repeats_out Busy repeats = repeats

-- of them those of the request that goes out
abbrev pub repeats_of : State → ℕ → ℕ
repeats_of Quiet repeats = 0
repeats_of Listened repeats = 0
repeats_of Answered repeats = 0
repeats_of Overdue repeats = min (repeats + 1) 255
repeats_of Busy repeats = 0

-- on a quiet line no copy is under way; that of a telegram may come later than the patience allows
abbrev pub is_ack : Option FrameSeen → Bool
is_ack None = false
is_ack (Some ack) = true
is_ack (Some (short control address)) = false
is_ack (Some (long control address ci body)) = false

abbrev pub telegram_in : Option (List ℕ) → Option (List ℕ)
telegram_in None = None
telegram_in (Some answer) = if is_ack (frame_of answer) then None else Some answer

abbrev pub last_behind : State → Option (List ℕ) → Option (List ℕ)
last_behind Quiet last = telegram_in last
last_behind Listened last = None
last_behind Answered last = last
last_behind Overdue last = last
last_behind Busy last = last

-- a request that waits, and repeats the one that was answered, may have the same answer again once the
-- line is quiet
abbrev pub unless_quiet : State → Option (List ℕ) → Option (List ℕ)
unless_quiet Quiet last = None
unless_quiet Listened last = last
unless_quiet Answered last = last
unless_quiet Overdue last = last
unless_quiet Busy last = last

abbrev pub last_waited : Bool → State → State → Option (List ℕ) → Option (List ℕ)
last_waited false before after last = last
last_waited true Quiet after last = last
last_waited true Listened after last = last
last_waited true Answered after last = unless_quiet after last
last_waited true Overdue after last = last
last_waited true Busy after last = last

-- a line on which silence came is in the next state
abbrev pub quiet_by : Bool → State → State → State
quiet_by true next state = next
quiet_by false next state = state
