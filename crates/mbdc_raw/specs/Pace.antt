-- How long a line is listened to (EN 13757-2: a meter begins its answer within 330 bits and 50 ms), in microseconds.
use Rattle.std.specs.Prelude.{◌≡◌, ℕ, ◌+◌, ◌-◌, ◌*◌, ◌/◌, ◌^◌, ◌≤◌, min, max, nat_le, nat_lt, Bool}
use Rattle.std.specs.Prelude.{not, ◌==◌, ◌&&◌, ◌||◌, List, [], ◌∷◌, length, Option, Some, None, is_some, if◌then◌else◌}
use Rattle.std.specs.Prelude.{true, false}
use Rattle.dc_linkframe.specs.Frame.{FrameSeen}
use Rattle.dc_linkframe.specs.Reading.{frame_of}
use Rattle.mbdc_raw.specs.Turn.{is_reset, wants_ack}
use Rattle.mbdc_raw.specs.declared.pace.Pace.{Pace}

-- 330 bits are 30 bytes of 11 bits
abbrev pub answering_bytes : ℕ
answering_bytes = 30

abbrev pub answering_rest : ℕ
answering_rest = 50_000

-- counts saturate here
abbrev pub most_count : ℕ
most_count = 2 ^ 64 - 1

-- a meter begins its answer within this time, where a byte takes so long
abbrev pub answering : ℕ → ℕ
answering byte = min (min (byte * answering_bytes) most_count + answering_rest) most_count

abbrev pub or_none : Option ℕ → ℕ
or_none None = 0
or_none (Some time) = time

abbrev pub or_most : Option ℕ → ℕ
or_most None = most_count
or_most (Some time) = time

-- a selection has so many bytes more than the reset, a short frame
abbrev pub longer : ℕ
longer = 12

-- the acknowledgement of a short request comes so much sooner than that of a selection
abbrev pub sooner : Option ℕ → ℕ → ℕ
sooner least_byte spent = spent - min (or_none least_byte * longer) most_count

-- THE RESET OF ALL SELECTED METERS takes, from its end, the longest delay of an acknowledgement and
-- 50 ms; at most as long as a meter may take, and the last delay; at most the patience
abbrev pub reset_wait : Option ℕ → ℕ → Option ℕ → Option ℕ → ℕ → ℕ
reset_wait None last byte least_byte patience = patience
reset_wait (Some delay) last None least_byte patience =
    min patience (min (sooner least_byte delay + answering_rest) most_count)
reset_wait (Some delay) last (Some byte) least_byte patience =
    min (min patience (min (sooner least_byte delay + answering_rest) most_count))
    (min (answering byte + sooner least_byte last) most_count)

-- THE REPEAT of a request that is acknowledged waits 1 s, or 50 ms longer than the slowest acknowledgement took; where
-- none came yet, and where that isn't less than the patience, it waits for that
abbrev pub least_wait : ℕ
least_wait = 1_000_000

abbrev pub less_than : ℕ → ℕ → Option ℕ
less_than patience wait = if nat_lt wait patience then Some wait else None

abbrev pub repeat_wait : Option ℕ → ℕ → Option ℕ
repeat_wait None patience = None
repeat_wait (Some delay) patience =
    less_than patience (max least_wait (min (delay + answering_rest) most_count))

-- number of bytes in the time from a selection to its acknowledgement, at least: its own, one that a meter waits for,
-- and the acknowledgement
abbrev pub acknowledging : ℕ
acknowledging = 19

-- the soonest acknowledgement shows how long a byte takes at most, where nothing was late
abbrev pub shown_by : (late : Bool) → Option ℕ → Option ℕ
shown_by true soonest = None
shown_by false soonest = soonest

abbrev pub most_byte : (shown byte : Option ℕ) → ℕ
most_byte shown byte = min (or_most byte) (or_most shown / acknowledging)

-- the acknowledgement of a meter that waits no time comes this late: as the soonest one, and the longest pause within a
-- telegram
abbrev pub slowest_of : (soonest pause : Option ℕ) → ℕ
slowest_of soonest pause = min (or_none soonest + or_none pause) most_count

-- as the slowest one, too, before the first telegram, and where something was late; where the slowest one was slower than
-- that and a meter's wait explain, so much later than the slowest as that was than the soonest
abbrev pub reach_of : (shown soonest pause : Option ℕ) → (byte delay : ℕ) → ℕ
reach_of shown soonest pause byte delay =
    if not (is_some shown) || not (is_some pause) then max (slowest_of soonest pause) delay
    else if nat_le delay (min (slowest_of soonest pause + answering byte) most_count) then slowest_of soonest pause
    else min (delay + (delay - or_none soonest)) most_count

-- THE WINDOW in which one of several meters may begin its answer: as long as a meter waits, and its acknowledgement
-- takes otherwise; 50 ms longer than the slowest one took, at least; the patience at most, and before the first
abbrev pub window_by : (shown : Option ℕ) → Option ℕ → Pace → ℕ → ℕ
window_by shown None pace patience = patience
window_by shown (Some delay) pace patience = min patience
    (max (min (answering (most_byte shown pace.byte)
    + reach_of shown pace.soonest pace.longest_pause (most_byte shown pace.byte) delay) most_count)
    (min (delay + answering_rest) most_count))

abbrev pub window_of : Pace → ℕ → ℕ
window_of pace patience = window_by (shown_by pace.late pace.soonest) pace.delay pace patience

-- how long nothing comes after the last of several answers: 120 ms, or four bytes' time where that
-- is longer
abbrev pub pause_of : Option ℕ → ℕ
pause_of None = 120_000
pause_of (Some byte) = max 120_000 (min (byte * 4) most_count)

-- THE PATIENCE after so many times at which bytes came late: each doubles it, to 16 s
abbrev pub longest_patience : ℕ
longest_patience = 16_000_000

abbrev pub most_doublings : ℕ
most_doublings = 14

abbrev pub patience_after : ℕ → ℕ → ℕ
patience_after late patience =
    max patience (min longest_patience (patience * 2 ^ min late most_doublings))

-- ---- what is learned of the line

-- number of bytes of a short frame, and the byte that begins one
abbrev pub short_frame : ℕ
short_frame = 5

abbrev pub short_start : ℕ
short_start = 0x10

-- the byte of an acknowledgement
abbrev pub acknowledged : ℕ
acknowledged = 0xE5

-- number of bytes of the shortest answer that shows how long a byte takes
abbrev pub showing : ℕ
showing = 16

abbrev pub begins_as : ℕ → List ℕ → Bool
begins_as start [] = false
begins_as start (byte ∷ bytes) = byte == start

-- an answer is measured if the request was a short frame, and it doesn't begin as one: a line that
-- echoes isn't measured
abbrev pub is_measured : List ℕ → Pace → Bool
is_measured bytes pace = pace.measured && not (pace.came == 0 && begins_as short_start bytes)

-- an acknowledgement that was due shows its delay
abbrev pub soonest_with : (selects : Bool) → ℕ → Option ℕ → Option ℕ
soonest_with true spent soonest = Some (min (or_most soonest) spent)
soonest_with false spent soonest = soonest

abbrev pub delay_with : ℕ → List ℕ → Pace → Pace
delay_with spent bytes pace = if pace.acks && begins_as acknowledged bytes
    then record pace {
      delay = Some (max (or_none pace.delay) spent);
      soonest = soonest_with pace.selects spent pace.soonest;
      last = spent;
      acks = false;
    }
    else record pace { acks = false }

-- the longest pause between the pieces of an answer
abbrev pub paused_with : ℕ → Pace → ℕ
paused_with spent pace = if pace.came == 0 then pace.paused else max pace.paused (spent - pace.spent)

-- a byte of the short request or of the answer took at most this long
abbrev pub came_with : ℕ → Pace → ℕ
came_with count pace = min (pace.came + count) most_count

abbrev pub each_took : ℕ → ℕ → ℕ
each_took spent came = spent / min (came + short_frame) most_count

abbrev pub bytes_with : ℕ → List ℕ → Pace → Pace
bytes_with spent bytes pace = if is_measured bytes pace
    then record pace {
      measured = true;
      came = came_with (length bytes) pace;
      spent = spent;
      paused = paused_with spent pace;
      least = min pace.least (each_took spent (came_with (length bytes) pace));
    }
    else record pace { measured = false; paused = paused_with spent pace }

-- THESE BYTES CAME this long after the request
abbrev pub pace_with : ℕ → List ℕ → Pace → Pace
pace_with spent bytes pace = bytes_with spent bytes (delay_with spent bytes pace)

-- how long a byte takes at most, by the answer that is over: one that is long enough shows it
abbrev pub byte_shown : Pace → Option ℕ
byte_shown pace = if nat_le showing pace.came
    then Some (min (or_most pace.byte) pace.least) else pace.byte

-- how long a byte takes at least, by a telegram that began as late as the slowest acknowledgement:
-- it came later than that, by its own bytes less those that a selection has more
abbrev pub least_by : Pace → Option ℕ → Option ℕ
least_by pace None = pace.least_byte
least_by pace (Some delay) = Some (min
    (min (or_most pace.least_byte) ((pace.spent - delay) / (pace.came - longer)))
    (or_most (byte_shown pace)))

abbrev pub least_shown : Pace → Option ℕ
least_shown pace = if nat_le showing pace.came then least_by pace pace.delay else pace.least_byte

abbrev pub pause_shown : Pace → Option ℕ
pause_shown pace = if nat_le showing pace.came
    then Some (max (or_none pace.longest_pause) pace.paused) else pace.longest_pause

-- an acknowledgement is awaited but of the reset of all selected meters
abbrev pub awaits_ack : Option FrameSeen → Bool
awaits_ack request = wants_ack request && not (is_reset request)

-- number of bytes of a selection
abbrev pub selection : ℕ
selection = 17

-- A REQUEST BEGINS, on a line on which bytes came late so often
abbrev pub pace_begun : List ℕ → ℕ → Pace → Pace
pace_begun request late pace = record pace {
  byte = byte_shown pace;
  least_byte = least_shown pace;
  longest_pause = pause_shown pace;
  acks = awaits_ack (frame_of request);
  late = nat_lt 0 late;
  selects = nat_le selection (length request);
  measured = length request == short_frame;
  came = 0;
  spent = 0;
  paused = 0;
  least = most_count;
}

-- ---- what a line needs

-- WHAT IS LEARNED FITS A LINE on which a byte takes this long, and the converter delays a request and its answer by at
-- least so much in all, in microseconds: a byte takes no longer than is known, nor does the delay
pub record Fits (byte delay : ℕ) (pace : Pace) : Type 0 where
  pub counts : delay + byte * acknowledging ≤ most_count
  pub most : byte ≤ or_most pace.byte
  pub each : byte ≤ pace.least
  pub soonest : delay + byte * acknowledging ≤ or_most pace.soonest
  pub selected : is_some pace.delay ≡ is_some pace.soonest

-- THESE BYTES COME NO SOONER than this line gives them, after a request: the acknowledgement is that of a selection, and
-- it has taken that one's bytes; the bytes of a short request and of its answer have taken their time
pub record ComesInTime (byte delay spent : ℕ) (bytes : List ℕ) (pace : Pace) : Type 0 where
  pub selected : pace.acks && begins_as acknowledged bytes ≡ true → pace.selects ≡ true
  pub acknowledged : pace.acks && begins_as acknowledged bytes ≡ true → delay + byte * acknowledging ≤ spent
  pub given : is_measured bytes pace ≡ true → byte * min (came_with (length bytes) pace + short_frame) most_count ≤ spent

-- the first byte of the answer comes this long after a selection of a meter that waits so long
abbrev pub answered_after : (byte delay wait : ℕ) → ℕ
answered_after byte delay wait = delay + byte * 18 + wait
