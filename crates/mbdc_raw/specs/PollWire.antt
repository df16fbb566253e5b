-- What a wire over a reader and a writer does to both, and how long it waits (this product).
use Rattle.std.specs.Prelude.{◌≡◌, ℕ, ◌+◌, ◌-◌, ◌*◌, ◌/◌, ◌^◌, ◌≤◌, ◌<◌, min, max, Bool, true, false, not, List, [], ◌∷◌}
use Rattle.std.specs.Prelude.{Option, ◌&&◌, ◌==◌, nat_lt, Some, None, is_some, length, if◌then◌else◌}
use Rattle.std.specs.List.{Contains}
use Rattle.std.specs.Io.KnownBytes.{Appends}
use Rattle.std.specs.Time.{instant_nanos}
use Rattle.std.specs.declared.time.Instant.{Instant}
use Rattle.dc_linkframe.specs.Reading.{frame_of}
use Rattle.mbdc_raw.specs.Noise.{IsPast}
use Rattle.mbdc_raw.specs.Pace.{awaits_ack, pace_begun, pace_with, patience_after, pause_of, repeat_wait, reset_wait}
use Rattle.mbdc_raw.specs.Pace.{window_of}
use Rattle.mbdc_raw.specs.Turn.{is_reset, wants_ack}
use Rattle.mbdc_raw.specs.Wire.{Sound, piece, nothing, gap, overdue, silence}
use Rattle.mbdc_raw.specs.declared.logged_clock.LoggedClock.{LoggedClock}
use Rattle.mbdc_raw.specs.declared.pace.Pace.{Pace}
use Rattle.mbdc_raw.specs.declared.poll_wire.PollWire.{PollWire}
use Rattle.mbdc_raw.specs.declared.poll_wire.Until.{Until}
use Rattle.mbdc_raw.specs.declared.poll_wire.Until.TheVariants.{Still, Over, Paused}
use Rattle.mbdc_raw.specs.declared.wire.Asking.{Asking}

-- ---- the clock

-- the moments that the clock of a wire told, the newest first
abbrev pub told : {R W C : Type 0} → PollWire R W C → List Instant
told wire = wire.clock.log.told

-- THE CLOCK IS READ once after these bytes were written, and tells this moment
abbrev pub tells_after : {C : Type 0} → List ℕ → Instant → LoggedClock C → LoggedClock C
tells_after bytes at clock = record clock {
  log = record clock.log { told = at ∷ clock.log.told; written = bytes ∷ clock.log.written };
}

-- it is read, and nothing was written
abbrev pub tells : {C : Type 0} → Instant → LoggedClock C → LoggedClock C
tells at clock = tells_after [] at clock

-- THE CLOCK TOLD each moment from which a wire measures
pub record IsTold {R W C : Type 0} (wire : PollWire R W C) : Type 0 where
  pub asked : Contains (told wire) wire.asked
  pub since : Contains (told wire) wire.since
  pub at : Contains (told wire) wire.at
  pub held : Contains (told wire) wire.held

-- the microseconds between two moments; their number saturates
abbrev pub micros : Instant → Instant → ℕ
micros since at = min ((instant_nanos at - instant_nanos since) / 1_000) (2 ^ 64 - 1)

-- so many microseconds lie between two moments
abbrev pub HasPassed : ℕ → Instant → Instant → Type 0
HasPassed micros since at = micros * 1_000 ≤ instant_nanos at - instant_nanos since

-- THE TIME-OUT IS OVER: since the request or the last byte; since the request whatever came; or since the request, and
-- nothing came for a pause
abbrev pub IsOver : {R W C : Type 0} → Until → PollWire R W C → Instant → Type 0
IsOver Still wire at = HasPassed wire.limit wire.since at
IsOver Over wire at = HasPassed wire.limit wire.asked at
IsOver Paused wire at = HasPassed wire.limit wire.asked at
    × (wire.begun ≡ true → HasPassed (pause_of wire.pace.byte) wire.since at)

abbrev pub Ends : {R W C : Type 0} → PollWire R W C → Instant → Type 0
Ends wire at = IsOver wire.until wire at

-- ---- a request

-- when silence comes after a request: after the reset of all selected meters in a fixed time, once the delay of an
-- acknowledgement is known; after one that several meters may answer at the end of their window; else after the patience
abbrev pub until_by : Bool → Bool → Until
until_by true many = Over
until_by false true = Paused
until_by false false = Still

abbrev pub limit_by : Bool → Bool → Bool → Pace → ℕ → ℕ
limit_by true many acks pace patience =
    reset_wait pace.delay pace.last pace.byte pace.least_byte patience
limit_by false true true pace patience = window_of pace patience
limit_by false true false pace patience = patience
limit_by false false acks pace patience = patience

-- THE ANSWER IS OVERDUE where one meter may acknowledge the request, nothing was late on the line, and it was repeated
-- less than twice; so the third time it waits for the patience
abbrev pub most_repeats : ℕ
most_repeats = 2

abbrev pub soon_by : Asking → Pace → ℕ → Option ℕ
soon_by asking pace patience =
    if not asking.many && (asking.late == 0 && (nat_lt asking.repeats most_repeats && pace.acks))
    then repeat_wait pace.delay patience else None

-- The bytes were written, and nothing was read. The clock is read once after that, and the wire waits from the moment
-- that it tells. The patience is that of so many late bytes. An early repeat has its time from the first request on: an
-- acknowledgement may be that of any of them.
pub record WireSends {R W C : Type 0} (contents : W → Option (List ℕ)) (old : PollWire R W C)
    (bytes : List ℕ) (asking : Asking) (new : PollWire R W C) : Type 0 where
  pub written : Appends (contents old.writer) (contents new.writer) bytes
  pub reader : new.reader ≡ old.reader
  pub stated : new.stated ≡ old.stated
  pub patience : new.patience ≡ patience_after asking.late old.stated
  pub clock : new.clock ≡ tells_after bytes new.since old.clock
  pub at : new.at ≡ old.at
  pub held : new.held ≡ old.held
  pub since : asking.repeats ≡ 0 → new.since ≡ new.asked
  pub asked : 0 < asking.repeats → new.asked ≡ old.asked
  pub soon : new.soon ≡ soon_by asking new.pace new.patience
  pub begun : new.begun ≡ false
  pub ahead : new.ahead ≡ old.ahead
  pub pace : new.pace ≡ pace_begun bytes asking.late old.pace
  pub awaits : new.pace.acks ≡ awaits_ack (frame_of bytes)
  pub came : new.came ≡ old.came
  pub asks : new.asks ≡ true
  pub waited : new.waited ≡ old.waited
  pub until : new.until ≡ until_by (is_reset (frame_of bytes) && is_some new.pace.delay) asking.many
  pub limit : new.limit ≡ limit_by (is_reset (frame_of bytes)) asking.many
      (wants_ack (frame_of bytes)) new.pace new.patience

-- ---- what comes

abbrev pub limit_then : Until → ℕ → ℕ → ℕ → ℕ
limit_then Still limit patience window = patience
limit_then Over limit patience window = limit
limit_then Paused limit patience window = window

-- Bytes came: the time-out of a patience begins anew, and the window of several meters is known
-- better.
pub record IsHeard {R W C : Type 0} (old : PollWire R W C) (bytes : List ℕ) (new : PollWire R W C) : Type 0 where
  pub reader : new.reader ≡ old.reader
  pub writer : new.writer ≡ old.writer
  pub stated : new.stated ≡ old.stated
  pub patience : new.patience ≡ old.patience
  pub asked : new.asked ≡ old.asked
  pub clock : new.clock ≡ old.clock
  pub at : new.at ≡ old.at
  pub held : new.held ≡ old.held
  pub since : new.since ≡ old.at
  pub begun : new.begun ≡ true
  pub soon : new.soon ≡ None
  pub ahead : new.ahead ≡ old.ahead
  pub pace : new.pace ≡ pace_with (micros old.asked old.at) bytes old.pace
  pub awaits : new.pace.acks ≡ false
  pub came : new.came ≡ true
  pub asks : new.asks ≡ old.asks
  pub waited : new.waited ≡ old.waited
  pub until : new.until ≡ old.until
  pub limit : new.limit ≡ limit_then old.until old.limit old.patience
      (window_of new.pace old.patience)

-- how long bytes have come since the last request or silence, where some do now: a pause counts as the patience at most;
-- it saturates
abbrev pub noise_then : {R W C : Type 0} → PollWire R W C → ℕ
noise_then wire = min (wire.noise + min (micros wire.since wire.at) wire.patience) (2 ^ 64 - 1)

-- BYTES KEEP COMING: for more than 15 s, and than ten patiences
abbrev pub most_noise : ℕ → ℕ
most_noise patience = max (min (patience * 10) (2 ^ 64 - 1)) 15_000_000

abbrev pub IsLoud : {R W C : Type 0} → PollWire R W C → Type 0
IsLoud wire = most_noise wire.patience < noise_then wire

-- how long requests have waited that met silence, where the last one does now; it saturates
abbrev pub waited_then : {R W C : Type 0} → PollWire R W C → ℕ
waited_then wire = if wire.asks then min (wire.waited + wire.limit) (2 ^ 64 - 1) else wire.waited

-- NOBODY ANSWERS: no byte has come, and requests have waited for 120 s
abbrev pub most_waited : ℕ
most_waited = 120_000_000

pub record IsUnanswered {R W C : Type 0} (wire : PollWire R W C) (at : Instant) : Type 0 where
  pub silent : wire.came ≡ false
  pub over : Ends wire at
  pub long : most_waited ≤ waited_then wire

-- so it is at a moment that the clock tells: the line is given up
pub record IsDeserted {R W C : Type 0} (old new : PollWire R W C) : Type 0 where
  pub clock : new.clock ≡ tells new.at old.clock
  pub unanswered : IsUnanswered old new.at

-- silence is due; it waits for the end of bytes that are held back
pub record IsSilent {R W C : Type 0} (wire : PollWire R W C) : Type 0 where
  pub free : wire.ahead ≡ []
  pub over : Ends wire wire.at

-- the gap that ends an answer, in microseconds
abbrev pub gap_micros : ℕ
gap_micros = 500_000

-- a gap is due: bytes came, and then none for as long as ends an answer
pub record IsGap {R W C : Type 0} (wire : PollWire R W C) : Type 0 where
  pub begun : wire.begun ≡ true
  pub until : wire.until ≡ Still
  pub over : HasPassed gap_micros wire.since wire.at

-- an answer is overdue
pub record IsLate {R W C : Type 0} (wire : PollWire R W C) : Type 0 where
  pub wait : ℕ
  pub is : wire.soon ≡ Some wait
  pub free : wire.ahead ≡ []
  pub over : wait ≤ micros wire.since wire.at

-- Nothing came: silence is returned once the time-out is over, and then the patience begins anew. Where silence isn't
-- due, a gap is returned once, and then that the answer is overdue, which is awaited no more.
pub data IsStill {R W C : Type 0} (old : PollWire R W C) : Sound → PollWire R W C → Type 0 where
  not_yet : {new : PollWire R W C} → ¬ IsSilent old → ¬ IsGap old → ¬ IsLate old
      → new ≡ record old { waits = new.waits } → IsStill old nothing new
  at_gap : {new : PollWire R W C} → ¬ IsSilent old → IsGap old
      → new ≡ record old { waits = new.waits; begun = false } → IsStill old gap new
  when_late : {new : PollWire R W C} → ¬ IsSilent old → ¬ IsGap old → IsLate old
      → new ≡ record old {
        waits = new.waits;
        soon = None;
        pace = record old.pace { acks = false };
      }
      → IsStill old overdue new
  at_silence : {new : PollWire R W C} → Ends old old.at
      → new ≡ record old {
        since = old.at;
        begun = false;
        soon = None;
        asks = false;
        waited = waited_then old;
        noise = 0;
        until = Still;
        limit = old.patience;
      }
      → IsStill old silence new

-- noise is taken, too, where an answer has begun, and where several meters may answer: their answers may collide
abbrev pub takes_all_until : Until → (begun : Bool) → Bool
takes_all_until Still begun = begun
takes_all_until Over begun = begun
takes_all_until Paused begun = true

abbrev pub takes_all : {R W C : Type 0} → PollWire R W C → Bool
takes_all wire = takes_all_until wire.until wire.begun

-- Bytes that may begin an answer are held back from now on. Those that were before are dropped once it didn't for as
-- long as a gap.
pub data Holds {R W C : Type 0} (is_new : Bool) (old : PollWire R W C) : PollWire R W C → Type 0 where
  begins : {new : PollWire R W C} → is_new ≡ true → new ≡ record old { held = old.at } → Holds is_new old new
  goes_on : {new : PollWire R W C} → is_new ≡ false → ¬ HasPassed gap_micros old.held old.at → new ≡ old
      → Holds is_new old new
  ends : {new : PollWire R W C} → is_new ≡ false → HasPassed gap_micros old.held old.at
      → new ≡ record old { ahead = [] } → Holds is_new old new

-- the wire once its reader was asked, and then its clock
abbrev pub looked : {R W C : Type 0} → PollWire R W C → R → List ℕ → Instant → PollWire R W C
looked wire reader ahead at =
    record wire { reader = reader; clock = tells at wire.clock; ahead = ahead; at = at }

-- ONE LOOK: these bytes were read after noise, nothing was written, and the clock was read once. The time of noise
-- isn't taken.
pub data WireHears {R W C : Type 0} (remaining : R → Option (List ℕ)) (old : PollWire R W C)
    : Sound → PollWire R W C → Type 0 where
  bytes_came : {bytes : List ℕ} {new : PollWire R W C} (reader : R) (ahead : List ℕ) (at : Instant)
      → IsPast old.pace.acks (takes_all old) old.ahead ahead (remaining old.reader) (remaining reader) bytes
      → IsHeard (looked old reader ahead at) bytes new → WireHears remaining old (piece bytes) new
  none_came : {sound : Sound} {new : PollWire R W C} (reader : R) (ahead : List ℕ) (at : Instant)
      (held : PollWire R W C)
      → IsPast old.pace.acks (takes_all old) old.ahead ahead (remaining old.reader) (remaining reader) []
      → Holds (length old.ahead == 0) (looked old reader ahead at) held
      → IsStill held sound new → WireHears remaining old sound new

-- A wire that is open again measures from the moment that its clock tells; where that fails, from the one before.
pub data Restarts {R W C : Type 0} (old new : PollWire R W C) : Type 0 where
  from_now : new.clock ≡ tells new.since old.clock → Restarts old new
  as_before : new.clock ≡ old.clock → new.since ≡ old.since → Restarts old new

-- The link is open again, and nothing came on it; or it hadn't closed, or can't be opened.
pub data WireReopens {R W C : Type 0} (old : PollWire R W C) : Bool → PollWire R W C → Type 0 where
  is_open : {new : PollWire R W C} → Restarts old new → new ≡ record old {
    writer = new.writer;
    clock = new.clock;
    since = new.since;
    begun = false;
    soon = None;
    ahead = [];
    asks = false;
    noise = 0;
    until = Still;
    limit = old.patience;
  }
      → WireReopens old true new
  is_as_before : {new : PollWire R W C} → new ≡ record old { writer = new.writer }
      → WireReopens old false new
