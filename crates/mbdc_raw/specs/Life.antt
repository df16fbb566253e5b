-- A life of a wire over a reader and a writer: what was heard on it, and how long requests waited in vain (this product).
use Rattle.std.specs.Prelude.{◌≡◌, ℕ, ◌+◌, List, [], ◌∷◌, Bool, Option, if◌then◌else◌}
use Rattle.std.specs.List.{All}
use Rattle.mbdc_raw.specs.Pace.{ComesInTime}
use Rattle.mbdc_raw.specs.PollWire.{WireHears, WireReopens, WireSends, micros}
use Rattle.mbdc_raw.specs.Wire.{AreHeard, IsAwaited, Sound, piece, nothing, gap, overdue, silence}
use Rattle.mbdc_raw.specs.declared.poll_wire.PollWire.{PollWire}
use Rattle.mbdc_raw.specs.declared.wire.Asking.{Asking}

-- how long a request waited that meets this sound: its whole time-out, by the clock, at silence
abbrev pub wait_of : {R W C : Type 0} → PollWire R W C → Sound → ℕ
wait_of wire (piece bytes) = 0
wait_of wire nothing = 0
wait_of wire gap = 0
wait_of wire overdue = 0
wait_of wire silence = if wire.asks then wire.limit else 0

-- THIS WAS HEARD on a wire, one after the other, between requests that went out, and they waited so
-- long in all
pub data Lives {R W C : Type 0} (contents : W → Option (List ℕ)) (remaining : R → Option (List ℕ))
    : PollWire R W C → List Sound → ℕ → PollWire R W C → Type 0 where
  rests : {old new : PollWire R W C} → new ≡ old → Lives contents remaining old [] 0 new
  sent : {old between new : PollWire R W C} {sounds : List Sound} {waited : ℕ} {bytes : List ℕ}
      {asking : Asking} → WireSends contents old bytes asking between
      → Lives contents remaining between sounds waited new
      → Lives contents remaining old sounds waited new
  opened : {old between new : PollWire R W C} {sounds : List Sound} {waited : ℕ} {again : Bool}
      → WireReopens old again between → Lives contents remaining between sounds waited new
      → Lives contents remaining old sounds waited new
  heard : {old between new : PollWire R W C} {sound : Sound} {sounds : List Sound} {waited : ℕ}
      → WireHears remaining old sound between → Lives contents remaining between sounds waited new
      → Lives contents remaining old (sound ∷ sounds) (wait_of old sound + waited) new

-- what came, came no sooner than a line gives it on which a byte takes this long, and the converter delays so much
abbrev pub IsGiven : {R W C : Type 0} → (byte delay : ℕ) → PollWire R W C → Sound → PollWire R W C → Type 0
IsGiven byte delay old (piece bytes) new = ComesInTime byte delay (micros old.asked new.at) bytes old.pace
IsGiven byte delay old nothing new = Unit {0}
IsGiven byte delay old gap new = Unit {0}
IsGiven byte delay old overdue new = Unit {0}
IsGiven byte delay old silence new = Unit {0}

-- so came all that was heard in a life
abbrev pub IsPaced : {R W C : Type 0} {contents : W → Option (List ℕ)} {remaining : R → Option (List ℕ)}
    {old new : PollWire R W C} {sounds : List Sound} {waited : ℕ} → (byte delay : ℕ)
    → Lives contents remaining old sounds waited new → Type 0
IsPaced byte delay (rests same) = Unit {0}
IsPaced byte delay (sent sends more) = IsPaced byte delay more
IsPaced byte delay (opened opens more) = IsPaced byte delay more
IsPaced byte delay (heard {old = old} {between = between} {sound = sound} hears more) =
    IsGiven byte delay old sound between × IsPaced byte delay more

-- A REQUEST MEETS SILENCE: it went out, no byte came at any number of looks, and then silence
pub record MeetsSilence {R W C : Type 0} (contents : W → Option (List ℕ)) (remaining : R → Option (List ℕ))
    (old : PollWire R W C) (bytes : List ℕ) (asking : Asking) (sent new : PollWire R W C) : Type 0 where
  pub sends : WireSends contents old bytes asking sent
  pub sounds : List Sound
  pub quiet : PollWire R W C
  pub awaited : All IsAwaited sounds
  pub heard : AreHeard (WireHears remaining) sent sounds quiet
  pub silent : WireHears remaining quiet silence new
