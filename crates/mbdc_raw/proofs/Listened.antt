-- The window of several meters, in a life of a wire.
use Rattle.std.proofs.Common.{◌≡◌, ℕ, ◌+◌, ◌^◌, ◌≤◌, ◌<◌, min, Bool, true, false, ◌&&◌, List, Option, Some, None, is_some, refl, ap, subst, sym, ◌∙◌, arith}
use Rattle.std.proofs.lemmas.Bool.{false≢true}
use Rattle.std.specs.declared.time.Instant.{Instant}
use Rattle.dc_linkframe.specs.Reading.{frame_of}
use Rattle.mbdc_raw.proofs.Learned.{covers, fits_begun, fits_with}
use Rattle.mbdc_raw.proofs.Life.{held_as}
use Rattle.mbdc_raw.proofs.Told.{silent_by}
use Rattle.mbdc_raw.specs.Life.{IsGiven, IsPaced, Lives, heard, opened, rests, sent}
use Rattle.mbdc_raw.specs.Pace.{ComesInTime, Fits, answered_after, answering, or_none, reset_wait, window_of}
use Rattle.mbdc_raw.specs.PollWire.{HasPassed, IsOver, IsStill, WireHears, WireReopens, WireSends, at_gap, at_silence, bytes_came, is_as_before, is_open, limit_by, limit_then, looked, micros, none_came, not_yet, until_by, when_late}
use Rattle.mbdc_raw.specs.Turn.{is_reset, wants_ack}
use Rattle.mbdc_raw.specs.Wire.{Sound, silence}
use Rattle.mbdc_raw.specs.declared.pace.Pace.{Pace}
use Rattle.mbdc_raw.specs.declared.poll_wire.PollWire.{PollWire}
use Rattle.mbdc_raw.specs.declared.poll_wire.Until.{Until}
use Rattle.mbdc_raw.specs.declared.poll_wire.Until.TheVariants.{Still, Over, Paused}
use Rattle.mbdc_raw.specs.declared.wire.Asking.{Asking}

-- this limit is long enough, by what is known of the line
abbrev IsLong : (byte delay : ℕ) → Pace → (patience limit : ℕ) → Type 0
IsLong byte delay pace patience limit = (more wait : ℕ) → more ≤ or_none pace.longest_pause → wait ≤ answering byte → patience < 2 ^ 64 → min patience (answered_after byte (delay + more) wait) ≤ limit

patient : (byte delay : ℕ) (pace : Pace) (patience : ℕ) → IsLong byte delay pace patience patience
patient byte delay pace patience more wait pause_is wait_is few = omega arith

record Keeps {R W C : Type 0} (byte delay : ℕ) (wire : PollWire R W C) : Type 0 where
  pub fits : Fits byte delay wire.pace
  pub long : wire.until ≡ Paused → IsLong byte delay wire.pace wire.patience wire.limit

abbrev is_paused : Until → Bool
is_paused Still = false
is_paused Over = false
is_paused Paused = true

no_delay : (delay : Option ℕ) (last : ℕ) (byte least : Option ℕ) (patience : ℕ) → false ≡ is_some delay → reset_wait delay last byte least patience ≡ patience
no_delay None last byte least patience none = refl
no_delay (Some time) last byte least patience none = absurd (false≢true none)

module _ (byte delay : ℕ) (pace : Pace) (fits : Fits byte delay pace) (patience : ℕ) where
  limit_long : (resets many acks known : Bool) → known ≡ is_some pace.delay → until_by (resets && known) many ≡ Paused → IsLong byte delay pace patience (limit_by resets many acks pace patience)
  limit_long true many acks true same paused = absurd (false≢true (ap is_paused paused))
  limit_long true false acks false same paused = absurd (false≢true (ap is_paused paused))
  limit_long true true acks false same paused =
      subst (λ (n : ℕ). IsLong byte delay pace patience n) (sym (no_delay pace.delay pace.last pace.byte pace.least_byte patience same)) (patient byte delay pace patience)
  limit_long false true true known same paused = λ more wait pause_is wait_is few. covers byte delay more wait patience pace fits pause_is wait_is few
  limit_long false true false known same paused = patient byte delay pace patience
  limit_long false false acks known same paused = absurd (false≢true (ap is_paused paused))

module _ {R W C : Type 0} (contents : W → Option (List ℕ)) (remaining : R → Option (List ℕ)) (byte delay : ℕ) where
  still_keeps : (old : PollWire R W C) (sound : Sound) (new : PollWire R W C) → IsStill old sound new → Keeps byte delay old → Keeps byte delay new
  still_keeps old sound new (not_yet quiet still early same) is =
      subst (λ (w : PollWire R W C). Keeps byte delay w) (sym same) (record { fits = is.fits; long = is.long })
  still_keeps old sound new (at_gap quiet due same) is =
      subst (λ (w : PollWire R W C). Keeps byte delay w) (sym same) (record { fits = is.fits; long = is.long })
  still_keeps old sound new (when_late quiet still late same) is =
      subst (λ (w : PollWire R W C). Keeps byte delay w) (sym same) (record {
        fits = record { counts = is.fits.counts; most = is.fits.most; each = is.fits.each; soonest = is.fits.soonest; selected = is.fits.selected };
        long = is.long;
      })
  still_keeps old sound new (at_silence over same) is =
      subst (λ (w : PollWire R W C). Keeps byte delay w) (sym same) (record { fits = is.fits; long = λ paused. absurd (false≢true (ap is_paused paused)) })

  heard_keeps : (old : PollWire R W C) (sound : Sound) (new : PollWire R W C) → WireHears remaining old sound new → IsGiven byte delay old sound new → Keeps byte delay old → Keeps byte delay new
  heard_keeps old sound new (bytes_came {bytes = bytes} reader ahead at past kept) given is =
      let came = subst (λ (t : Instant). ComesInTime byte delay (micros old.asked t) bytes old.pace) kept.at given in
      let fits : Fits byte delay new.pace = subst (λ (p : Pace). Fits byte delay p) (sym kept.pace) (fits_with byte delay (micros old.asked at) bytes old.pace came is.fits) in
      record {
        fits = fits;
        long = λ paused more wait pause_is wait_is few.
            let limit_is : new.limit ≡ window_of new.pace old.patience = kept.limit ∙ ap (λ (u : Until). limit_then u old.limit old.patience (window_of new.pace old.patience)) (sym kept.until ∙ paused) in
            omega (arith, kept.patience, limit_is, covers byte delay more wait old.patience new.pace fits pause_is wait_is (omega (arith, few, kept.patience)));
      }
  heard_keeps old sound new (none_came reader ahead at held past holds still) given is =
      still_keeps held sound new still (subst (λ (w : PollWire R W C). Keeps byte delay w) (sym (held_as (looked old reader ahead at) held _ holds)) (record { fits = is.fits; long = is.long }))

  sent_keeps : (old : PollWire R W C) (bytes : List ℕ) (asking : Asking) (new : PollWire R W C) → WireSends contents old bytes asking new → Keeps byte delay old → Keeps byte delay new
  sent_keeps old bytes asking new sends is =
      let fits : Fits byte delay new.pace = subst (λ (p : Pace). Fits byte delay p) (sym sends.pace) (fits_begun byte delay bytes asking.late old.pace is.fits) in
      record {
        fits = fits;
        long = λ paused. subst (λ (n : ℕ). IsLong byte delay new.pace new.patience n) (sym sends.limit)
            (limit_long byte delay new.pace fits new.patience (is_reset (frame_of bytes)) asking.many (wants_ack (frame_of bytes)) (is_some new.pace.delay) refl (sym sends.until ∙ paused));
      }

  again_keeps : (old new : PollWire R W C) (again : Bool) → WireReopens old again new → Keeps byte delay old → Keeps byte delay new
  again_keeps old new again (is_open restarts same) is =
      subst (λ (w : PollWire R W C). Keeps byte delay w) (sym same) (record { fits = is.fits; long = λ paused. absurd (false≢true (ap is_paused paused)) })
  again_keeps old new again (is_as_before same) is =
      subst (λ (w : PollWire R W C). Keeps byte delay w) (sym same) (record { fits = is.fits; long = is.long })

  all_keep : (old new : PollWire R W C) (sounds : List Sound) (waited : ℕ) (life : Lives contents remaining old sounds waited new) → IsPaced byte delay life → Keeps byte delay old → Keeps byte delay new
  all_keep old new sounds waited (rests same) paced is = subst (λ (w : PollWire R W C). Keeps byte delay w) (sym same) is
  all_keep old new sounds waited (sent {between = b} {bytes = bytes} {asking = asking} sends rest) paced is = all_keep b new sounds waited rest paced (sent_keeps old bytes asking b sends is)
  all_keep old new sounds waited (opened {between = b} {again = again} opens rest) paced is = all_keep b new sounds waited rest paced (again_keeps old b again opens is)
  all_keep old new sounds waited (heard {between = b} {sound = sound} {sounds = more} {waited = later} hears rest) paced is = all_keep b new more later rest paced.1 (heard_keeps old sound b hears paced.0 is)

pub window : {R W C : Type 0} (contents : W → Option (List ℕ)) (remaining : R → Option (List ℕ)) (old wire new : PollWire R W C) (sounds : List Sound) (waited byte delay more wait : ℕ) (life : Lives contents remaining old sounds waited wire) → IsPaced byte delay life
    → Fits byte delay old.pace → old.until ≡ Still → wire.until ≡ Paused → WireHears remaining wire silence new → more ≤ or_none wire.pace.longest_pause → wait ≤ answering byte → wire.patience < 2 ^ 64
    → HasPassed (min wire.patience (answered_after byte (delay + more) wait)) wire.asked new.at
window contents remaining old wire new sounds waited byte delay more wait life paced fits still paused hears pause_is wait_is few =
    let first : Keeps byte delay old = record { fits = fits; long = λ p. absurd (false≢true (ap is_paused (sym still ∙ p))) } in
    let keeps = all_keep contents remaining byte delay old wire sounds waited life paced first in
    let over = subst (λ (u : Until). IsOver u wire new.at) paused (silent_by contents remaining wire new hears).1 in
    omega (arith, over.0, keeps.long paused more wait pause_is wait_is few)
