-- The moments from which a wire measures are those that its clock told.
use Rattle.std.proofs.Common.{◌≡◌, ℕ, zero, suc, ◌<◌, Bool, true, false, List, [], ◌∷◌, ◌++◌, All, Option, ◌⊎◌, inl, inr, ap, refl, subst, sym, ◌∙◌, arith}
use Rattle.std.specs.List.{Contains}
use Rattle.std.proofs.lemmas.Bool.{false≢true}
use Rattle.std.proofs.lemmas.List.Elements.{Contains-append_right}
use Rattle.std.proofs.lemmas.List.{append_assoc}
use Rattle.std.specs.declared.time.Instant.{Instant}
use Rattle.mbdc_raw.proofs.Life.{held_as}
use Rattle.mbdc_raw.proofs.Waits.{over_of}
use Rattle.mbdc_raw.specs.Life.{Lives, MeetsSilence, heard, opened, rests, sent}
use Rattle.mbdc_raw.specs.PollWire.{Ends, HasPassed, Holds, IsOver, IsStill, IsTold, WireHears, WireReopens, WireSends, as_before, at_gap, at_silence, begins, bytes_came, ends, from_now, goes_on, is_as_before, is_open, looked, none_came, not_yet, tells, tells_after, told, when_late}
use Rattle.mbdc_raw.specs.Wire.{AreHeard, Sound, IsAwaited, silence}
use Rattle.mbdc_raw.specs.declared.logged_clock.LoggedClock.{LoggedClock}
use Rattle.mbdc_raw.specs.declared.poll_wire.PollWire.{PollWire}
use Rattle.mbdc_raw.specs.declared.poll_wire.Until.{Until}
use Rattle.mbdc_raw.specs.declared.poll_wire.Until.TheVariants.{Still, Over, Paused}
use Rattle.mbdc_raw.specs.declared.wire.Asking.{Asking}

abbrev is_still : Until → Bool
is_still Still = true
is_still Over = false
is_still Paused = false

later : (at : Instant) (moments : List Instant) (x : Instant) → Contains moments x → Contains (at ∷ moments) x
later at moments x = Contains-append_right (at ∷ []) moments x

newest : (at : Instant) (moments : List Instant) → Contains (at ∷ moments) at
newest at moments = (0, omega arith, refl)

as_then : (x y : Instant) (xs ys : List Instant) → ys ≡ xs → y ≡ x → Contains xs x → Contains ys y
as_then x y xs ys are is has = subst (λ (zs : List Instant). Contains zs y) (sym are) (subst (λ (z : Instant). Contains xs z) (sym is) has)

module _ {R W C : Type 0} (contents : W → Option (List ℕ)) (remaining : R → Option (List ℕ)) where
  looked_told : (old : PollWire R W C) (reader : R) (ahead : List ℕ) (at : Instant) → IsTold old → IsTold (looked old reader ahead at)
  looked_told old reader ahead at is = record {
    asked = later at (told old) old.asked is.asked;
    since = later at (told old) old.since is.since;
    at = newest at (told old);
    held = later at (told old) old.held is.held;
  }

  held_told : (old held : PollWire R W C) (is_new : Bool) → Holds is_new old held → IsTold old → IsTold held
  held_told old held is_new (begins fresh same) is =
      subst (λ (w : PollWire R W C). IsTold w) (sym same) (record { asked = is.asked; since = is.since; at = is.at; held = is.at })
  held_told old held is_new (goes_on before early same) is = subst (λ (w : PollWire R W C). IsTold w) (sym same) is
  held_told old held is_new (ends before passed same) is =
      subst (λ (w : PollWire R W C). IsTold w) (sym same) (record { asked = is.asked; since = is.since; at = is.at; held = is.held })

  still_told : (old : PollWire R W C) (sound : Sound) (new : PollWire R W C) → IsStill old sound new → IsTold old → IsTold new
  still_told old sound new (not_yet quiet still early same) is =
      subst (λ (w : PollWire R W C). IsTold w) (sym same) (record { asked = is.asked; since = is.since; at = is.at; held = is.held })
  still_told old sound new (at_gap quiet due same) is =
      subst (λ (w : PollWire R W C). IsTold w) (sym same) (record { asked = is.asked; since = is.since; at = is.at; held = is.held })
  still_told old sound new (when_late quiet still late same) is =
      subst (λ (w : PollWire R W C). IsTold w) (sym same) (record { asked = is.asked; since = is.since; at = is.at; held = is.held })
  still_told old sound new (at_silence over same) is =
      subst (λ (w : PollWire R W C). IsTold w) (sym same) (record { asked = is.asked; since = is.at; at = is.at; held = is.held })

  heard_told : (old : PollWire R W C) (sound : Sound) (new : PollWire R W C) → WireHears remaining old sound new → IsTold old → IsTold new
  heard_told old sound new (bytes_came reader ahead at past kept) is =
      let now = looked_told old reader ahead at is in
      let are = ap (λ (k : LoggedClock C). k.log.told) kept.clock in
      record {
        asked = as_then _ _ _ _ are kept.asked now.asked;
        since = as_then _ _ _ _ are kept.since now.at;
        at = as_then _ _ _ _ are kept.at now.at;
        held = as_then _ _ _ _ are kept.held now.held;
      }
  heard_told old sound new (none_came reader ahead at held past holds still) is =
      still_told held sound new still (held_told (looked old reader ahead at) held _ holds (looked_told old reader ahead at is))

  sent_told : (old : PollWire R W C) (bytes : List ℕ) (asking : Asking) (new : PollWire R W C) → WireSends contents old bytes asking new → IsTold old → IsTold new
  sent_told old bytes asking new sends is = record { asked = by asking.repeats refl; since = then new.since new.since refl (newest new.since (told old)); at = before new.at old.at sends.at is.at; held = before new.held old.held sends.held is.held }
    where
      then : (y x : Instant) → y ≡ x → Contains (new.since ∷ told old) x → Contains (told new) y
      then y x = as_then x y (new.since ∷ told old) (told new) (ap (λ (k : LoggedClock C). k.log.told) sends.clock)

      before : (y x : Instant) → y ≡ x → Contains (told old) x → Contains (told new) y
      before y x same has = then y x same (later new.since (told old) x has)

      by : (repeats : ℕ) → asking.repeats ≡ repeats → Contains (told new) new.asked
      by zero none = then new.asked new.since (sym (sends.since none)) (newest new.since (told old))
      by (suc more) some = before new.asked old.asked (sends.asked (omega (arith, some))) is.asked

  again_told : (old new : PollWire R W C) (again : Bool) → WireReopens old again new → IsTold old → IsTold new
  again_told old new again (is_open (from_now read) same) is =
      let are = ap (λ (k : LoggedClock C). k.log.told) read in
      record {
        asked = as_then _ _ _ _ are (ap (λ (w : PollWire R W C). w.asked) same) (later new.since (told old) old.asked is.asked);
        since = as_then _ _ _ _ are refl (newest new.since (told old));
        at = as_then _ _ _ _ are (ap (λ (w : PollWire R W C). w.at) same) (later new.since (told old) old.at is.at);
        held = as_then _ _ _ _ are (ap (λ (w : PollWire R W C). w.held) same) (later new.since (told old) old.held is.held);
      }
  again_told old new again (is_open (as_before clock since) same) is =
      let are = ap (λ (k : LoggedClock C). k.log.told) clock in
      record {
        asked = as_then _ _ _ _ are (ap (λ (w : PollWire R W C). w.asked) same) is.asked;
        since = as_then _ _ _ _ are since is.since;
        at = as_then _ _ _ _ are (ap (λ (w : PollWire R W C). w.at) same) is.at;
        held = as_then _ _ _ _ are (ap (λ (w : PollWire R W C). w.held) same) is.held;
      }
  again_told old new again (is_as_before same) is =
      subst (λ (w : PollWire R W C). IsTold w) (sym same) (record { asked = is.asked; since = is.since; at = is.at; held = is.held })

  pub always_told : (old new : PollWire R W C) (sounds : List Sound) (waited : ℕ) → IsTold old → Lives contents remaining old sounds waited new → IsTold new
  always_told old new sounds waited is (rests same) = subst (λ (w : PollWire R W C). IsTold w) (sym same) is
  always_told old new sounds waited is (sent {between = b} {bytes = bytes} {asking = asking} sends rest) = always_told b new sounds waited (sent_told old bytes asking b sends is) rest
  always_told old new sounds waited is (opened {between = b} {again = again} opens rest) = always_told b new sounds waited (again_told old b again opens is) rest
  always_told old new sounds waited is (heard {between = b} {sound = sound} {sounds = more} {waited = later} hears rest) = always_told b new more later (heard_told old sound b hears is) rest

  -- a wire waits on as it did, and its clock told more
  record WaitsOn (old new : PollWire R W C) : Type 0 where
    pub since : new.since ≡ old.since
    pub asked : new.asked ≡ old.asked
    pub limit : new.limit ≡ old.limit
    pub until : new.until ≡ old.until
    pub more : List Instant
    pub history : told new ≡ more ++ told old

  still_waits : (old : PollWire R W C) (reader : R) (ahead : List ℕ) (at : Instant) (held new : PollWire R W C) → held ≡ record (looked old reader ahead at) { ahead = held.ahead; held = held.held } → new.since ≡ held.since → new.asked ≡ held.asked → new.limit ≡ held.limit → new.until ≡ held.until → told new ≡ told held → WaitsOn old new
  still_waits old reader ahead at held new so since asked limit until history = record {
    since = since ∙ ap (λ (w : PollWire R W C). w.since) so;
    asked = asked ∙ ap (λ (w : PollWire R W C). w.asked) so;
    limit = limit ∙ ap (λ (w : PollWire R W C). w.limit) so;
    until = until ∙ ap (λ (w : PollWire R W C). w.until) so;
    more = at ∷ [];
    history = history ∙ ap (λ (w : PollWire R W C). told w) so;
  }

  waits_on : (old : PollWire R W C) (sound : Sound) (new : PollWire R W C) → IsAwaited sound → WireHears remaining old sound new → WaitsOn old new
  waits_on old sound new is (bytes_came reader ahead at past kept) = absurd is
  waits_on old sound new is (none_came reader ahead at held past holds (not_yet quiet still early same)) =
      still_waits old reader ahead at held new (held_as (looked old reader ahead at) held _ holds) (ap (λ (w : PollWire R W C). w.since) same) (ap (λ (w : PollWire R W C). w.asked) same) (ap (λ (w : PollWire R W C). w.limit) same) (ap (λ (w : PollWire R W C). w.until) same) (ap (λ (w : PollWire R W C). told w) same)
  waits_on old sound new is (none_came reader ahead at held past holds (at_gap quiet due same)) =
      still_waits old reader ahead at held new (held_as (looked old reader ahead at) held _ holds) (ap (λ (w : PollWire R W C). w.since) same) (ap (λ (w : PollWire R W C). w.asked) same) (ap (λ (w : PollWire R W C). w.limit) same) (ap (λ (w : PollWire R W C). w.until) same) (ap (λ (w : PollWire R W C). told w) same)
  waits_on old sound new is (none_came reader ahead at held past holds (when_late quiet still late same)) =
      still_waits old reader ahead at held new (held_as (looked old reader ahead at) held _ holds) (ap (λ (w : PollWire R W C). w.since) same) (ap (λ (w : PollWire R W C). w.asked) same) (ap (λ (w : PollWire R W C). w.limit) same) (ap (λ (w : PollWire R W C). w.until) same) (ap (λ (w : PollWire R W C). told w) same)
  waits_on old sound new is (none_came reader ahead at held past holds (at_silence over same)) = absurd is

  all_wait : (old new : PollWire R W C) (sounds : List Sound) → All IsAwaited sounds → AreHeard (WireHears remaining) old sounds new → WaitsOn old new
  all_wait old new [] are same = record {
    since = ap (λ (w : PollWire R W C). w.since) same;
    asked = ap (λ (w : PollWire R W C). w.asked) same;
    limit = ap (λ (w : PollWire R W C). w.limit) same;
    until = ap (λ (w : PollWire R W C). w.until) same;
    more = [];
    history = ap (λ (w : PollWire R W C). told w) same;
  }
  all_wait old new (sound ∷ sounds) are (between, hears, rest) =
      let one = waits_on old sound between (are 0 sound (omega arith)) hears in
      let all = all_wait between new sounds (λ k d below. are (suc k) d (omega (arith, below))) rest in
      record {
        since = all.since ∙ one.since;
        asked = all.asked ∙ one.asked;
        limit = all.limit ∙ one.limit;
        until = all.until ∙ one.until;
        more = all.more ++ one.more;
        history = all.history ∙ ap (λ (xs : List Instant). all.more ++ xs) one.history ∙ sym (append_assoc all.more one.more (told old));
      }

  passed_by : (until : Until) (wire : PollWire R W C) (at : Instant) → IsOver until wire at → (until ≡ Still ⊎ (wire.asked ≡ wire.since)) → HasPassed wire.limit wire.since at
  passed_by Still wire at over either = over
  passed_by Over wire at over (inl still) = absurd (false≢true (ap is_still still))
  passed_by Over wire at over (inr same) = subst (λ (t : Instant). HasPassed wire.limit t at) same over
  passed_by Paused wire at over (inl still) = absurd (false≢true (ap is_still still))
  passed_by Paused wire at over (inr same) = subst (λ (t : Instant). HasPassed wire.limit t at) same over.0

  -- silence comes at the moment that the clock told last, when the time-out is over
  pub silent_by : (old new : PollWire R W C) → WireHears remaining old silence new → (told new ≡ new.at ∷ told old) × Ends old new.at
  silent_by old new (none_came reader ahead at held past holds (at_silence over same)) =
      let so = held_as (looked old reader ahead at) held _ holds in
      let now : at ≡ new.at = sym (ap (λ (w : PollWire R W C). w.at) same ∙ ap (λ (w : PollWire R W C). w.at) so) in
      let past : IsOver old.until old at = over_of old reader (tells at old.clock) held.ahead held.held at at old.until (subst (λ (w : PollWire R W C). Ends w w.at) so over) in
      (ap (λ (w : PollWire R W C). told w) same ∙ ap (λ (w : PollWire R W C). told w) so ∙ ap (λ (t : Instant). t ∷ told old) now, subst (λ (t : Instant). Ends old t) now past)

  pub apart : (old : PollWire R W C) (bytes : List ℕ) (asking : Asking) (request new : PollWire R W C) → (0 < asking.repeats → request.until ≡ Still) → MeetsSilence contents remaining old bytes asking request new
      → (more : List Instant) × (told new ≡ new.at ∷ (more ++ (request.since ∷ told old))) × (request.clock ≡ tells_after bytes request.since old.clock) × HasPassed request.limit request.since new.at
  apart old bytes asking request new again meets = (waits.more, silent.0 ∙ ap (λ (xs : List Instant). new.at ∷ xs) (waits.history ∙ ap (λ (k : LoggedClock C). waits.more ++ k.log.told) meets.sends.clock), meets.sends.clock, passed)
    where
      waits : WaitsOn request meets.quiet
      waits = all_wait request meets.quiet meets.sounds meets.awaited meets.heard

      silent : (told new ≡ new.at ∷ told meets.quiet) × Ends meets.quiet new.at
      silent = silent_by meets.quiet new meets.silent

      either : (repeats : ℕ) → asking.repeats ≡ repeats → meets.quiet.until ≡ Still ⊎ (meets.quiet.asked ≡ meets.quiet.since)
      either zero none = inr (waits.asked ∙ sym (meets.sends.since none) ∙ sym waits.since)
      either (suc more) some = inl (waits.until ∙ again (omega (arith, some)))

      passed : HasPassed request.limit request.since new.at
      passed =
          subst (λ (t : Instant). HasPassed request.limit t new.at) waits.since
          (subst (λ (n : ℕ). HasPassed n meets.quiet.since new.at) waits.limit (passed_by meets.quiet.until meets.quiet new.at silent.1 (either asking.repeats refl)))
