-- A life of a wire.
use Rattle.std.proofs.Common.{◌≡◌, ℕ, ◌+◌, ◌-◌, ◌^◌, ◌≤◌, min, Bool, true, false, List, [], ◌∷◌, ◌++◌, Option, ap, refl, sym, ◌∙◌, arith, if◌then◌else◌}
use Rattle.std.proofs.lemmas.Bool.{false≢true}
use Rattle.mbdc_raw.specs.Life.{Lives, heard, opened, rests, sent, wait_of}
use Rattle.mbdc_raw.specs.PollWire.{Holds, IsDeserted, WireHears, WireReopens, at_gap, at_silence, begins, bytes_came, ends, goes_on, is_as_before, is_open, looked, most_waited, none_came, not_yet, when_late}
use Rattle.mbdc_raw.specs.Wire.{Sound, bytes_in, bytes_of, silence}
use Rattle.mbdc_raw.specs.declared.poll_wire.PollWire.{PollWire}

-- a byte came, or the wire has waited so much longer
data Came {R W C : Type 0} (old : PollWire R W C) (sound : Sound) (new : PollWire R W C) : Type 0 where
  a_byte : new.came ≡ true → Came old sound new
  no_byte : bytes_of sound ≡ [] → new.came ≡ old.came → new.waited ≤ old.waited + wait_of old sound → Came old sound new

waits_by : (asks : Bool) (waited limit : ℕ) → (if asks then min (waited + limit) (2 ^ 64 - 1) else waited) ≤ waited + (if asks then limit else 0)
waits_by true waited limit = omega arith
waits_by false waited limit = omega arith

-- what is held back, and since when, changes nothing but that
pub held_as : {R W C : Type 0} (old new : PollWire R W C) (is_new : Bool) → Holds is_new old new → new ≡ record old { ahead = new.ahead; held = new.held }
held_as old new is_new (begins fresh same) = same ∙ ap (λ (w : PollWire _ _ _). record old { ahead = w.ahead; held = w.held }) (sym same)
held_as old new is_new (goes_on held early same) = same ∙ ap (λ (w : PollWire _ _ _). record old { ahead = w.ahead; held = w.held }) (sym same)
held_as old new is_new (ends held passed same) = same ∙ ap (λ (w : PollWire _ _ _). record old { ahead = w.ahead; held = w.held }) (sym same)

module _ {R W C : Type 0} (contents : W → Option (List ℕ)) (remaining : R → Option (List ℕ)) where
  came_by : (old : PollWire R W C) (sound : Sound) (new : PollWire R W C) → WireHears remaining old sound new → Came old sound new
  came_by old sound new (bytes_came reader ahead at past kept) = a_byte kept.came
  came_by old sound new (none_came reader ahead at held past holds (not_yet quiet still early same)) =
      let so = held_as (looked old reader ahead at) held _ holds in
      no_byte refl (ap (λ (w : PollWire R W C). w.came) same ∙ ap (λ (w : PollWire R W C). w.came) so)
      (omega (arith, ap (λ (w : PollWire R W C). w.waited) same, ap (λ (w : PollWire R W C). w.waited) so))
  came_by old sound new (none_came reader ahead at held past holds (at_gap quiet due same)) =
      let so = held_as (looked old reader ahead at) held _ holds in
      no_byte refl (ap (λ (w : PollWire R W C). w.came) same ∙ ap (λ (w : PollWire R W C). w.came) so)
      (omega (arith, ap (λ (w : PollWire R W C). w.waited) same, ap (λ (w : PollWire R W C). w.waited) so))
  came_by old sound new (none_came reader ahead at held past holds (when_late quiet still late same)) =
      let so = held_as (looked old reader ahead at) held _ holds in
      no_byte refl (ap (λ (w : PollWire R W C). w.came) same ∙ ap (λ (w : PollWire R W C). w.came) so)
      (omega (arith, ap (λ (w : PollWire R W C). w.waited) same, ap (λ (w : PollWire R W C). w.waited) so))
  came_by old sound new (none_came reader ahead at held past holds (at_silence over same)) =
      let so = held_as (looked old reader ahead at) held _ holds in
      no_byte refl (ap (λ (w : PollWire R W C). w.came) same ∙ ap (λ (w : PollWire R W C). w.came) so)
      (omega (arith, waits_by held.asks held.waited held.limit, ap (λ (w : PollWire R W C). w.waited) same, ap (λ (w : PollWire R W C). w.waited) so, ap (λ (w : PollWire R W C). wait_of w silence) so))

  came_again : (old new : PollWire R W C) (again : Bool) → WireReopens old again new → new.came ≡ old.came
  came_again old new again (is_open restarts same) = ap (λ (w : PollWire R W C). w.came) same
  came_again old new again (is_as_before same) = ap (λ (w : PollWire R W C). w.came) same

  waited_again : (old new : PollWire R W C) (again : Bool) → WireReopens old again new → new.waited ≡ old.waited
  waited_again old new again (is_open restarts same) = ap (λ (w : PollWire R W C). w.waited) same
  waited_again old new again (is_as_before same) = ap (λ (w : PollWire R W C). w.waited) same

  -- a byte that came is known for ever
  stays_by : (old : PollWire R W C) (sound : Sound) (between new : PollWire R W C) → Came old sound between → (between.came ≡ true → new.came ≡ true) → old.came ≡ true → new.came ≡ true
  stays_by old sound between new (a_byte is) go came = go is
  stays_by old sound between new (no_byte none same less) go came = go (same ∙ came)

  stays : (old new : PollWire R W C) (sounds : List Sound) (waited : ℕ) → Lives contents remaining old sounds waited new → old.came ≡ true → new.came ≡ true
  stays old new sounds waited (rests same) came = ap (λ (w : PollWire R W C). w.came) same ∙ came
  stays old new sounds waited (sent {between = b} sends rest) came = stays b new sounds waited rest (sends.came ∙ came)
  stays old new sounds waited (opened {between = b} {again = again} opens rest) came = stays b new sounds waited rest (came_again old b again opens ∙ came)
  stays old new sounds waited (heard {between = b} {sound = sound} {sounds = more} {waited = later} hears rest) came =
      stays_by old sound b new (came_by old sound b hears) (λ is. stays b new more later rest is) came

  -- no byte came, and the wire has waited no longer than this
  record Silent (old : PollWire R W C) (sounds : List Sound) (waited : ℕ) (new : PollWire R W C) : Type 0 where
    pub none : bytes_in sounds ≡ []
    pub most : new.waited ≤ old.waited + waited

  silent_by : (old : PollWire R W C) (sound : Sound) (sounds : List Sound) (between new : PollWire R W C) (later : ℕ) → Came old sound between → (between.came ≡ true → new.came ≡ true) → new.came ≡ false → Silent between sounds later new
      → Silent old (sound ∷ sounds) (wait_of old sound + later) new
  silent_by old sound sounds between new later (a_byte is) stay quiet so = absurd (false≢true (sym quiet ∙ stay is))
  silent_by old sound sounds between new later (no_byte empty same less) stay quiet so = record {
    none = ap (λ (xs : List ℕ). xs ++ bytes_in sounds) empty ∙ so.none;
    most = omega (arith, so.most, less);
  }

  silent : (old new : PollWire R W C) (sounds : List Sound) (waited : ℕ) → Lives contents remaining old sounds waited new → new.came ≡ false → Silent old sounds waited new
  silent old new sounds waited (rests same) quiet = record { none = refl; most = omega (arith, ap (λ (w : PollWire R W C). w.waited) same) }
  silent old new sounds waited (sent {between = b} sends rest) quiet =
      let so = silent b new sounds waited rest quiet in record { none = so.none; most = omega (arith, so.most, sends.waited) }
  silent old new sounds waited (opened {between = b} {again = again} opens rest) quiet =
      let so = silent b new sounds waited rest quiet in record { none = so.none; most = omega (arith, so.most, waited_again old b again opens) }
  silent old new sounds waited (heard {between = b} {sound = sound} {sounds = more} {waited = later} hears rest) quiet =
      silent_by old sound more b new later (came_by old sound b hears) (λ is. stays b new more later rest is) quiet (silent b new more later rest quiet)

  pub deserted : (old new gone : PollWire R W C) (sounds : List Sound) (waited : ℕ) → old.came ≡ false → old.waited ≡ 0 → Lives contents remaining old sounds waited new → IsDeserted new gone → (bytes_in sounds ≡ []) × (most_waited ≤ waited + wait_of new silence)
  deserted old new gone sounds waited fresh none life is =
      let so = silent old new sounds waited life is.unanswered.silent in
      (so.none, omega (arith, so.most, none, is.unanswered.long, waits_by new.asks new.waited new.limit))
