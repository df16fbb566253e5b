-- One look at a wire over a reader and a writer.
use Rattle.std.proofs.Common.{◌≡◌, ℕ, Bool, true, false, ◌≤◌, List, [], ◌∷◌, Option, Some, Result, Ok, Err, IfOk, length, take, ◌==◌, refl, ap, subst, sym, ◌∙◌, arith}
use Rattle.std.proofs.lemmas.Bool.{eqb-true, false≢true}
use Rattle.std.specs.declared.time.Instant.{Instant}
use Rattle.mbdc_raw.specs.Noise.{IsPast}
use Rattle.mbdc_raw.specs.Pace.{or_none}
use Rattle.mbdc_raw.specs.PollWire.{Holds, IsDeserted, IsHeard, IsLate, IsOver, IsStill, IsUnanswered, WireHears, bytes_came, looked, micros, none_came, takes_all, tells}
use Rattle.mbdc_raw.specs.Wire.{Sound, FitsRoom, piece, sound_of, nothing, gap, overdue, silence}
use Rattle.mbdc_raw.specs.declared.logged_clock.LoggedClock.{LoggedClock}
use Rattle.mbdc_raw.specs.declared.poll_wire.PollWire.{PollWire}
use Rattle.mbdc_raw.specs.declared.poll_wire.Until.{Until}
use Rattle.mbdc_raw.specs.declared.poll_wire.Until.TheVariants.{Still, Over, Paused}
use Rattle.mbdc_raw.specs.declared.wire.Came.{Came}
use Rattle.mbdc_raw.specs.declared.wire.Came.TheVariants.{Bytes, Nothing, Gap, Overdue, Silence}

pub over_of : {R W C : Type 0} (old : PollWire R W C) (reader : R) (clock : LoggedClock C) (ahead : List ℕ) (held at now : Instant) (until : Until) → IsOver until (record old { reader = reader; clock = clock; ahead = ahead; held = held; at = at }) now → IsOver until old now
over_of old reader clock ahead held at now Still over = over
over_of old reader clock ahead held at now Over over = over
over_of old reader clock ahead held at now Paused over = over

module _ {R W C : Type 0} (remaining : R → Option (List ℕ)) (old : PollWire R W C) (reader : R) (ahead : List ℕ) (at : Instant) (clock : LoggedClock C) (read : clock ≡ tells at old.clock) where
  abbrev pub after : PollWire R W C
  after = record old { reader = reader; clock = clock; ahead = ahead; at = at }

  -- what is held back doesn't count where nobody answers
  pub deserted_of : (held new : PollWire R W C) → held ≡ record after { ahead = held.ahead; held = held.held } → IsUnanswered held held.at → new.at ≡ held.at → new.clock ≡ held.clock → IsDeserted old new
  deserted_of held new same is at_is clock_is =
      let d = subst (λ (w : PollWire R W C). IsUnanswered w w.at) same is in
      let then : new.at ≡ at = at_is ∙ ap (λ (w : PollWire R W C). w.at) same in
      record {
        clock = clock_is ∙ ap (λ (w : PollWire R W C). w.clock) same ∙ read ∙ ap (λ (t : Instant). tells t old.clock) (sym then);
        unanswered = subst (λ (t : Instant). IsUnanswered old t) (sym then) (record { silent = d.silent; over = over_of old reader clock held.ahead held.held at at old.until d.over; long = d.long });
      }

  module _ (takes : Bool) (all : takes ≡ takes_all old) where
    abbrev Past : Bool → List ℕ → Type 0
    Past b xs = IsPast old.pace.acks b old.ahead ahead (remaining old.reader) (remaining reader) xs

    abbrev read_by : LoggedClock C → PollWire R W C
    read_by k = record old { reader = reader; clock = k; ahead = ahead; at = at }

    pub bytes_heard : (given bytes : List ℕ) (new : PollWire R W C) → given ≡ bytes → Past takes bytes → IsHeard after given new → WireHears remaining old (piece bytes) new
    bytes_heard given bytes new are past heard =
        bytes_came reader ahead at (subst (λ (b : Bool). Past b bytes) all past)
        (subst (λ (xs : List ℕ). IsHeard (looked old reader ahead at) xs new) are (subst (λ (k : LoggedClock C). IsHeard (read_by k) given new) read heard))

    pub none_heard : {E : Type 0} (count : ℕ) (room bytes : List ℕ) (is_new : Bool) (held new : PollWire R W C) (answer : Result Came E) → count ≡ 0 → Past takes (take count bytes) → is_new ≡ (length old.ahead == 0) → Holds is_new after held
        → IfOk answer (λ came. FitsRoom came 0) → IfOk answer (λ came. IsStill held (sound_of came []) new) → IfOk answer (λ came. WireHears remaining old (sound_of came room) new)
    none_heard count room bytes is_new held new (Err fault) none past new_is holds fits still = tt
    none_heard count room bytes is_new held new (Ok came) none past new_is holds fits still = by_came came fits still
      where
        quiet : (sound : Sound) → IsStill held sound new → WireHears remaining old sound new
        quiet sound still =
            none_came reader ahead at held
            (subst (λ (n : ℕ). Past (takes_all old) (take n bytes)) none (subst (λ (b : Bool). Past b (take count bytes)) all past))
            (subst (λ (b : Bool). Holds b (looked old reader ahead at) held) new_is (subst (λ (k : LoggedClock C). Holds is_new (read_by k) held) read holds)) still

        by_came : (came : Came) → FitsRoom came 0 → IsStill held (sound_of came []) new → WireHears remaining old (sound_of came room) new
        by_came (Bytes n) fits still = absurd (omega (arith, fits.0, fits.1))
        by_came Nothing fits still = quiet nothing still
        by_came Gap fits still = quiet gap still
        by_came Overdue fits still = quiet overdue still
        by_came Silence fits still = quiet silence still

-- whether bytes are held back, by their count
pub held_back : (ahead bytes : List ℕ) (empty : Bool) → empty ≡ (length bytes == 0) → bytes ≡ ahead → empty ≡ false → ahead ≡ [] → ⊥
held_back ahead bytes empty is same some none = false≢true (sym some ∙ is ∙ ap (λ (xs : List ℕ). length xs == 0) (same ∙ none))

no_bytes : (xs : List ℕ) → (length xs == 0) ≡ true → xs ≡ []
no_bytes [] is = refl
no_bytes (x ∷ xs) is = absurd (omega (arith, eqb-true (length (x ∷ xs)) 0 is))

pub none_held : (ahead bytes : List ℕ) (empty : Bool) → empty ≡ (length bytes == 0) → bytes ≡ ahead → empty ≡ true → ahead ≡ []
none_held ahead bytes empty is same none = sym same ∙ no_bytes bytes (sym is ∙ none)

-- an answer isn't late before its wait is over
pub not_late : {R W C : Type 0} (wire : PollWire R W C) (wait spent : ℕ) → wire.soon ≡ Some wait → spent ≡ micros wire.since wire.at → (wait ≤ spent → ⊥) → ¬ IsLate wire
not_late wire wait spent is spent_is early late = early (omega (arith, spent_is, late.over, ap or_none (sym late.is ∙ is)))

-- no bytes fit any room
pub none_fits : {E : Type 0} (room : ℕ) (answer : Result Came E) → IfOk answer (λ came. FitsRoom came 0) → IfOk answer (λ came. FitsRoom came room)
none_fits room (Err fault) fits = tt
none_fits room (Ok (Bytes n)) fits = absurd (omega (arith, fits.0, fits.1))
none_fits room (Ok Nothing) fits = tt
none_fits room (Ok Gap) fits = tt
none_fits room (Ok Overdue) fits = tt
none_fits room (Ok Silence) fits = tt
