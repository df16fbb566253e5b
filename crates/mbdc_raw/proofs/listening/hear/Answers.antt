use Rattle.std.proofs.Common.{◌≡◌, ◌<◌, ℕ, Bool, List, length, take, refl, sym, ◌∙◌, subst, arith, ◌==◌}
use Rattle.std.proofs.lemmas.List.{take-append-le}
use Rattle.mbdc_raw.specs.Wire.{FitsRoom, Wanes, sound_of, piece, nothing, gap, overdue}
use Rattle.mbdc_raw.specs.declared.wire.Came.{Came}
use Rattle.mbdc_raw.specs.declared.wire.Came.TheVariants.{Bytes}
use Rattle.mbdc_raw.specs.Heard.{answer_of, still, still_none, still_some, wanted_of}
use Rattle.mbdc_raw.proofs.Echoes.{none_missing, some_missing}
use Rattle.mbdc_raw.proofs.Pieces.{Ended, far_gap, far_late, far_more, far_none, far_over, far_silent, far_waits, has_length, no_length, not_false, not_of_true}
use Rattle.mbdc_raw.proofs.listening.hear.Goals as goal

pub pieces-init : goal.pieces-init
pieces-init g c = record {
  wants = c.wanted-count.ensures.wanted;
  fits = c.wanted-count.ensures.fits;
  well = refl;
  left = omega arith;
  soon = refl;
  so = far_none g.W.Wire.hears c.args.wire.now c.args.hearing.now;
}

pub returns-in-Nothing-clause-waits : goal.returns-in-Nothing-clause-waits
returns-in-Nothing-clause-waits g c =
    let some : 0 < wanted_of c.pieces.hearing.request c.pieces.hearing.bytes = omega (arith, c.pieces.invariant.wants, c.pieces-test.true) in
    far_waits g.W.Wire.hears c.args.wire.now c.pieces.wire c.hear.new.self c.args.hearing.now c.pieces.hearing nothing c.pieces.invariant.so
    (some_missing c.pieces.hearing.request c.pieces.hearing.bytes (answer_of c.pieces.hearing) refl some) still
    (subst (λ (came : Came). g.W.Wire.hears c.pieces.wire (sound_of came c.hear.new.room) c.hear.new.self) c.in-Nothing.is c.in_ok-came.ensures.step)

pub returns-then-has_begun-clause-heard : goal.returns-then-has_begun-clause-heard
returns-then-has_begun-clause-heard g c =
    let some : 0 < wanted_of c.pieces.hearing.request c.pieces.hearing.bytes = omega (arith, c.pieces.invariant.wants, c.pieces-test.true) in
    subst (λ (early : Bool). Ended g.W.Wire.hears c.args.wire.now c.args.hearing.now c.take.result c.hear.new.self c.take.new.self early) (sym c.pieces.invariant.soon)
    (far_gap g.W.Wire.hears c.args.wire.now c.pieces.wire c.hear.new.self c.args.hearing.now c.pieces.hearing c.take.new.self c.take.result c.pieces.invariant.so
    c.take.ensures.answer c.take.ensures.exact c.take.ensures.kept
    (some_missing c.pieces.hearing.request c.pieces.hearing.bytes (answer_of c.pieces.hearing) refl some)
    (has_length (answer_of c.pieces.hearing) (not_of_true (length (answer_of c.pieces.hearing) == 0) (sym c.has_begun.ensures ∙ c.if-has_begun.true)))
    (subst (λ (came : Came). g.W.Wire.hears c.pieces.wire (sound_of came c.hear.new.room) c.hear.new.self) c.in-Gap.is c.in_ok-came.ensures.step))

pub returns-else-has_begun-clause-waits : goal.returns-else-has_begun-clause-waits
returns-else-has_begun-clause-waits g c =
    let some : 0 < wanted_of c.pieces.hearing.request c.pieces.hearing.bytes = omega (arith, c.pieces.invariant.wants, c.pieces-test.true) in
    far_waits g.W.Wire.hears c.args.wire.now c.pieces.wire c.hear.new.self c.args.hearing.now c.pieces.hearing gap c.pieces.invariant.so
    (some_missing c.pieces.hearing.request c.pieces.hearing.bytes (answer_of c.pieces.hearing) refl some)
    (still_none (no_length (answer_of c.pieces.hearing) (not_false (length (answer_of c.pieces.hearing) == 0) (sym c.has_begun.ensures ∙ c.if-has_begun.false))))
    (subst (λ (came : Came). g.W.Wire.hears c.pieces.wire (sound_of came c.hear.new.room) c.hear.new.self) c.in-Gap.is c.in_ok-came.ensures.step)

pub returns-then-has_begun-2-clause-waits : goal.returns-then-has_begun-2-clause-waits
returns-then-has_begun-2-clause-waits g c =
    let some : 0 < wanted_of c.pieces.hearing.request c.pieces.hearing.bytes = omega (arith, c.pieces.invariant.wants, c.pieces-test.true) in
    far_waits g.W.Wire.hears c.args.wire.now c.pieces.wire c.hear.new.self c.args.hearing.now c.pieces.hearing overdue c.pieces.invariant.so
    (some_missing c.pieces.hearing.request c.pieces.hearing.bytes (answer_of c.pieces.hearing) refl some)
    (still_some (has_length (answer_of c.pieces.hearing) (not_of_true (length (answer_of c.pieces.hearing) == 0) (sym c.has_begun-in-Overdue.ensures ∙ c.if-has_begun-2.true))))
    (subst (λ (came : Came). g.W.Wire.hears c.pieces.wire (sound_of came c.hear.new.room) c.hear.new.self) c.in-Overdue.is c.in_ok-came.ensures.step)

pub returns-in-Overdue-clause-heard : goal.returns-in-Overdue-clause-heard
returns-in-Overdue-clause-heard g c =
    far_late g.W.Wire.hears c.args.wire.now c.pieces.wire c.hear.new.self c.args.hearing.now c.pieces.hearing c.take-in-Overdue.new.self c.take-in-Overdue.result c.pieces.invariant.so
    c.take-in-Overdue.ensures.answer c.take-in-Overdue.ensures.exact c.take-in-Overdue.ensures.kept
    (no_length (answer_of c.pieces.hearing) (not_false (length (answer_of c.pieces.hearing) == 0) (sym c.has_begun-in-Overdue.ensures ∙ c.if-has_begun-2.false)))
    (subst (λ (came : Came). g.W.Wire.hears c.pieces.wire (sound_of came c.hear.new.room) c.hear.new.self) c.in-Overdue.is c.in_ok-came.ensures.step)

pub returns-in-Silence-clause-heard : goal.returns-in-Silence-clause-heard
returns-in-Silence-clause-heard g c =
    let some : 0 < wanted_of c.pieces.hearing.request c.pieces.hearing.bytes = omega (arith, c.pieces.invariant.wants, c.pieces-test.true) in
    subst (λ (early : Bool). Ended g.W.Wire.hears c.args.wire.now c.args.hearing.now c.take-in-Silence.result c.hear.new.self c.take-in-Silence.new.self early) (sym c.pieces.invariant.soon)
    (far_silent g.W.Wire.hears c.args.wire.now c.pieces.wire c.hear.new.self c.args.hearing.now c.pieces.hearing c.take-in-Silence.new.self c.take-in-Silence.result c.pieces.invariant.so
    c.take-in-Silence.ensures.answer c.take-in-Silence.ensures.exact c.take-in-Silence.ensures.kept
    (some_missing c.pieces.hearing.request c.pieces.hearing.bytes (answer_of c.pieces.hearing) refl some)
    (subst (λ (came : Came). g.W.Wire.hears c.pieces.wire (sound_of came c.hear.new.room) c.hear.new.self) c.in-Silence.is c.in_ok-came.ensures.step))

pub returns-clause-heard : goal.returns-clause-heard
returns-clause-heard g c =
    let none : wanted_of c.pieces.hearing.request c.pieces.hearing.bytes ≡ 0 = omega (arith, c.pieces.invariant.wants, c.pieces-test.false) in
    subst (λ (early : Bool). Ended g.W.Wire.hears c.args.wire.now c.args.hearing.now c.take-2.result c.pieces.wire c.take-2.new.self early) (sym c.pieces.invariant.soon)
    (far_over g.W.Wire.hears c.args.wire.now c.pieces.wire c.args.hearing.now c.pieces.hearing c.take-2.new.self c.take-2.result c.pieces.invariant.so
    c.take-2.ensures.answer c.take-2.ensures.exact c.take-2.ensures.kept
    (none_missing c.pieces.hearing.request c.pieces.hearing.bytes (answer_of c.pieces.hearing) refl none))

pub pieces-preserved : goal.pieces-preserved
pieces-preserved g c =
    let came : ℕ = c.in-Bytes.came in
    let given : List ℕ = c.split_at.result.0.now in
    let front = c.split_at_mut-part.ensures.front_len in
    let count : FitsRoom (Bytes came) (length c.split_at_mut-part.result.0.now) =
    subst (λ (came : Came). FitsRoom came (length c.split_at_mut-part.result.0.now)) c.in-Bytes.is c.in_ok-came.ensures.fits in
    let same : length c.hear.new.room ≡ length c.split_at_mut-part.result.0.now = c.hear.auto.room in
    let is : take came c.hear.new.room ≡ given =
    sym (c.split_at.ensures.front ∙ take-append-le came c.hear.new.room c.split_at_mut-part.result.1.now (omega (arith, count.1, same))) in
    let step : g.W.Wire.hears c.pieces.wire (piece (take came c.hear.new.room)) c.hear.new.self =
    subst (λ (came : Came). g.W.Wire.hears c.pieces.wire (sound_of came c.hear.new.room) c.hear.new.self) c.in-Bytes.is c.in_ok-came.ensures.step in
    let less : Wanes (Bytes came) (g.W.Wire.waits_left c.pieces.wire) (g.W.Wire.waits_left c.hear.new.self) =
    subst (λ (came : Came). Wanes came (g.W.Wire.waits_left c.pieces.wire) (g.W.Wire.waits_left c.hear.new.self)) c.in-Bytes.is c.in_ok-came.ensures.fewer in
    record {
      wants = c.wanted-count-in-pieces.ensures.wanted;
      fits = c.wanted-count-in-pieces.ensures.fits;
      well = c.in_ok-came.ensures.well ∙ c.pieces.invariant.well;
      left = omega (arith, less, c.pieces.invariant.left);
      soon = c.pieces.invariant.soon;
      so = far_more g.W.Wire.hears c.args.wire.now c.pieces.wire c.hear.new.self c.args.hearing.now c.pieces.hearing c.append.new.self given c.pieces.invariant.so
          (omega (arith, c.split_at.ensures.front_len, count.0)) (subst (λ (xs : List ℕ). g.W.Wire.hears c.pieces.wire (piece xs) c.hear.new.self) is step) c.append.ensures;
    }
