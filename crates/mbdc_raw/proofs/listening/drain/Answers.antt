use Rattle.std.proofs.Common.{◌≡◌, ℕ, ◌+◌, length, take, refl, sym, ◌∙◌, subst, arith}
use Rattle.mbdc_raw.specs.Heard.{not_yet, at_gap, at_silence, when_late}
use Rattle.mbdc_raw.specs.Wire.{FitsRoom, Wanes, sound_of, piece, nothing, gap, overdue, silence}
use Rattle.mbdc_raw.specs.declared.state.State.{State}
use Rattle.mbdc_raw.specs.declared.state.State.TheVariants.{Busy}
use Rattle.mbdc_raw.specs.declared.wire.Came.{Came}
use Rattle.mbdc_raw.specs.declared.wire.Came.TheVariants.{Bytes}
use Rattle.mbdc_raw.proofs.Drops.{Dropped, came_some, drained, drained_most, dropped_more, dropped_none}
use Rattle.mbdc_raw.proofs.listening.drain.Goals as goal

pub drops-init : goal.drops-init
drops-init g c = record {
  few = omega arith;
  well = refl;
  left = omega arith;
  so = dropped_none g.W.Wire.hears c.args.wire.now c.args.state.now c.args.late.now;
}

pub returns-in-Nothing-clause-drained : goal.returns-in-Nothing-clause-drained
returns-in-Nothing-clause-drained g c =
    drained g.W.Wire.hears c.args.wire.now c.drops.wire c.hear.new.self c.args.state.now c.drops.state c.args.late.now c.drops.late c.drops.count nothing c.drops.invariant.so
    (subst (λ (came : Came). g.W.Wire.hears c.drops.wire (sound_of came c.hear.new.room) c.hear.new.self) c.in-Nothing.is c.in_ok-_came.ensures.step) (λ bursts. not_yet)

pub returns-in-Gap-clause-drained : goal.returns-in-Gap-clause-drained
returns-in-Gap-clause-drained g c =
    drained g.W.Wire.hears c.args.wire.now c.drops.wire c.hear.new.self c.args.state.now c.drops.state c.args.late.now c.drops.late c.drops.count gap c.drops.invariant.so
    (subst (λ (came : Came). g.W.Wire.hears c.drops.wire (sound_of came c.hear.new.room) c.hear.new.self) c.in-Gap.is c.in_ok-_came.ensures.step) (λ bursts. at_gap)

pub returns-in-Overdue-clause-drained : goal.returns-in-Overdue-clause-drained
returns-in-Overdue-clause-drained g c =
    drained g.W.Wire.hears c.args.wire.now c.drops.wire c.hear.new.self c.args.state.now c.drops.state c.args.late.now c.drops.late c.drops.count overdue c.drops.invariant.so
    (subst (λ (came : Came). g.W.Wire.hears c.drops.wire (sound_of came c.hear.new.room) c.hear.new.self) c.in-Overdue.is c.in_ok-_came.ensures.step) (λ bursts. when_late)

pub returns-in-Silence-clause-drained : goal.returns-in-Silence-clause-drained
returns-in-Silence-clause-drained g c =
    drained g.W.Wire.hears c.args.wire.now c.drops.wire c.hear.new.self c.args.state.now c.drops.state c.args.late.now c.drops.late c.drops.count silence c.drops.invariant.so
    (subst (λ (came : Came). g.W.Wire.hears c.drops.wire (sound_of came c.hear.new.room) c.hear.new.self) c.in-Silence.is c.in_ok-_came.ensures.step) (λ bursts. at_silence)

pub returns-clause-drained : goal.returns-clause-drained
returns-clause-drained g c =
    drained_most g.W.Wire.hears c.args.wire.now c.drops.wire c.args.state.now c.drops.state c.args.late.now c.drops.late c.drops.count c.drops.invariant.so (omega (arith, c.drops.invariant.few, c.drops-test.false))

pub drops-preserved : goal.drops-preserved
drops-preserved g c =
    let count : ℕ = c.in-Bytes._came in
    let fits : FitsRoom (Bytes count) (length c.drops.room) = subst (λ (came : Came). FitsRoom came (length c.drops.room)) c.in-Bytes.is c.in_ok-_came.ensures.fits in
    let same : length c.hear.new.room ≡ length c.drops.room = c.hear.auto.room in
    let step : g.W.Wire.hears c.drops.wire (piece (take count c.hear.new.room)) c.hear.new.self =
    subst (λ (came : Came). g.W.Wire.hears c.drops.wire (sound_of came c.hear.new.room) c.hear.new.self) c.in-Bytes.is c.in_ok-_came.ensures.step in
    let less : Wanes (Bytes count) (g.W.Wire.waits_left c.drops.wire) (g.W.Wire.waits_left c.hear.new.self) =
    subst (λ (came : Came). Wanes came (g.W.Wire.waits_left c.drops.wire) (g.W.Wire.waits_left c.hear.new.self)) c.in-Bytes.is c.in_ok-_came.ensures.fewer in
    let more = dropped_more g.W.Wire.hears c.args.wire.now c.drops.wire c.hear.new.self c.args.state.now c.drops.state c.args.late.now c.drops.late c.drops.count (take count c.hear.new.room) c.drops.invariant.so
    (came_some count c.hear.new.room fits.0 (omega (arith, fits.1, same))) step in
    record {
      few = omega (arith, c.drops-test.true);
      well = c.in_ok-_came.ensures.well ∙ c.drops.invariant.well;
      left = omega (arith, less, c.drops.invariant.left);
      so = subst (λ (s : State). Dropped g.W.Wire.hears c.args.wire.now c.args.state.now c.args.late.now (c.drops.count + 1) c.hear.new.self s c.hear_late.new.late) (sym c.hear_late.ensures.state)
          (subst (λ (n : ℕ). Dropped g.W.Wire.hears c.args.wire.now c.args.state.now c.args.late.now (c.drops.count + 1) c.hear.new.self Busy n) (sym c.hear_late.ensures.late) more);
    }
