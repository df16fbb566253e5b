use Rattle.std.proofs.Common.{◌≡◌, ℕ, Some, None, true, length, take, refl, ◌∙◌, subst, arith, ap, ◌++◌, List}
use Rattle.mbdc_bus.specs.Limits.{most_answer}
use Rattle.mbdc_raw.specs.Heard.{may_go_on, goes_on, is_quiet, may_be_late}
use Rattle.mbdc_raw.specs.Wire.{FitsRoom, Wanes, sound_of, piece, nothing, gap, overdue, silence}
use Rattle.mbdc_raw.specs.declared.wire.Came.{Came}
use Rattle.mbdc_raw.specs.declared.wire.Came.TheVariants.{Bytes}
use Rattle.mbdc_raw.proofs.Drops.{came_some, gathered_none, gathered_one, gathers, gathers_most}
use Rattle.mbdc_raw.proofs.listening.gather.Goals as goal

pub pieces-init : goal.pieces-init
pieces-init g c = record {
  few = omega arith;
  well = refl;
  left = omega arith;
  so = gathered_none g.W.Wire.hears c.args.wire.now c.args.all.now;
}

pub returns-in-Nothing-clause-gathered : goal.returns-in-Nothing-clause-gathered
returns-in-Nothing-clause-gathered g c =
    gathers g.W.Wire.hears c.args.wire.now c.pieces.wire c.hear.new.self c.args.all.now c.pieces.all c.pieces.count nothing None c.pieces.invariant.so
    (subst (λ (came : Came). g.W.Wire.hears c.pieces.wire (sound_of came c.hear.new.room) c.hear.new.self) c.in-Nothing.is c.in_ok-came.ensures.step) (λ bursts. may_go_on)

pub returns-in-Gap-clause-gathered : goal.returns-in-Gap-clause-gathered
returns-in-Gap-clause-gathered g c =
    gathers g.W.Wire.hears c.args.wire.now c.pieces.wire c.hear.new.self c.args.all.now c.pieces.all c.pieces.count gap None c.pieces.invariant.so
    (subst (λ (came : Came). g.W.Wire.hears c.pieces.wire (sound_of came c.hear.new.room) c.hear.new.self) c.in-Gap.is c.in_ok-came.ensures.step) (λ bursts. goes_on)

pub returns-in-Overdue-clause-gathered : goal.returns-in-Overdue-clause-gathered
returns-in-Overdue-clause-gathered g c =
    gathers g.W.Wire.hears c.args.wire.now c.pieces.wire c.hear.new.self c.args.all.now c.pieces.all c.pieces.count overdue None c.pieces.invariant.so
    (subst (λ (came : Came). g.W.Wire.hears c.pieces.wire (sound_of came c.hear.new.room) c.hear.new.self) c.in-Overdue.is c.in_ok-came.ensures.step) (λ bursts. may_be_late)

pub returns-in-Silence-clause-gathered : goal.returns-in-Silence-clause-gathered
returns-in-Silence-clause-gathered g c =
    gathers g.W.Wire.hears c.args.wire.now c.pieces.wire c.hear.new.self c.args.all.now c.pieces.all c.pieces.count silence (Some true) c.pieces.invariant.so
    (subst (λ (came : Came). g.W.Wire.hears c.pieces.wire (sound_of came c.hear.new.room) c.hear.new.self) c.in-Silence.is c.in_ok-came.ensures.step) (λ bursts. is_quiet)

pub returns-clause-gathered : goal.returns-clause-gathered
returns-clause-gathered g c =
    gathers_most g.W.Wire.hears c.args.wire.now c.pieces.wire c.args.all.now c.pieces.all c.pieces.count c.pieces.invariant.so (omega (arith, c.pieces.invariant.few, c.pieces-test.false))

pub pieces-preserved : goal.pieces-preserved
pieces-preserved g c =
    let count : ℕ = c.in-Bytes.came in
    let fits : FitsRoom (Bytes count) (length c.pieces.room) = subst (λ (came : Came). FitsRoom came (length c.pieces.room)) c.in-Bytes.is c.in_ok-came.ensures.fits in
    let same : length c.hear.new.room ≡ length c.pieces.room = c.hear.auto.room in
    let step : g.W.Wire.hears c.pieces.wire (piece (take count c.hear.new.room)) c.hear.new.self =
    subst (λ (came : Came). g.W.Wire.hears c.pieces.wire (sound_of came c.hear.new.room) c.hear.new.self) c.in-Bytes.is c.in_ok-came.ensures.step in
    let less : Wanes (Bytes count) (g.W.Wire.waits_left c.pieces.wire) (g.W.Wire.waits_left c.hear.new.self) =
    subst (λ (came : Came). Wanes came (g.W.Wire.waits_left c.pieces.wire) (g.W.Wire.waits_left c.hear.new.self)) c.in-Bytes.is c.in_ok-came.ensures.fewer in
    record {
      few = omega (arith, c.pieces-test.true);
      well = c.in_ok-came.ensures.well ∙ c.pieces.invariant.well;
      left = omega (arith, less, c.pieces.invariant.left);
      so = gathered_one g.W.Wire.hears c.args.wire.now c.pieces.wire c.hear.new.self c.args.all.now c.pieces.all c.append.new.self c.pieces.count (take count c.hear.new.room) c.pieces.invariant.so
          (came_some count c.hear.new.room fits.0 (omega (arith, fits.1, same))) step
          (c.append.ensures ∙ ap (λ (xs : List ℕ). take most_answer (c.pieces.all ++ xs)) c.split_at.ensures.front);
    }
