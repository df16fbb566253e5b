use Rattle.std.proofs.Common.{◌≡◌, ℕ, Some, arith, refl, ◌∙◌, subst}
use Rattle.std.specs.Prelude.{IsTrue, slice_get}
use borrow.Author.Count.{below_more}
use Rattle.dc_readout.specs.Meter.{Meter}
use Rattle.dc_readout.specs.Regular.{IsFitting, StandsApart}
use Rattle.dc_readout.proofs.Lists.{there, get_there}
use Rattle.dc_readout.proofs.Regulars.{all_regular, regular_fits, regular_apart}
use Rattle.dc_readout.proofs.world.script.are_regular.Goals as goal

pub returns-then-not-is_fitting : goal.returns-then-not-is_fitting
returns-then-not-is_fitting g c =
    let at = there c.args.scripts.now c.loop-meter.meter c.index-scripts-meter.result c.loop-meter-test.true c.index-scripts-meter.is in
    (λ is. absurd cc, λ regular. subst IsTrue c.if-not-is_fitting.true (c.is_fitting.ensures.1 (regular_fits c.args.scripts.now regular c.loop-meter.meter c.index-scripts-meter.result at)))

pub returns-then-not-stands_apart : goal.returns-then-not-stands_apart
returns-then-not-stands_apart g c =
    (λ is. absurd cc, λ regular. subst IsTrue c.if-not-stands_apart.true (c.stands_apart.ensures.1 (regular_apart c.args.scripts.now regular c.loop-meter.meter)))

pub loop-meter-preserved : goal.loop-meter-preserved
loop-meter-preserved g c =
    let scripts = c.args.scripts.now in
    let k = c.loop-meter.meter in
    below_more (λ (i : ℕ). (one : Meter) → slice_get scripts i ≡ Some one → IsFitting one × StandsApart scripts i) k c.loop-meter.invariant
    (λ one at. (
      subst IsFitting (c.index-scripts-meter.is ∙ get_there scripts k c.index-scripts-meter.result one at) (c.is_fitting.ensures.0 c.if-not-is_fitting.false),
      c.stands_apart.ensures.0 c.if-not-stands_apart.false,
    ))

pub returns : goal.returns
returns g c =
    (λ is. all_regular c.args.scripts.now (λ i one within at. c.loop-meter.invariant i (omega (arith, within, c.loop-meter-test.false)) one at), λ regular. refl)
