use Rattle.std.proofs.Common.{◌≡◌, ℕ, true, Some, arith, refl, sym, ◌∙◌, ap}
use Rattle.std.specs.Prelude.{slice_get}
use Rattle.std.proofs.lemmas.Bool.{false≢true}
use Rattle.std.proofs.lemmas.Option.{slice_get_within}
use borrow.Author.Count.{below_more}
use Rattle.dc_readout.specs.Meter.{Meter}
use Rattle.dc_readout.specs.Regular.{clashes}
use Rattle.dc_readout.proofs.Lists.{get_there}
use Rattle.dc_readout.proofs.world.script.stands_apart.Goals as goal
use Rattle.dc_readout.proofs.world.script.stands_apart.Goals.{else-other-meter-via-then-other-meter+else-clashes, else-other-meter-via-else-other-meter}

pub loop-other-preserved : goal.loop-other-preserved
loop-other-preserved g c =
    let scripts = c.args.scripts.now in
    let i = c.args.meter in
    let k = c.loop-other.other in
    below_more (λ (k : ℕ). (one other : Meter) → slice_get scripts i ≡ Some one → slice_get scripts k ≡ Some other → clashes one other ≡ true → i ≡ k) k c.loop-other.invariant
    (elim c.else-other-meter.branch [
      | else-other-meter-via-then-other-meter+else-clashes w ↦ λ one other at at' e.
          let a = w.index-scripts-meter.is ∙ get_there scripts i w.index-scripts-meter.result one at in
          let b = w.index-scripts-other.is ∙ get_there scripts k w.index-scripts-other.result other at' in
          absurd (false≢true (sym w.if-clashes.false ∙ w.clashes.ensures ∙ ap (λ x. clashes x w.index-scripts-other.result) a ∙ ap (clashes one) b ∙ e))
      | else-other-meter-via-else-other-meter w ↦ λ one other at at' e. sym w.if-other-meter.false
    ])

pub returns : goal.returns
returns g c = (
  λ is j one other at at' e. let inside = slice_get_within c.args.scripts.now j other at' in
      c.loop-other.invariant j (omega (arith, inside, c.loop-other-test.false)) one other at at' e,
  λ apart. refl,
)
