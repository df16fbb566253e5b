use Rattle.std.proofs.Common.{◌≡◌, ◌<◌, ◌≤◌, ℕ, List, length, Some, arith, refl, ◌∙◌, subst}
use Rattle.std.specs.Prelude.{slice_get}
use Rattle.std.proofs.lemmas.Option.{slice_get_within}
use borrow.Author.Count.{below_more}
use Rattle.dc_linkframe.specs.Frame.{longest_body}
use Rattle.dc_readout.proofs.Lists.{there, get_there}
use Rattle.dc_readout.proofs.world.script.are_short.Goals as goal

pub returns-then-at-gt-MAX_BODY : goal.returns-then-at-gt-MAX_BODY
returns-then-at-gt-MAX_BODY g c =
    let within : c.loop-place.place < length c.args.bodies.now = omega (arith, c.loop-place-test.true, c.len-place-end.ensures) in
    let at = there c.args.bodies.now c.loop-place.place c.at.result.now within c.at.ensures in
    (λ is. absurd cc, λ fits. let short = fits c.loop-place.place c.at.result.now at in absurd (omega (arith, short, c.if-at-gt-MAX_BODY.true)))

pub loop-place-preserved : goal.loop-place-preserved
loop-place-preserved g c =
    below_more (λ (k : ℕ). (body : List ℕ) → slice_get c.args.bodies.now k ≡ Some body → length body ≤ longest_body) c.loop-place.place c.loop-place.invariant
    (λ body at. subst (λ (b : List ℕ). length b ≤ longest_body) (c.at.ensures ∙ get_there c.args.bodies.now c.loop-place.place c.at.result.now body at) c.if-at-gt-MAX_BODY.false)

pub returns : goal.returns
returns g c = (
  λ is j body at. let inside = slice_get_within c.args.bodies.now j body at in
      c.loop-place.invariant j (omega (arith, inside, c.loop-place-test.false, c.len-place-end.ensures)) body at,
  λ fits. refl,
)
