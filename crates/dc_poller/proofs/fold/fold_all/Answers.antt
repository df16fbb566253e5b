use Rattle.std.proofs.Common.{arith, ◌≡◌, Bool, List, ℕ, [], false, eqb-true, sym, subst}
use Rattle.std.specs.Prelude.{◌||◌}
use Rattle.dc_poller.specs.Fold.{AreSteps}
use Rattle.mbdc_io.specs.Lines.{lines_of}
use Rattle.mbdc_decode.proofs.Inputs.{no_line}
use Rattle.mbdc_io.proofs.Bools.{or_assoc, or_false}
use Rattle.dc_poller.proofs.Steps.{no_steps, step_and_steps}
use Rattle.dc_poller.proofs.fold.fold_all.Goals as goal

pub lines-preserved : goal.lines-preserved
lines-preserved g c = record {
  bytes = omega arith;
  steps = λ found house text steps.
      let all = step_and_steps _ _ _ found _ _ house _ _ text c.in_ok-unread.ensures steps in
      let before = c.lines.invariant.steps (c.in_ok-unread.unread || found) house text (subst (λ (lines : List (List ℕ)). AreSteps lines (c.in_ok-unread.unread || found) c.lines.house house c.lines.text.bytes text) (sym c.first_line.ensures.lines) all) in
      subst (λ (b : Bool). AreSteps (lines_of c.args.input.now) b c.args.house.now house c.args.text.now.bytes text) (sym (or_assoc c.lines.found c.in_ok-unread.unread found)) before;
}

pub returns : goal.returns
returns g c =
    let none : lines_of c.lines.rest.now ≡ [] = no_line c.lines.rest.now (eqb-true _ _ (sym c.lines-test.ensures)) in
    let all = c.lines.invariant.steps false c.lines.house c.lines.text.bytes
    (subst (λ (lines : List (List ℕ)). AreSteps lines false c.lines.house c.lines.house c.lines.text.bytes c.lines.text.bytes) (sym none) (no_steps c.lines.house c.lines.text.bytes)) in
    subst (λ (b : Bool). AreSteps (lines_of c.args.input.now) b c.args.house.now c.lines.house c.args.text.now.bytes c.lines.text.bytes) (or_false c.lines.found) all
