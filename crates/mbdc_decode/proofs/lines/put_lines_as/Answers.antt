use Rattle.std.proofs.Common.{◌≡◌, ℕ, ◌+◌, List, [], eqb-true, ap, sym, ◌∙◌, arith}
use Rattle.std.specs.Prelude.{◌||◌, Bool, false}
use Rattle.mbdc_io.specs.Lines.{lines_of}
use Rattle.mbdc_io.proofs.Bools.{or_false}
use Rattle.mbdc_decode.specs.Text.{has_fault, any_bad_line}
use Rattle.mbdc_decode.specs.Form.{line_as, lines_as}
use Rattle.mbdc_decode.proofs.Faults.{one_line_fault_more}
use Rattle.mbdc_decode.proofs.Forms.{no_lines_as, first_lines_as}
use Rattle.mbdc_decode.proofs.Inputs.{no_line, no_bad_line}
use Rattle.mbdc_decode.proofs.Prefixes.{front_of_all, rest_of_all, all_went}
use Rattle.mbdc_decode.proofs.lines.put_lines_as.Goals as goal

pub returns-in_err-bad-clause-wrote : goal.returns-in_err-bad-clause-wrote
returns-in_err-bad-clause-wrote g c defined =
    let form = g.F.LineForm in
    let n : ℕ = c.lines.number in
    let line : List ℕ = c.first_line.result.0.now in
    let others : List ℕ = c.first_line.result.1.now in
    let is = ap (lines_as form n) c.first_line.ensures.lines ∙ first_lines_as form n line (lines_of others) in
    let ok = c.lines.invariant.ok defined in
    let front =
    front_of_all _ _ _ (line_as form n line) (lines_as form (n + 1) (lines_of others)) _ _ is (c.lines.invariant.text defined) (c.in_err-bad.ensures.wrote defined).2 in
    let risen = (c.in_err-bad.ensures.wrote defined).3 in
    grind arith

pub lines-preserved : goal.lines-preserved
lines-preserved g c =
    let form = g.F.LineForm in
    let n : ℕ = c.lines.number in
    let line : List ℕ = c.first_line.result.0.now in
    let others : List ℕ = c.first_line.result.1.now in
    let is = ap (lines_as form n) c.first_line.ensures.lines ∙ first_lines_as form n line (lines_of others) in
    record {
      digits = omega arith;
      bytes = omega arith;
      number = omega (arith, c.first_line.ensures.shorter, c.lines.invariant.number);
      text = λ defined. rest_of_all _ _ _ (line_as form n line) (lines_as form (n + 1) (lines_of others)) _ _ is (c.lines.invariant.text defined) (c.in_ok-bad.ensures.wrote defined).0;
      fault =
          one_line_fault_more c.lines.any c.in_ok-bad.bad (lines_of c.args.input.now) (lines_of c.lines.left.now) (lines_of others) line c.lines.invariant.fault c.first_line.ensures.lines
          c.in_ok-bad.ensures.fault;
      ok = λ defined. (c.in_ok-bad.ensures.wrote defined).1 ∙ c.lines.invariant.ok defined;
    }

pub returns-clause-wrote : goal.returns-clause-wrote
returns-clause-wrote g c defined =
    let form = g.F.LineForm in
    let none : lines_of c.lines.left.now ≡ [] = no_line c.lines.left.now (eqb-true _ _ (sym c.lines-test.ensures)) in
    (all_went _ _ _ _ (ap (lines_as form c.lines.number) none ∙ no_lines_as form c.lines.number) (c.lines.invariant.text defined), c.lines.invariant.ok defined, tt, tt)

pub returns-clause-fault : goal.returns-clause-fault
returns-clause-fault g c =
    let none : has_fault c.lines.left.now ≡ false = ap any_bad_line (no_line c.lines.left.now (eqb-true _ _ (sym c.lines-test.ensures))) ∙ no_bad_line in
    sym (or_false c.lines.any) ∙ ap (λ (b : Bool). c.lines.any || b) (sym none) ∙ c.lines.invariant.fault
