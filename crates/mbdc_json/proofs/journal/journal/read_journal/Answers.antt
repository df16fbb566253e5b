use Rattle.std.proofs.Common.{◌≡◌, ◌∙◌, List, ℕ, [], None, Some, Option, ap, eqb-true, refl, subst, sym}
use Rattle.json.specs.Json.{document}
use Rattle.mbdc_io.specs.Lines.{lines_of}
use Rattle.mbdc_json.specs.Entry.{IsLine}
use Rattle.mbdc_json.specs.Journal.{Adds, IsKept, bodies_after, entry_in, sent_in}
use Rattle.mbdc_json.proofs.Adding.{line_and_lines, no_line, no_lines}
use Rattle.mbdc_json.proofs.journal.journal.read_journal.Goals as goal

pub lines-preserved-in_ok-take_line-in-Some : goal.lines-preserved-in_ok-take_line-in-Some
lines-preserved-in_ok-take_line-in-Some g c =
    let line : List ℕ = c.first_line.result.0.now in
    let entry = c.in-Some.line.entry in
    let is : IsLine line (Some entry) = subst (IsLine line) (ap entry_in c.in-Some.is) c.in_ok-line.ensures.line in
    let kept = subst (IsKept (document line)) c.in-Some.is c.in_ok-line.ensures.kept in
    record {
      adds = λ new more.
          c.lines.invariant.adds new (subst (λ (lines : List (List ℕ)). Adds c.args.now lines c.lines.journal new) (sym c.first_line.ensures.lines)
          (line_and_lines c.args.now line _ c.lines.journal c.take_line.new.self new (Some entry) is c.in_ok-take_line-in-Some.ensures.noted
          (λ meter. c.in_ok-take_line-in-Some.ensures.kept meter ∙ ap (λ (bodies : Option (List (List ℕ))). bodies_after c.args.now meter entry bodies (sent_in c.lines.journal.sent meter)) kept) more));
      there = c.in_ok-take_line-in-Some.ensures.there ∙ c.lines.invariant.there;
    }

pub lines-preserved : goal.lines-preserved
lines-preserved g c =
    let line : List ℕ = c.first_line.result.0.now in
    let is : IsLine line None = subst (IsLine line) (ap entry_in c.in-None.is) c.in_ok-line.ensures.line in
    record {
      adds = λ new more.
          c.lines.invariant.adds new (subst (λ (lines : List (List ℕ)). Adds c.args.now lines c.lines.journal new) (sym c.first_line.ensures.lines)
          (line_and_lines c.args.now line _ c.lines.journal c.lines.journal new None is (λ meter. refl) (λ meter. refl) more));
      there = c.lines.invariant.there;
    }

pub returns : goal.returns
returns g c =
    let none : lines_of c.lines.rest.now ≡ [] = no_line c.lines.rest.now (eqb-true _ _ (sym c.lines-test.ensures)) in
    record {
      there = c.lines.invariant.there;
      adds = c.lines.invariant.adds c.lines.journal
          (subst (λ (lines : List (List ℕ)). Adds c.args.now lines c.lines.journal c.lines.journal) (sym none) (no_lines c.args.now c.lines.journal));
    }
