use Rattle.std.proofs.Common.{◌≡◌, ℕ, true, List, Option, IfSome, IfNone, refl, sym, ◌∙◌, subst}
use Rattle.mbdc_raw.specs.Heard.{Answers, Waits, ends_early}
use Rattle.mbdc_raw.specs.Line.{a_copy, no_copy, one_answer, two_copies}
use Rattle.mbdc_raw.proofs.Calls.{gives_one_of}
use Rattle.mbdc_raw.proofs.line.Line.take_one.Goals as goal

pub returns-in-None-clause-waits : goal.returns-in-None-clause-waits
returns-in-None-clause-waits g c = record {
  between = c.args.self.now;
  skips = no_copy refl;
  waits = subst (λ (heard : Option (List ℕ)). IfNone heard (Waits g.W.Wire.hears c.args.self.now.wire c.args.self.now.hearing c.hear.new.wire c.hear.new.hearing)) c.in-None.is c.in_ok-heard.ensures.waits;
  kept = refl;
}

pub returns-then-not-is_copy-clause-gives : goal.returns-then-not-is_copy-clause-gives
returns-then-not-is_copy-clause-gives g c =
    one_answer (gives_one_of g.W.Wire c.hear.new.early c.args.self.now c.args.self.now c.in-Some.first c.hear.new.wire c.hear.new.hearing c.judge.new.self (no_copy refl)
    (subst (λ (heard : Option (List ℕ)). IfSome heard (λ answer. (is : Answers g.W.Wire.hears c.args.self.now.wire c.args.self.now.hearing answer c.hear.new.wire c.hear.new.hearing) × (c.hear.new.early ≡ ends_early is.end))) c.in-Some.is c.in_ok-heard.ensures.heard)
    (sym c.is_copy.ensures ∙ c.if-not-is_copy.true) c.judge.ensures)

pub returns-in-None-then-clause-waits : goal.returns-in-None-then-clause-waits
returns-in-None-then-clause-waits g c = record {
  between = record c.args.self.now { wire = c.hear.new.wire; hearing = c.hear.new.hearing; copied = true };
  skips = a_copy c.in-Some.first
      (subst (λ (heard : Option (List ℕ)). IfSome heard (λ answer. (is : Answers g.W.Wire.hears c.args.self.now.wire c.args.self.now.hearing answer c.hear.new.wire c.hear.new.hearing) × (c.hear.new.early ≡ ends_early is.end))) c.in-Some.is c.in_ok-heard.ensures.heard).0
      (sym c.is_copy.ensures ∙ c.if-not-is_copy.false) refl;
  waits = subst (λ (heard : Option (List ℕ)). IfNone heard (Waits g.W.Wire.hears c.hear.new.wire c.hear.new.hearing c.hear-2.new.wire c.hear-2.new.hearing)) c.in-None-then.is c.in_ok-then.ensures.waits;
  kept = refl;
}

pub returns-then-is_copy-clause-gives : goal.returns-then-is_copy-clause-gives
returns-then-is_copy-clause-gives g c = two_copies c.new.ensures (record {
  between = record c.args.self.now { wire = c.hear.new.wire; hearing = c.hear.new.hearing; copied = true };
  skips = a_copy c.in-Some.first
      (subst (λ (heard : Option (List ℕ)). IfSome heard (λ answer. (is : Answers g.W.Wire.hears c.args.self.now.wire c.args.self.now.hearing answer c.hear.new.wire c.hear.new.hearing) × (c.hear.new.early ≡ ends_early is.end))) c.in-Some.is c.in_ok-heard.ensures.heard).0
      (sym c.is_copy.ensures ∙ c.if-not-is_copy.false) refl;
  copy = c.in-Some-then.answer;
  heard = (subst (λ (heard : Option (List ℕ)). IfSome heard (λ answer. (is : Answers g.W.Wire.hears c.hear.new.wire c.hear.new.hearing answer c.hear-2.new.wire c.hear-2.new.hearing) × (c.hear-2.new.early ≡ ends_early is.end))) c.in-Some-then.is c.in_ok-then.ensures.heard).0;
  again = sym c.is_copy-2.ensures ∙ c.if-is_copy.true;
  kept = refl;
})

pub returns-clause-gives : goal.returns-clause-gives
returns-clause-gives g c =
    one_answer (gives_one_of g.W.Wire c.hear-2.new.early c.args.self.now (record c.args.self.now { wire = c.hear.new.wire; hearing = c.hear.new.hearing; copied = true }) c.in-Some-then.answer c.hear-2.new.wire c.hear-2.new.hearing c.judge-2.new.self
    (a_copy c.in-Some.first
    (subst (λ (heard : Option (List ℕ)). IfSome heard (λ answer. (is : Answers g.W.Wire.hears c.args.self.now.wire c.args.self.now.hearing answer c.hear.new.wire c.hear.new.hearing) × (c.hear.new.early ≡ ends_early is.end))) c.in-Some.is c.in_ok-heard.ensures.heard).0
    (sym c.is_copy.ensures ∙ c.if-not-is_copy.false) refl)
    (subst (λ (heard : Option (List ℕ)). IfSome heard (λ answer. (is : Answers g.W.Wire.hears c.hear.new.wire c.hear.new.hearing answer c.hear-2.new.wire c.hear-2.new.hearing) × (c.hear-2.new.early ≡ ends_early is.end))) c.in-Some-then.is c.in_ok-then.ensures.heard)
    (sym c.is_copy-2.ensures ∙ c.if-is_copy.false) c.judge-2.ensures)
