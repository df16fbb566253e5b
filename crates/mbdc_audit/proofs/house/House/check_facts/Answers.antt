use Rattle.std.proofs.Common.{◌<◌, length, sym, ◌∙◌, arith}
use Rattle.std.specs.Prelude.{All, IsSome}
use Rattle.std.proofs.lemmas.List.{length-map}
use Rattle.std.proofs.lemmas.List.Elements.{All-append}
use Rattle.std.proofs.lemmas.Result.{IfOk-weaker}
use Rattle.std.proofs.lemmas.Grind.{common_steps}
use Rattle.mbdc_audit.specs.declared.house.Fact.{Fact}
use Rattle.mbdc_audit.specs.Published.{Has, declared, of_factor, of_word}
use Rattle.mbdc_audit.specs.View.{house_of, key_of, span_of}
use Rattle.mbdc_audit.proofs.Classes.{at_any, if_err_weaker}
use Rattle.mbdc_audit.proofs.Tests.{all_left, all_right, below_there}
use Rattle.mbdc_audit.proofs.house.House.check_facts.Goals as goal

pub returns-in_err-check_factor-clause-err : goal.returns-in_err-check_factor-clause-err
returns-in_err-check_factor-clause-err g c =
    let h = house_of c.args.self.now in
    let k = key_of c.args.number.now in
    at_any c.from_residual-in_err-check_factor.result (Has h k c.args.span → ⊥)
    (λ has. c.in_err-check_factor.ensures.err
    (all_left (λ (f : Fact). IsSome (declared h f c.args.span)) (of_factor h k.used k.unit) (of_word k.word k) has.facts))

pub returns-clause-ok : goal.returns-clause-ok
returns-clause-ok g c =
    let h = house_of c.args.self.now in
    let k = key_of c.args.number.now in
    let v = c.args.self.now.spans in
    let there : c.args.span < length h.spans = below_there c.args.span c.len.result (length h.spans) c.in_ok-only_if.ensures.ok
    (c.len.ensures ∙ (v.ok.0 ∙ sym (length-map v.items span_of))) in
    IfOk-weaker c.check_fact.result (λ u. All (λ (f : Fact). IsSome (declared h f c.args.span)) (of_word k.word k)) (λ u. Has h k c.args.span)
    (λ u facts. record {
      there = there;
      facts = All-append (λ (f : Fact). IsSome (declared h f c.args.span)) (of_factor h k.used k.unit) (of_word k.word k) c.in_ok-check_factor.ensures.ok facts;
    }) c.check_fact.ensures.ok

pub returns-clause-err : goal.returns-clause-err
returns-clause-err g c =
    let h = house_of c.args.self.now in
    let k = key_of c.args.number.now in
    if_err_weaker c.check_fact.result (All (λ (f : Fact). IsSome (declared h f c.args.span)) (of_word k.word k) → ⊥) (Has h k c.args.span → ⊥)
    (λ none has. none (all_right (λ (f : Fact). IsSome (declared h f c.args.span)) (of_factor h k.used k.unit) (of_word k.word k) has.facts)) c.check_fact.ensures.err

pub returns-in_err-only_if-clause-ok : goal.returns-in_err-only_if-clause-ok
returns-in_err-only_if-clause-ok g c = grind (arith, common_steps)

pub returns-in_err-only_if-clause-err : goal.returns-in_err-only_if-clause-err
returns-in_err-only_if-clause-err g c = grind (arith, common_steps)

pub returns-in_err-check_factor-clause-ok : goal.returns-in_err-check_factor-clause-ok
returns-in_err-check_factor-clause-ok g c = grind (arith, common_steps)
