use Rattle.std.proofs.Common.{◌≡◌, ◌<◌, ◌++◌, ◌∷◌, [], ℕ, List, length, map, None, Some, sym, ap, subst, ◌∙◌, arith}
use Rattle.std.proofs.lemmas.List.{length-map, map_push}
use Rattle.std.proofs.lemmas.Grind.{common_steps}
use Rattle.mbdc_audit.specs.House.{Use}
use Rattle.mbdc_audit.specs.Reader.{AddsNothing}
use Rattle.mbdc_audit.specs.File.{Adds, first_named}
use Rattle.mbdc_audit.specs.Uses.{counted_named}
use Rattle.mbdc_audit.specs.View.{house_of, use_of}
use Rattle.mbdc_audit.proofs.Added.{adds_use}
use Rattle.mbdc_audit.proofs.Classes.{at_fault, if_is_err, if_is_ok, no_use}
use Rattle.mbdc_audit.proofs.Tests.{below_by}
use Rattle.mbdc_audit.proofs.Named.{named_twice}
use Rattle.mbdc_audit.proofs.house.House.add_use.Goals as goal

pub returns-in_err-only_if-clause-err : goal.returns-in_err-only_if-clause-err
returns-in_err-only_if-clause-err g c =
    let h = house_of c.args.self.now in
    let t = c.field-name.result.now in
    let found = if_is_ok c.use_named.result (λ (n : ℕ). first_named h t ≡ Some n) (sym c.is_err.ensures.value ∙ c.in_err-only_if.ensures.err.0) c.use_named.ensures.ok in
    at_fault c.from_residual.result (AddsNothing h c.args.line.now) (no_use h c.args.line.now c.requires
    (λ u may is. named_twice h u.name found.0 (ap (first_named h) (sym is.1 ∙ sym c.field-name.ensures) ∙ found.1) may.0))

pub returns-clause-ok : goal.returns-clause-ok
returns-clause-ok g c =
    let h = house_of c.args.self.now in
    let us = c.args.self.now.uses.items in
    let t = c.field-name.result.now in
    let none : first_named h t ≡ None = if_is_err c.use_named.result (first_named h t ≡ None) (sym c.is_err.ensures.value ∙ c.in_ok-only_if.ensures.ok) c.use_named.ensures.err in
    let u = use_of (record { name = c.field-name.result; counts = c.in_ok-counts.counts }) in
    let pushed : map use_of c.push.new.self.items ≡ h.uses ++ u ∷ [] =
    ap (map use_of) c.in_ok-push.ensures.items ∙ map_push use_of us (record { name = c.field-name.result; counts = c.in_ok-counts.counts }) in
    let few : length h.uses < 64 = below_by c.len.result (length h.uses) 64 c.in_ok-only_if-2.ensures.ok (c.len.ensures ∙ (c.args.self.now.uses.ok.0 ∙ sym (length-map us use_of))) in
    subst (λ (vs : List Use). Adds h c.args.line.now (record h { uses = vs })) (sym pushed)
    (adds_use h c.args.line.now u c.requires (sym c.field-name.ensures) (ap counted_named (sym c.field.ensures) ∙ (sym c.named.ensures ∙ c.in_ok-counts.ensures.ok_part)) (ap (first_named h) (sym c.field-name.ensures) ∙ none) few)

pub returns-in_err-only_if-clause-ok : goal.returns-in_err-only_if-clause-ok
returns-in_err-only_if-clause-ok g c = grind (arith, common_steps)

pub returns-in_err-only_if-2-clause-ok : goal.returns-in_err-only_if-2-clause-ok
returns-in_err-only_if-2-clause-ok g c = grind (arith, common_steps)

pub returns-in_err-only_if-2-clause-err : goal.returns-in_err-only_if-2-clause-err
returns-in_err-only_if-2-clause-err g c = grind (arith, common_steps)

pub returns-in_err-counts-clause-ok : goal.returns-in_err-counts-clause-ok
returns-in_err-counts-clause-ok g c = grind (arith, common_steps)

pub returns-in_err-counts-clause-err : goal.returns-in_err-counts-clause-err
returns-in_err-counts-clause-err g c = grind (arith, common_steps)

pub returns-in_err-push-clause-ok : goal.returns-in_err-push-clause-ok
returns-in_err-push-clause-ok g c = grind (arith, common_steps)

pub returns-in_err-push-clause-err : goal.returns-in_err-push-clause-err
returns-in_err-push-clause-err g c = grind (arith, common_steps)
