use Rattle.std.proofs.Common.{◌≡◌, ◌++◌, ◌∷◌, ◌==◌, ◌&&◌, [], List, map, rules, tests, sym, ap, subst, ◌∙◌, arith}
use Rattle.std.proofs.lemmas.Iterator.{YieldsList-from_slice}
use Rattle.std.proofs.lemmas.Iterator.Search.{any_from_yields_List}
use Rattle.std.proofs.lemmas.List.{map_push}
use Rattle.std.proofs.lemmas.Grind.{common_steps}
use Rattle.mbdc_audit.specs.House.{Allowed}
use Rattle.mbdc_audit.specs.Reader.{AddsNothing}
use Rattle.mbdc_audit.specs.File.{Adds, first_named}
use Rattle.mbdc_audit.specs.View.{allowed_of, house_of}
use Rattle.mbdc_audit.proofs.Added.{adds_allowed}
use Rattle.mbdc_audit.proofs.Classes.{at_fault, no_allowed}
use Rattle.mbdc_audit.proofs.Named.{one_meant}
use Rattle.mbdc_audit.proofs.Tests.{allowed_twice, not_allowed, was_false, was_true}
use Rattle.mbdc_audit.specs.declared.house.Allowed as allowed_type
use Rattle.mbdc_audit.proofs.house.House.add_allowed.Goals as goal

pub returns-in_err-only_if-clause-err : goal.returns-in_err-only_if-clause-err
returns-in_err-only_if-clause-err g c =
    let h = house_of c.args.self.now in
    let l = c.args.line.now in
    let xs = c.args.self.now.allowed.items in
    let there = any_from_yields_List (λ (a : allowed_type.Allowed). (a.used == c.in_ok-use_named.field-0) && (a.kind == c.number.result)) _ _
    c.any-is_there.result c.any-is_there.ensures.ran (YieldsList-from_slice xs cc) (λ x b q k. search (rules, tests)) in
    at_fault c.from_residual-in_err-only_if.result (AddsNothing h l) (no_allowed h l c.requires.word
    (λ a may is.
    let e : c.in_ok-use_named.field-0 ≡ a.used = one_meant h c.field.result.now _ a.used c.in_ok-use_named.ensures.ok (c.field.ensures ∙ is.1) may.0 in
    allowed_twice c.args.self.now.allowed.items c.in_ok-use_named.field-0 c.number.result
    (sym there ∙ was_true c.any-is_there.result c.in_err-only_if.ensures.err.0)
    (λ k d lt is_used is_kind. may.1 k d lt (is_used ∙ e) (is_kind ∙ (c.number.ensures ∙ is.2)))))

pub returns-clause-ok : goal.returns-clause-ok
returns-clause-ok g c =
    let h = house_of c.args.self.now in
    let l = c.args.line.now in
    let xs = c.args.self.now.allowed.items in
    let there = any_from_yields_List (λ (a : allowed_type.Allowed). (a.used == c.in_ok-use_named.field-0) && (a.kind == c.number.result)) _ _
    c.any-is_there.result c.any-is_there.ensures.ran (YieldsList-from_slice xs cc) (λ x b q k. search (rules, tests)) in
    let a = allowed_of (record { line = c.args.self.now.lines; used = c.in_ok-use_named.field-0; kind = c.number.result; why = c.field-2.result }) in
    let pushed : map allowed_of c.push.new.self.items ≡ h.allowed ++ a ∷ [] =
    ap (map allowed_of) c.in_ok-push.ensures.items ∙ map_push allowed_of xs _ in
    subst (λ (ys : List Allowed). Adds h l (record h { allowed = ys })) (sym pushed)
    (adds_allowed h l c.in_ok-use_named.field-0 c.number.result c.field-2.result.now c.requires.word
    (ap (first_named h) (sym c.field.ensures) ∙ c.in_ok-use_named.ensures.ok) (sym c.number.ensures) (sym c.field-2.ensures)
    (not_allowed xs c.in_ok-use_named.field-0 c.number.result
    (sym there ∙ was_false c.any-is_there.result c.in_ok-only_if.ensures.ok)))

pub returns-in_err-use_named-clause-ok : goal.returns-in_err-use_named-clause-ok
returns-in_err-use_named-clause-ok g c = grind (arith, common_steps)

pub returns-in_err-use_named-clause-err : goal.returns-in_err-use_named-clause-err
returns-in_err-use_named-clause-err g c = grind (arith, common_steps)

pub returns-in_err-only_if-clause-ok : goal.returns-in_err-only_if-clause-ok
returns-in_err-only_if-clause-ok g c = grind (arith, common_steps)

pub returns-in_err-push-clause-ok : goal.returns-in_err-push-clause-ok
returns-in_err-push-clause-ok g c = grind (arith, common_steps)

pub returns-in_err-push-clause-err : goal.returns-in_err-push-clause-err
returns-in_err-push-clause-err g c = grind (arith, common_steps)
