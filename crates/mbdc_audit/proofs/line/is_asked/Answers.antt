use Rattle.std.proofs.Common.{◌≡◌, ◌==◌, ◌||◌, ◌&&◌, ◌∙◌, Bool, Bor, List, ℕ, ap, rules, sym, tests}
use Rattle.std.specs.List.{list_any}
use Rattle.std.proofs.lemmas.Iterator.{YieldsList-from_slice}
use Rattle.std.proofs.lemmas.Iterator.Search.{any_from_yields_List}
use Rattle.mbdc_audit.specs.Line.{has_mark}
use Rattle.mbdc_audit.proofs.line.is_asked.Goals as goal

pub returns-then-is_number : goal.returns-then-is_number
returns-then-is_number c =
    let l = c.args.line.now in
    let any = any_from_yields_List (λ (f : Bor (List ℕ)). has_mark f.now) _ _ c.any.result c.any.ensures.ran
    (YieldsList-from_slice l.fields cc) (λ x b q k. search (rules, tests)) in
    let number : c.if-line-eq-SHOWN.is_number ≡ ((l.stage == 9) || (l.stage == 11)) = search (rules, tests) in
    any ∙ ap (λ (b : Bool). b && list_any (λ (f : Bor (List ℕ)). has_mark f.now) l.fields) (sym c.if-is_number.true ∙ number)
