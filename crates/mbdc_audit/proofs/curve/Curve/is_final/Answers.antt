use Rattle.std.proofs.Common.{◌≡◌, ◌||◌, ◌∙◌, Bool, true, false, ap, map, refl, sym}
use Rattle.std.specs.List.{list_any}
use Rattle.mbdc_audit.specs.Amount.{is_by, last_of}
use Rattle.mbdc_audit.specs.House.{Run}
use Rattle.mbdc_audit.specs.View.{run_of}
use Rattle.mbdc_audit.proofs.Finals.{else_final, final_is, last_none, last_there, then_final}
use Rattle.mbdc_audit.proofs.curve.Curve.is_final.Goals as goal

or_false : (b : Bool) → b ≡ (b || false)
or_false true = refl
or_false false = refl

pub returns-then-is_over : goal.returns-then-is_over
returns-then-is_over g c =
    let v = c.args.self.now in
    let over = c.is_over.ensures ∙ (or_false _ ∙ sym (ap (list_any (λ (r : Run). is_by c.args.to r.over))
    (last_there v.runs.now c.in-Some.run'.now c.in-Some.ensures.value))) in
    c.if-is_over.true ∙ then_final c.is_over.result _ _ c.if-is_over.true
    (final_is c.args.to (map run_of v.runs.now) v.values.items _ _ v.found over refl)

pub returns-else-is_over : goal.returns-else-is_over
returns-else-is_over g c =
    let v = c.args.self.now in
    let over = c.is_over.ensures ∙ (or_false _ ∙ sym (ap (list_any (λ (r : Run). is_by c.args.to r.over))
    (last_there v.runs.now c.in-Some.run'.now c.in-Some.ensures.value))) in
    else_final c.is_over.result _ _ c.if-is_over.false
    (final_is c.args.to (map run_of v.runs.now) v.values.items _ _ v.found over c.goes_on.ensures)

pub returns-in-None : goal.returns-in-None
returns-in-None g c =
    let v = c.args.self.now in
    let over : false ≡ list_any (λ r. is_by c.args.to r.over) (last_of (map run_of v.runs.now)) =
    sym (ap (list_any (λ (r : Run). is_by c.args.to r.over)) (last_none v.runs.now c.in-None.ensures.value)) in
    else_final false _ _ refl (final_is c.args.to (map run_of v.runs.now) v.values.items _ _ v.found over c.goes_on-in-None.ensures)
