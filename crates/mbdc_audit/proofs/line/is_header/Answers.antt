use Rattle.std.proofs.Common.{◌∙◌, ◌∷◌, List, ℕ, Option, Bor, ap, sym, option_map}
use Rattle.mbdc_audit.specs.Field.{left_fields}
use Rattle.mbdc_audit.proofs.Lines.{header_end, is_some_now}
use Rattle.mbdc_audit.proofs.line.is_header.Goals as goal

abbrev lefts : Option (Bor (List ℕ)) → List (List ℕ)
lefts r = left_fields (option_map (λ s. s.now) r)

pub returns : goal.returns
returns c = header_end c.args.text.now c.first_field.result.0.now c.first_field-2.result.0.now c.first_field-3.result.0.now
    c.in-Some.rest.now c.in-Some-after.label.now (option_map (λ s. s.now) c.first_field-3.result.1) c.is_none.result
    (c.first_field.ensures ∙ ap (λ (r : Option (Bor (List ℕ))). c.first_field.result.0.now ∷ lefts r) c.in-Some.is)
    (c.first_field-2.ensures ∙ ap (λ (r : Option (Bor (List ℕ))). c.first_field-2.result.0.now ∷ lefts r) c.in-Some-after.is)
    c.first_field-3.ensures (sym c.if-not-is_word.ensures) (sym c.if-not-is_word-2.ensures)
    (is_some_now c.first_field-3.result.1 ∙ c.is_none.ensures)
