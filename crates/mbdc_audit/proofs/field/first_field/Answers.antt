use Rattle.std.proofs.Common.{rules, ◌≡◌, ℕ, ◌+◌, ◌<◌, ◌≤◌, List, ◌∷◌, ◌++◌, length, take, drop, get_or, true, refl, ap, sym, ◌∙◌, arith, add-one, drop-cons, length-take, take-append-drop, eqb-true}
use Rattle.std.specs.Prelude.{◌==◌}
use Rattle.std.proofs.lemmas.Grind.{common_steps}
use Rattle.mbdc_audit.specs.Field.{fields_of}
use Rattle.mbdc_audit.proofs.Commas.{HasNoComma, one_field, field_and_comma}
use Rattle.mbdc_audit.proofs.field.first_field.Goals as goal

split : (s field rest : List ℕ) (k : ℕ) → k < length s → field ≡ take k s → rest ≡ drop 1 (drop k s) → (get_or s k 0 == 44) ≡ true
    → ((j : ℕ) → 0 ≤ j → j < k → ¬ ((get_or s j 0 == 44) ≡ true)) → fields_of s ≡ field ∷ fields_of rest
split s field rest k below is_field is_rest comma none =
    let ten : get_or s k 0 ≡ 44 = eqb-true _ _ comma in
    let next : drop k s ≡ 44 ∷ drop (k + 1) s = drop-cons s k 0 below ∙ rw (ten, add-one) refl in
    let after : drop 1 (drop k s) ≡ drop (k + 1) s = ap (drop 1) next in
    let whole : s ≡ field ++ (44 ∷ rest) = rw (is_field, is_rest, after) (sym (take-append-drop k s) ∙ ap (λ (t : List ℕ). take k s ++ t) next) in
    let no : HasNoComma field = λ j lt.
    let low : j < k = omega (arith, ap length is_field, length-take k s) in
    let same : get_or field j 0 ≡ get_or s j 0 = grind (arith, common_steps) in
    rw same (none j (omega arith) low) in
    ap fields_of whole ∙ field_and_comma field rest no

pub returns-in-Some : goal.returns-in-Some
returns-in-Some c = split c.args.text.now c.split_at.result.0.now c.split_at-in-Some.result.1.now c.in-Some.comma (omega arith) (search rules) (search rules) c.in-Some.ensures.1 (c.in-Some.ensures.0.before)

pub returns-in-None : goal.returns-in-None
returns-in-None c = one_field c.args.text.now (λ k below. c.in-None.ensures k (omega arith) below)
