use Rattle.std.proofs.Common.{rules, ◌≡◌, ℕ, ◌+◌, ◌<◌, ◌≤◌, List, ◌∷◌, ◌++◌, length, take, drop, get_or, true, refl, ap, sym, ◌∙◌, arith, add-one, drop-cons, length-take, take-append-drop, eqb-true}
use Rattle.std.specs.Prelude.{◌==◌}
use Rattle.std.proofs.lemmas.List.{drop-drop}
use Rattle.std.proofs.lemmas.Grind.{common_steps}
use Rattle.mbdc_sheet.specs.Parts.{parts_of}
use Rattle.mbdc_sheet.proofs.Marks.{HasNo, one_part, part_and_mark}
use Rattle.mbdc_sheet.proofs.parts.first_part.Goals as goal

split : (m : ℕ) (s part rest : List ℕ) (k : ℕ) → k < length s → part ≡ take k s → rest ≡ drop 1 (drop k s) → (get_or s k 0 == m) ≡ true
    → ((j : ℕ) → 0 ≤ j → j < k → ¬ ((get_or s j 0 == m) ≡ true)) → parts_of m s ≡ part ∷ parts_of m rest
split m s part rest k below is_part is_rest mark none =
    let ten : get_or s k 0 ≡ m = eqb-true _ _ mark in
    let next : drop k s ≡ m ∷ drop (k + 1) s = drop-cons s k 0 below ∙ rw (ten, add-one) refl in
    let after : drop 1 (drop k s) ≡ drop (k + 1) s = ap (drop 1) next in
    let whole : s ≡ part ++ (m ∷ rest) = rw (is_part, is_rest, after) (sym (take-append-drop k s) ∙ ap (λ (t : List ℕ). take k s ++ t) next) in
    let no : HasNo m part = λ j lt.
    let low : j < k = omega (arith, ap length is_part, length-take k s) in
    let same : get_or part j 0 ≡ get_or s j 0 = grind (arith, common_steps) in
    rw same (none j (omega arith) low) in
    ap (parts_of m) whole ∙ part_and_mark m part rest no

pub returns-in-Some : goal.returns-in-Some
returns-in-Some c =
    let below : c.in-Some.at < length c.args.text.now = c.in-Some.ensures.0.high in
    let len : length c.split_at.result.0.now ≡ c.in-Some.at = search rules in
    let back : length c.split_at.result.1.now + c.in-Some.at ≡ length c.args.text.now = search rules in
    let rest : c.split_at-in-Some.result.1.now ≡ drop 1 (drop c.in-Some.at c.args.text.now) = search rules in
    record {
      parts = split c.args.mark c.args.text.now c.split_at.result.0.now c.split_at-in-Some.result.1.now c.in-Some.at below (search rules)
          rest c.in-Some.ensures.1 (c.in-Some.ensures.0.before);
      rest = rest ∙ drop-drop 1 c.in-Some.at c.args.text.now ∙ ap (λ (n : ℕ). drop n c.args.text.now) (omega (arith, len));
      shorter = search rules;
      none = search rules;
    }

pub returns-in-None : goal.returns-in-None
returns-in-None c = record {
  parts = one_part c.args.mark c.args.text.now (λ k below. c.in-None.ensures k (omega arith) below);
  rest = search rules;
  shorter = search rules;
  none = search rules;
}
