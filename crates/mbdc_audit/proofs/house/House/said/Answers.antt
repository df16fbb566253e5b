use Rattle.std.proofs.Common.{◌≡◌, ◌≤◌, ◌+◌, ℕ, List, [], ◌∷◌, length, map, take, drop, refl, sym, ap, subst, ◌∙◌, arith}
use Rattle.std.proofs.lemmas.List.{length-map}
use Rattle.mbdc_audit.specs.File.{text_at}
use Rattle.mbdc_audit.specs.View.{beside_count}
use Rattle.mbdc_audit.proofs.Texts.{beside, few}
use Rattle.mbdc_audit.proofs.house.House.said.Goals as goal

pub returns : goal.returns
returns g c =
    let l = c.args.line.now in
    let long : l.text + 1 + beside_count l.word ≤ length (map (λ f. f.now) l.fields) = omega (arith, c.requires, c.fits-line, length-map l.fields (λ f. f.now)) in
    let two : l.text + 2 ≡ l.text + 1 + 1 = omega arith in
    record {
      word_is = refl;
      text_is = c.field.ensures;
      beside_is = subst (λ (t : List ℕ). take (length (take (beside_count l.word) (t ∷ c.field-3.result.now ∷ []))) (drop (l.text + 1) (map (λ f. f.now) l.fields))
          ≡ take (beside_count l.word) (t ∷ c.field-3.result.now ∷ [])) (sym c.field-2.ensures)
          (subst (λ (t : List ℕ). take (length (take (beside_count l.word) (text_at (l.text + 1) l ∷ t ∷ []))) (drop (l.text + 1) (map (λ f. f.now) l.fields))
          ≡ take (beside_count l.word) (text_at (l.text + 1) l ∷ t ∷ [])) (sym (c.field-3.ensures ∙ ap (λ (n : ℕ). text_at n l) two)) (beside l.word l (l.text + 1) long));
      beside_all = few l.word c.field-2.result.now c.field-3.result.now;
      blank = (refl, refl, refl, refl, refl);
    }
