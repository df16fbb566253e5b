use Rattle.std.proofs.Common.{◌≡◌, ◌-◌, ℕ, map, refl, sym, ap, subst, ◌∙◌, arith}
use Rattle.std.proofs.lemmas.Grind.{common_steps}
use Rattle.mbdc_audit.specs.House.{Key, Number}
use Rattle.mbdc_audit.specs.declared.line.Word.{Word}
use Rattle.mbdc_audit.specs.File.{text_at, use_place}
use Rattle.mbdc_audit.specs.Line.{number_at}
use Rattle.mbdc_audit.specs.Published.{HasOther}
use Rattle.mbdc_audit.specs.Reader.{IsMade, IsUnitOf, is_of_house}
use Rattle.mbdc_audit.specs.View.{house_of, key_of, number_of}
use Rattle.mbdc_audit.proofs.Asked.{house_asked, house_made, house_parts, is_other, may_same, no_other, other_is, unit_is, unit_same, whose_is}
use Rattle.mbdc_audit.proofs.Classes.{at_any}
use Rattle.mbdc_audit.proofs.Named.{named_is, named_meant, named_there, one_meant}
use Rattle.mbdc_audit.proofs.Texts.{by_key, by_texts}
use Rattle.mbdc_audit.proofs.house.House.number_of_house.Goals as goal

pub returns-in_err-other-clause-err : goal.returns-in_err-other-clause-err
returns-in_err-other-clause-err g c =
    let h = house_of c.args.self.now in
    let l = c.args.line.now in
    at_any c.from_residual-in_err-other.result ((n : Number) → IsMade h l n → ⊥)
    (λ n made.
    let may = house_asked h l n c.requires.word made in
    let parts = house_parts h l n c.requires.word made in
    c.in_err-other.ensures.err n.key.other (is_other l.word h n.key l parts.other made.0.other (subst (λ (w : Word). HasOther w h n.key) (sym made.0.word_is) may.0.other)))

pub returns-in_err-unit-clause-err : goal.returns-in_err-unit-clause-err
returns-in_err-unit-clause-err g c =
    let h = house_of c.args.self.now in
    let l = c.args.line.now in
    let text = c.field.ensures ∙ ap (λ (p : ℕ). text_at p l) c.use_place-at.ensures.place in
    at_any c.from_residual-in_err-unit.result ((n : Number) → IsMade h l n → ⊥)
    (λ n made.
    let may = house_asked h l n c.requires.word made in
    let parts = house_parts h l n c.requires.word made in
    let used : c.in_ok-used.used ≡ n.key.used = one_meant h c.field.result.now c.in_ok-used.used n.key.used c.in_ok-used.ensures.ok (text ∙ parts.used) may.1 in
    c.in_err-unit.ensures.err n.key.unit (subst (λ (m : ℕ). IsUnitOf l.word h m n.key.unit l) (sym used) parts.unit))

pub check_number-requires : goal.check_number-requires
check_number-requires g c =
    let m = c.said.result in
    let word : m.word ≡ c.args.line.now.word = ap (λ (k : Key). k.word) (sym (by_key m (map (λ t. t.now) m.said))) ∙ c.said.ensures.word_is in
    record { word = ap is_of_house word ∙ c.requires.word }

pub returns-in_err-check_number-clause-err : goal.returns-in_err-check_number-clause-err
returns-in_err-check_number-clause-err g c =
    let h = house_of c.args.self.now in
    let l = c.args.line.now in
    let m = c.said.result in
    let word : m.word ≡ l.word = ap (λ (k : Key). k.word) (sym (by_key m (map (λ t. t.now) m.said))) ∙ c.said.ensures.word_is in
    let text = c.field.ensures ∙ ap (λ (p : ℕ). text_at p l) c.use_place-at.ensures.place in
    let n' = record m { span = c.in_ok-span.span; other = c.in_ok-other.other; user = c.number-2.result; flat = c.field-2.result; used = c.in_ok-used.used; unit = c.in_ok-unit.unit; from = c.number-3.result; to = c.number-4.result } in
    let k : Key = key_of n' in
    let user : number_at (use_place l.word - 1) l ≡ k.user = ap (λ (p : ℕ). number_at (p - 1) l) (sym c.use_place-at.ensures.place) ∙ sym c.number-2.ensures in
    let flat : text_at (use_place l.word - 1) l ≡ k.flat = ap (λ (p : ℕ). text_at (p - 1) l) (sym c.use_place-at.ensures.place) ∙ sym c.field-2.ensures in
    at_any c.from_residual-in_err-check_number.result ((n : Number) → IsMade h l n → ⊥)
    (λ n made.
    let may = house_asked h l n c.requires.word made in
    let parts = house_parts h l n c.requires.word made in
    let used : c.in_ok-used.used ≡ n.key.used = one_meant h c.field.result.now c.in_ok-used.used n.key.used c.in_ok-used.ensures.ok (text ∙ parts.used) may.1 in
    c.in_err-check_number.ensures.err (may_same l.word h n.key k l c.requires.word
    (record { word = sym made.0.word_is; word' = word; used = sym used; unit = unit_same l.word h n.key.used c.in_ok-used.used n.key.unit k.unit l parts.unit c.in_ok-unit.ensures.ok })
    parts.span (sym c.number.ensures ∙ c.in_ok-span.ensures.ok.0) parts.other (other_is l.word h k l c.in_ok-other.ensures.ok)
    parts.whose (whose_is l.word k l user flat) may.0))

pub returns-clause-ok : goal.returns-clause-ok
returns-clause-ok g c =
    let h = house_of c.args.self.now in
    let l = c.args.line.now in
    let m = c.said.result in
    let word : m.word ≡ l.word = ap (λ (k : Key). k.word) (sym (by_key m (map (λ t. t.now) m.said))) ∙ c.said.ensures.word_is in
    let text = c.field.ensures ∙ ap (λ (p : ℕ). text_at p l) c.use_place-at.ensures.place in
    let n = record m { span = c.in_ok-span.span; other = c.in_ok-other.other; user = c.number-2.result; flat = c.field-2.result; used = c.in_ok-used.used; unit = c.in_ok-unit.unit; from = c.number-3.result; to = c.number-4.result } in
    let k : Key = key_of n in
    let user : number_at (use_place l.word - 1) l ≡ k.user = ap (λ (p : ℕ). number_at (p - 1) l) (sym c.use_place-at.ensures.place) ∙ sym c.number-2.ensures in
    let flat : text_at (use_place l.word - 1) l ≡ k.flat = ap (λ (p : ℕ). text_at (p - 1) l) (sym c.use_place-at.ensures.place) ∙ sym c.field-2.ensures in
    let made : Number = record { key = k; text = (number_of m).text; beside = (number_of m).beside } in
    subst (λ (q : Number). IsMade h l q) (sym (by_texts n m (map (λ t. t.now) m.said) refl))
    (house_made h l made c.requires.word word (sym c.number-3.ensures) (sym c.number-4.ensures) (record {
      span = sym c.number.ensures ∙ c.in_ok-span.ensures.ok.0;
      other = other_is l.word h k l c.in_ok-other.ensures.ok;
      whose = whose_is l.word k l user flat;
      used = sym text ∙ named_is h c.field.result.now c.in_ok-used.used c.in_ok-used.ensures.ok;
      unit = c.in_ok-unit.ensures.ok;
    }) (sym c.said.ensures.text_is) c.said.ensures.beside_is c.said.ensures.beside_all (no_other l.word h k l c.in_ok-other.ensures.ok)
    (ap (λ (x : Key). x.size) (sym (by_key m (map (λ t. t.now) m.said))) ∙ c.said.ensures.blank.4) (sym user, sym flat)
    (c.in_ok-check_number.ensures.ok (unit_is l.word h c.in_ok-used.used c.in_ok-unit.unit l
    (named_there h c.field.result.now c.in_ok-used.used c.in_ok-used.ensures.ok) c.in_ok-unit.ensures.ok))
    (named_meant h c.field.result.now c.in_ok-used.used c.in_ok-used.ensures.ok))

pub returns-in_err-used-clause-ok : goal.returns-in_err-used-clause-ok
returns-in_err-used-clause-ok g c = grind (arith, common_steps)

pub returns-in_err-unit-clause-ok : goal.returns-in_err-unit-clause-ok
returns-in_err-unit-clause-ok g c = grind (arith, common_steps)

pub returns-in_err-span-clause-ok : goal.returns-in_err-span-clause-ok
returns-in_err-span-clause-ok g c = grind (arith, common_steps)

pub returns-in_err-other-clause-ok : goal.returns-in_err-other-clause-ok
returns-in_err-other-clause-ok g c = grind (arith, common_steps)

pub returns-in_err-check_number-clause-ok : goal.returns-in_err-check_number-clause-ok
returns-in_err-check_number-clause-ok g c = grind (arith, common_steps)
