use Rattle.std.proofs.Common.{◌≡◌, ◌⊎◌, inl, inr, ◌<◌, ◌≤◌, ◌+◌, ◌++◌, ℕ, List, [], ◌∷◌, IsTrue, length, arith, rules, sym, ap, ◌∙◌, refl, subst, Some, None}
use Rattle.std.proofs.lemmas.Bool.{true≢false}
use Rattle.std.proofs.lemmas.Bool.{cases_lt}
use Rattle.dc_units.specs.Date.{Day, date_of, exists}
use Rattle.mbdc_audit.specs.Moment.{number_of}
use Rattle.dc_units.specs.Text.{day_text}
use Rattle.mbdc_audit.proofs.Labels.{found as found_label, first_is, label_long, no_first}
use Rattle.mbdc_audit.proofs.sound.is_label.Goals as goal

pub returns-then-label-ne7 : goal.returns-then-label-ne7
returns-then-label-ne7 c =
    let n = c.if-label-ne7.true in
    (λ f. absurd (true≢false (sym f)), λ l. absurd (n (label_long c.args.label.now l.0 l.3)))

pub returns-in_default : goal.returns-in_default
returns-in_default c =
    let copied : c.copy_from_slice.new.self ≡ c.args.label.now = c.copy_from_slice.ensures.after in
    let only = subst (λ (t : List ℕ). (date : Day) → IsTrue (exists date.year date.month date.day) → t ++ 45 ∷ 48 ∷ 49 ∷ [] ≡ day_text date
    → c.parse_text.result ≡ Some date) copied c.parse_text.ensures.only in
    let none : c.parse_text.result ≡ None = search rules in
    (λ f. absurd (true≢false (sym f)), λ l. absurd (no_first c.args.label.now c.parse_text.result c.args.day none only l))

pub returns-then-is_after : goal.returns-then-is_after
returns-then-is_after c =
    let copied : c.copy_from_slice.new.self ≡ c.args.label.now = c.copy_from_slice.ensures.after in
    let a = c.is_after.ensures.0 c.if-is_after.true in
    let long : length c.args.label.now ≡ 7 = omega arith in
    let text = subst (λ (t : List ℕ). t ++ 45 ∷ 48 ∷ 49 ∷ [] ≡ day_text c.in-Some.first) copied c.in-Some.ensures.found in
    (λ t. found_label c.args.label.now c.in-Some.first a.0 c.days.number c.args.day long text (sym (c.new.ensures.exact ∙ (ap (λ (y : ℕ). date_of y c.month.result c.days.number) c.year.ensures.value ∙ ap (λ (m : ℕ). date_of c.in-Some.first.year m c.days.number) c.month.ensures)) ∙ a.1) a.2, λ l. refl)

pub days-preserved : goal.days-preserved
days-preserved c = λ k low below d at number. by_case c k low d at number (cases_lt k c.days.number) below
  where
    by_case : (c : goal.Else-is_after) (k : ℕ) → 1 ≤ k → (d : Day) → date_of c.in-Some.first.year c.in-Some.first.month k ≡ Some d
        → number_of d ≡ c.args.day + 1 → (k < c.days.number) ⊎ (c.days.number ≤ k) → k < c.days.number + 1 → ⊥
    by_case c k low d at number (inl lt) below = c.days.invariant k low lt d at number
    by_case c k low d at number (inr le) below =
        let same : k ≡ c.days.number = omega arith in
        let made : c.new.result ≡ Some d = (c.new.ensures.exact ∙ (ap (λ (y : ℕ). date_of y c.month.result c.days.number) c.year.ensures.value ∙ ap (λ (m : ℕ). date_of c.in-Some.first.year m c.days.number) c.month.ensures)) ∙ (ap (λ (n : ℕ). date_of c.in-Some.first.year c.in-Some.first.month n) (sym same) ∙ at) in
        true≢false (sym (c.is_after.ensures.1 (d, made, number)) ∙ c.if-is_after.false)

pub returns : goal.returns
returns c =
    let copied : c.copy_from_slice.new.self ≡ c.args.label.now = c.copy_from_slice.ensures.after in
    let only = subst (λ (t : List ℕ). (date : Day) → IsTrue (exists date.year date.month date.day) → t ++ 45 ∷ 48 ∷ 49 ∷ [] ≡ day_text date
    → Some c.in-Some.first ≡ Some date) copied c.in-Some.ensures.only in (
      λ f. absurd (true≢false (sym f)),
      λ l. absurd (first_is c.args.label.now c.in-Some.first c.args.day only
          (λ k low below. c.days.invariant k low (omega arith)) l),
    )
