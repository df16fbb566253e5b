use Rattle.std.proofs.Common.{rules, tests, ◌≡◌, ◌∙◌, ◌∷◌, ℕ, List, Bor, Option, None, Some, refl, ap, sym, subst, get_or, drop, map, option_map}
use Rattle.std.specs.Prelude.{position}
use Rattle.std.proofs.lemmas.Iterator.{YieldsList-from_slice}
use Rattle.std.proofs.lemmas.Iterator.Search.{position_from_yields_List}
use Rattle.std.specs.Option.{unwrap_or}
use Rattle.mbdc_audit.specs.Field.{left_fields}
use Rattle.mbdc_audit.specs.Line.{AreRead, Fields, Rule, is_text, or_0, rule_of}
use Rattle.mbdc_audit.proofs.Table.{bounded, few_fields, no_row, row_at, the_row}
use Rattle.mbdc_audit.proofs.line.Line.read.Goals as goal

abbrev lefts : Option (Bor (List ℕ)) → Fields
lefts r = left_fields (option_map (λ s. s.now) r)

same_or : (o : Option ℕ) → unwrap_or o 0 ≡ or_0 o
same_or None = refl
same_or (Some n) = refl

first_is : (a b : List ℕ) (more others : Fields) → a ∷ more ≡ b ∷ others → a ≡ b
first_is a b more others is = ap (λ (fs : Fields). get_or fs 0 a) is

rest_is : (a b : List ℕ) (more others : Fields) → a ∷ more ≡ b ∷ others → more ≡ others
rest_is a b more others is = ap (λ (fs : Fields). drop 1 fs) is

pub returns-in_default-clause-only : goal.returns-in_default-clause-only
returns-in_default-clause-only c = λ l is.
    let same = sym is.fields_are ∙ c.first_field.ensures in
    no_row c.first_field.result.0.now (sym c.in_default.ensures) is.row.0 is.row.1 is.row.2 is.row.3
    (is.row.4.0 ∙ first_is _ _ _ _ same)

pub read_fields-requires-clause-few : goal.read_fields-requires-clause-few
read_fields-requires-clause-few c =
    let rule : Rule = rule_of c.in-Some.field-0-0.now c.in-Some.word c.in-Some.stage c.in-Some.kinds.now in
    let at = row_at c.first_field.result.0.now rule (sym c.in-Some.ensures) in
    few_fields at.0 rule at.1 at.2

pub returns-in-Ok-clause-found : goal.returns-in-Ok-clause-found
returns-in-Ok-clause-found c =
    let rule : Rule = rule_of c.in-Some.field-0-0.now c.in-Some.word c.in-Some.stage c.in-Some.kinds.now in
    let at = row_at c.first_field.result.0.now rule (sym c.in-Some.ensures) in
    let read = c.in-Ok.ensures in
    let place = position_from_yields_List is_text _ _ c.position.result c.position.ensures.ran
    (YieldsList-from_slice c.in-Some.kinds.now cc) (λ x b q k. search (rules, tests)) in
    record {
      word = c.first_field.result.0.now;
      lefts = lefts c.first_field.result.1;
      fields_are = c.first_field.ensures;
      places = read.places;
      row = (
        at.0,
        rule,
        at.1,
        at.2,
        (
          at.3,
          sym read.kept.0,
          sym read.kept.1,
          read.found,
          read.kept.2 ∙ c.unwrap_or.ensures ∙ ap (λ (o : Option ℕ). unwrap_or o 0) place ∙ same_or (position is_text c.in-Some.kinds.now),
        ),
      );
    }

pub returns-in-Ok-clause-bounded : goal.returns-in-Ok-clause-bounded
returns-in-Ok-clause-bounded c =
    let rule : Rule = rule_of c.in-Some.field-0-0.now c.in-Some.word c.in-Some.stage c.in-Some.kinds.now in
    let at = row_at c.first_field.result.0.now rule (sym c.in-Some.ensures) in
    let read = c.in-Ok.ensures in
    bounded at.0 rule at.1 at.2 c.read_fields.new.self (lefts c.first_field.result.1) (map (λ f. f.now) c.read_fields.new.self.fields)
    read.found (sym read.kept.0)

pub returns-in-Err-clause-only : goal.returns-in-Err-clause-only
returns-in-Err-clause-only c = λ l is.
    let rule : Rule = rule_of c.in-Some.field-0-0.now c.in-Some.word c.in-Some.stage c.in-Some.kinds.now in
    let same = sym is.fields_are ∙ c.first_field.ensures in
    let row_is : is.row.1 ≡ rule = the_row c.first_field.result.0.now rule (sym c.in-Some.ensures) is.row.0 is.row.1 is.row.2 is.row.3
    (is.row.4.0 ∙ first_is _ _ _ _ same) in
    let fields : Fields = map (λ f. f.now) l.fields in
    c.in-Err.ensures.only fields l.numbers
    (subst (λ (ls : Fields). AreRead rule.kinds ls fields l.numbers) (rest_is _ _ _ _ same)
    (subst (λ (r : Rule). AreRead r.kinds is.lefts fields l.numbers) row_is is.row.4.3))
