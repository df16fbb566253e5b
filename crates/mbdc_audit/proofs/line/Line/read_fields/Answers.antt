use Rattle.std.proofs.Common.{◌≡◌, ◌<◌, ◌+◌, ◌∙◌, rules, ℕ, List, [], Option, None, Some, Bor, true, false, arith, ap, sym, subst, refl, length, map, set, drop, get_or, is_some, option_map}
use Rattle.mbdc_audit.specs.Field.{fields_of, left_fields}
use Rattle.mbdc_audit.specs.Line.{AreBlank}
use Rattle.mbdc_audit.specs.declared.field.Kind.{Kind}
use Rattle.mbdc_audit.specs.declared.field.Kind.TheVariants as kind
use Rattle.std.proofs.lemmas.Bool.{false≢true, true≢false}
use Rattle.std.proofs.lemmas.List.{get_or_default, length-map, length-set, map-set}
use Rattle.mbdc_audit.proofs.Lines.{Reading, all_read, begun, blank_after, next, not_read, some_fields, too_few, too_many}
use Rattle.mbdc_audit.proofs.line.Line.read_fields.Goals as goal

abbrev lefts : Option (Bor (List ℕ)) → List (List ℕ)
lefts r = left_fields (option_map (λ s. s.now) r)

pub fields-init : goal.fields-init
fields-init c = record { so_far = begun c.args.kinds.now _ _ _; counted = (search rules, search rules); blank = c.requires.blank; kept = (refl, refl, refl) }

abbrev texts : List (Bor (List ℕ)) → List (List ℕ)
texts fields = map (λ f. f.now) fields

some_left : (r : Option (Bor (List ℕ))) → true ≡ is_some r → 0 < length (lefts r)
some_left None is = absurd (true≢false is)
some_left (Some s) is = some_fields s.now

none_left : (r : Option (Bor (List ℕ))) → false ≡ is_some r → lefts r ≡ []
none_left None is = refl
none_left (Some s) is = absurd (false≢true is)

pub returns-in_default-clause-only : goal.returns-in_default-clause-only
returns-in_default-clause-only c = λ fs ns read.
    let lt : c.fields.i < length c.args.kinds.now = omega arith in
    let k : Kind = get_or c.args.kinds.now c.fields.i kind.Any in
    let before : Reading c.args.kinds.now (lefts c.args.rest) c.fields.i [] (texts c.fields.self.fields) c.fields.self.numbers =
    subst (λ (now : List (List ℕ)). Reading c.args.kinds.now (lefts c.args.rest) c.fields.i now (texts c.fields.self.fields) c.fields.self.numbers)
    (ap lefts c.in_default.is) c.fields.invariant.so_far in
    too_few c.args.kinds.now (lefts c.args.rest) c.fields.i (texts c.fields.self.fields) c.fields.self.numbers k lt
    (get_or_default c.args.kinds.now c.fields.i k kind.Any lt) before fs ns read

pub returns-in_default-read-clause-only : goal.returns-in_default-read-clause-only
returns-in_default-read-clause-only c = λ fs ns read.
    let lt : c.fields.i < length c.args.kinds.now = omega arith in
    let k : Kind = get_or c.args.kinds.now c.fields.i kind.Any in
    let before : Reading c.args.kinds.now (lefts c.args.rest) c.fields.i (fields_of c.in-Some.left.now) (texts c.fields.self.fields) c.fields.self.numbers =
    subst (λ (now : List (List ℕ)). Reading c.args.kinds.now (lefts c.args.rest) c.fields.i now (texts c.fields.self.fields) c.fields.self.numbers)
    (ap lefts c.in-Some.is) c.fields.invariant.so_far in
    not_read c.args.kinds.now (lefts c.args.rest) c.fields.i (fields_of c.in-Some.left.now) (texts c.fields.self.fields) c.fields.self.numbers k
    c.field_of.result.0.now lt (get_or_default c.args.kinds.now c.fields.i k kind.Any lt) c.field_of.ensures.field
    (λ said is. c.in_default-read.ensures.only said is) before fs ns read

pub fields-preserved : goal.fields-preserved
fields-preserved c =
    let lt : c.fields.i < length c.args.kinds.now = omega arith in
    let k : Kind = get_or c.args.kinds.now c.fields.i kind.Any in
    let before : Reading c.args.kinds.now (lefts c.args.rest) c.fields.i (fields_of c.in-Some.left.now) (texts c.fields.self.fields) c.fields.self.numbers =
    subst (λ (now : List (List ℕ)). Reading c.args.kinds.now (lefts c.args.rest) c.fields.i now (texts c.fields.self.fields) c.fields.self.numbers)
    (ap lefts c.in-Some.is) c.fields.invariant.so_far in
    let counted = c.fields.invariant.counted in
    let few : c.fields.i < length c.fields.self.fields = omega (arith, counted.0) in
    let few' : c.fields.i < length c.fields.self.numbers = omega (arith, counted.1) in
    let same : texts (set c.fields.self.fields c.fields.i c.field_of.result.0) ≡ set (texts c.fields.self.fields) c.fields.i c.field_of.result.0.now =
    map-set (λ f. f.now) c.fields.self.fields c.fields.i c.field_of.result.0 in
    let after = next c.args.kinds.now (lefts c.args.rest) c.fields.i (fields_of c.in-Some.left.now) (lefts c.field_of.result.1) (texts c.fields.self.fields)
    c.fields.self.numbers k c.field_of.result.0.now c.in-Some-read.number lt (get_or_default c.args.kinds.now c.fields.i k kind.Any lt)
    (subst (λ (n : ℕ). c.fields.i < n) (sym (length-map c.fields.self.fields (λ f. f.now))) few) few' (some_fields c.in-Some.left.now) c.field_of.ensures.field c.field_of.ensures.rest
    c.in-Some-read.ensures.found before in
    record {
      so_far = subst (λ (fields : List (List ℕ)). Reading c.args.kinds.now (lefts c.args.rest) (c.fields.i + 1) (lefts c.field_of.result.1) fields
          (set c.fields.self.numbers c.fields.i c.in-Some-read.number)) (sym same) after;
      counted = (
        length-set c.fields.self.fields c.fields.i c.field_of.result.0 ∙ c.fields.invariant.counted.0,
        length-set c.fields.self.numbers c.fields.i c.in-Some-read.number ∙ c.fields.invariant.counted.1,
      );
      blank = subst (λ (fields : List (List ℕ)). AreBlank (drop (c.fields.i + 1) fields) (drop (c.fields.i + 1) (set c.fields.self.numbers c.fields.i c.in-Some-read.number)))
          (sym same) (blank_after (texts c.fields.self.fields) c.fields.self.numbers c.fields.i c.field_of.result.0.now c.in-Some-read.number c.fields.invariant.blank);
      kept = c.fields.invariant.kept;
    }

pub returns-then-is_some-clause-only : goal.returns-then-is_some-clause-only
returns-then-is_some-clause-only c = λ fs ns read.
    too_many c.args.kinds.now (lefts c.args.rest) c.fields.i (lefts c.fields.rest) (texts c.fields.self.fields) c.fields.self.numbers
    c.fields-test.false (some_left c.fields.rest c.if-is_some.ensures) c.fields.invariant.so_far fs ns read

pub returns-clause-found : goal.returns-clause-found
returns-clause-found c =
    all_read c.args.kinds.now (lefts c.args.rest) c.fields.i (texts c.fields.self.fields) c.fields.self.numbers c.fields-test.false
    c.fields.invariant.blank (subst (λ (now : List (List ℕ)). Reading c.args.kinds.now (lefts c.args.rest) c.fields.i now (texts c.fields.self.fields) c.fields.self.numbers)
    (none_left c.fields.rest c.if-is_some.ensures) c.fields.invariant.so_far)

pub returns-clause-places : goal.returns-clause-places
returns-clause-places c = c.fields.invariant.counted
