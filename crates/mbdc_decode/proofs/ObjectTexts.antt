-- The tokens of objects and arrays.
use Rattle.std.proofs.Common.{◌≡◌, ℕ, zero, suc, ◌+◌, List, [], ◌∷◌, ◌++◌, take, length, get_or, map, refl, ap, sym, ◌∙◌, ◌<◌, arith, append_assoc, append-nil}
use Rattle.json.specs.Json.{Json}
use Rattle.json.specs.Token.{Token}
use Rattle.json.specs.Tree.{json_tokens, items_tokens, members_tokens}
use Rattle.mbdc_decode.specs.Object.{Field, members_of, items_of, fields_tokens, values_tokens}

pub members_are : (fields : List Field) → members_tokens (members_of fields) ≡ fields_tokens fields ++ Token.end_object ∷ []
unfolding fields_tokens
members_are [] = refl
members_are (field ∷ fields) =
    ap (λ (ts : List Token). Token.key field.0 ∷ ts)
    (ap (λ (ts : List Token). json_tokens field.1 ++ ts) (members_are fields) ∙ sym (append_assoc (json_tokens field.1) (fields_tokens fields) (Token.end_object ∷ [])))

pub items_are : (values : List Json) → items_tokens (items_of values) ≡ values_tokens values ++ Token.end_array ∷ []
unfolding values_tokens
items_are [] = refl
items_are (value ∷ values) =
    ap (λ (ts : List Token). json_tokens value ++ ts) (items_are values) ∙ sym (append_assoc (json_tokens value) (values_tokens values) (Token.end_array ∷ []))

pub fields-append : (fields more : List Field) → fields_tokens (fields ++ more) ≡ fields_tokens fields ++ fields_tokens more
unfolding fields_tokens
fields-append [] more = refl
fields-append (field ∷ fields) more =
    ap (λ (ts : List Token). Token.key field.0 ∷ ts)
    (ap (λ (ts : List Token). json_tokens field.1 ++ ts) (fields-append fields more) ∙ sym (append_assoc (json_tokens field.1) (fields_tokens fields) (fields_tokens more)))

pub values_of_map : {A : Type 0} → (f : A → Json) (x : A) (xs : List A) → values_tokens (map f (x ∷ xs)) ≡ json_tokens (f x) ++ values_tokens (map f xs)
unfolding values_tokens
values_of_map f x xs = refl

pub values_of_none : {A : Type 0} → (f : A → Json) → values_tokens (map f []) ≡ []
unfolding values_tokens
values_of_none f = refl

-- one value more of a list that is gone through by index
pub values_of_take : (f : ℕ → Json) (xs : List ℕ) (i : ℕ) → i < length xs
    → values_tokens (map f (take (i + 1) xs)) ≡ values_tokens (map f (take i xs)) ++ json_tokens (f (get_or xs i 0))
unfolding values_tokens
values_of_take f [] i below = absurd (omega arith)
values_of_take f (x ∷ xs) zero below = append-nil (json_tokens (f x))
values_of_take f (x ∷ xs) (suc i) below =
    let more : suc i + 1 ≡ suc (i + 1) = omega arith in
    rw more (ap (λ (ts : List Token). json_tokens (f x) ++ ts) (values_of_take f xs i (omega arith)) ∙ sym (append_assoc (json_tokens (f x)) (values_tokens (map f (take i xs))) (json_tokens (f (get_or xs i 0)))))

-- one field and those after it, in one piece
pub fields-cons : (field : Field) (fields : List Field) → fields_tokens (field ∷ fields) ≡ fields_tokens (field ∷ []) ++ fields_tokens fields
unfolding fields_tokens
fields-cons field fields =
    ap (λ (ts : List Token). Token.key field.0 ∷ (ts ++ fields_tokens fields)) (sym (append-nil (json_tokens field.1)))

pub fields-around : (fields : List Field) (field : Field) (more : List Field) → fields_tokens (fields ++ (field ∷ more)) ≡ fields_tokens fields ++ (fields_tokens (field ∷ []) ++ fields_tokens more)
fields-around fields field more =
    fields-append fields (field ∷ more) ∙ ap (λ (ts : List Token). fields_tokens fields ++ ts) (fields-cons field more)

pub four-append : (a b c d : List Field) → fields_tokens a ++ (fields_tokens b ++ (fields_tokens c ++ (fields_tokens d ++ []))) ≡ fields_tokens (a ++ (b ++ (c ++ d)))
four-append a b c d = simp (fields-append, append-nil)

pub ruleset objects = (members_are, items_are, fields-append)

pub no_values : values_tokens [] ≡ []
unfolding values_tokens
no_values = refl

pub first_value : (value : Json) (values : List Json) → values_tokens (value ∷ values) ≡ json_tokens value ++ values_tokens values
unfolding values_tokens
first_value value values = refl

pub values-append : (values more : List Json) → values_tokens (values ++ more) ≡ values_tokens values ++ values_tokens more
unfolding values_tokens
values-append [] more = refl
values-append (value ∷ values) more =
    ap (λ (ts : List Token). json_tokens value ++ ts) (values-append values more) ∙ sym (append_assoc (json_tokens value) (values_tokens values) (values_tokens more))

pub ruleset values = (no_values, first_value, values-append)
