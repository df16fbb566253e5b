-- The bodies in a line of a journal, one more of those that are gone through by index.
use Rattle.std.proofs.Common.{◌≡◌, ℕ, ◌+◌, ◌≤◌, List, [], ◌∷◌, ◌++◌, Option, None, Some, length, drop, get_or, option_map, ap, refl, sym, ◌∙◌, append-nil, append_assoc, ◌<◌, map, true, false, arith}
use Rattle.std.proofs.lemmas.List.{drop_all, drop_more, length-map, map-append}
use Rattle.std.proofs.lemmas.Bool.{le-leb, lt-leb}
use Rattle.std.specs.Prelude.{nat_le}
use Rattle.json.specs.Value.{items_view, value_view}
use Rattle.json.specs.declared.value.Value.{Value}
use Rattle.mbdc_change.specs.Fields.{most_parts}
use Rattle.mbdc_json.specs.Bodies.{all_bodies, and_then_bodies, body_in, few_bodies}

-- bodies before others, if those are some
abbrev pub before : List (List ℕ) → Option (List (List ℕ)) → Option (List (List ℕ))
before bodies None = None
before bodies (Some others) = Some (bodies ++ others)

none_before : (more : Option (List (List ℕ))) → before [] more ≡ more
none_before None = refl
none_before (Some others) = refl

pub all_left : {A : Type 0} (items : List (Value A)) → before [] (all_bodies (items_view items)) ≡ all_bodies (items_view items)
all_left items = none_before (all_bodies (items_view items))

one_before : (bodies : List (List ℕ)) (body : List ℕ) (more : Option (List (List ℕ))) → before bodies (and_then_bodies (Some body) more) ≡ before (bodies ++ body ∷ []) more
one_before bodies body None = refl
one_before bodies body (Some others) = ap (λ (bs : List (List ℕ)). Some bs) (sym (append_assoc bodies (body ∷ []) others))

-- a body more
pub one_more : {A X : Type 0} (text : X → List ℕ) (xs new : List X) (x : X) (items : List (Value A)) (i : ℕ) (value : Value A) (found : Option X)
    → new ≡ xs ++ x ∷ [] → i < length items → value ≡ get_or items i value → option_map text found ≡ body_in (value_view value) → found ≡ Some x
    → before (map text new) (all_bodies (items_view (drop (i + 1) items))) ≡ before (map text xs) (all_bodies (items_view (drop i items)))
one_more {A} {X} text xs new x items i value found pushed within at is some =
    let rest = all_bodies (items_view (drop (i + 1) items)) in
    let body : Some (text x) ≡ body_in (value_view value) = ap (option_map text) (sym some) ∙ is in
    ap (λ (ys : List X). before (map text ys) rest) pushed
    ∙ ap (λ (bs : List (List ℕ)). before bs rest) (map-append text xs (x ∷ []))
    ∙ sym (one_before (map text xs) (text x) rest)
    ∙ ap (λ (o : Option (List ℕ)). before (map text xs) (and_then_bodies o rest)) body
    ∙ ap (λ (v : Value A). before (map text xs) (and_then_bodies (body_in (value_view v)) rest)) at
    ∙ sym (ap (λ (vs : List (Value A)). before (map text xs) (all_bodies (items_view vs))) (drop_more items i value within))

-- what is no body
pub no_bodies : {A X : Type 0} (text : X → List ℕ) (bodies : List (List ℕ)) (items : List (Value A)) (i : ℕ) (value : Value A) (found : Option X)
    → i < length items → value ≡ get_or items i value → option_map text found ≡ body_in (value_view value) → found ≡ None
    → None ≡ before bodies (all_bodies (items_view (drop i items)))
no_bodies {A} {X} text bodies items i value found within at is none =
    let rest = all_bodies (items_view (drop (i + 1) items)) in
    let body : None ≡ body_in (value_view value) = ap (option_map text) (sym none) ∙ is in
    ap (λ (o : Option (List ℕ)). before bodies (and_then_bodies o rest)) body
    ∙ ap (λ (v : Value A). before bodies (and_then_bodies (body_in (value_view v)) rest)) at
    ∙ sym (ap (λ (vs : List (Value A)). before bodies (all_bodies (items_view vs))) (drop_more items i value within))

-- no item more
pub all_before : {A : Type 0} (bodies : List (List ℕ)) (items : List (Value A)) (i : ℕ) → length items ≤ i → before bodies (all_bodies (items_view (drop i items))) ≡ Some bodies
all_before {A} bodies items i past =
    ap (λ (vs : List (Value A)). before bodies (all_bodies (items_view vs))) (drop_all i items past)
    ∙ ap (λ (bs : List (List ℕ)). Some bs) (append-nil bodies)

-- as many as a readout may have, or more
pub few_are : {X : Type 0} (text : X → List ℕ) (xs : List X) → length xs ≤ most_parts → map text xs ≡ few_bodies (Some (map text xs))
few_are text xs few =
    let fits : nat_le (length (map text xs)) most_parts ≡ true = le-leb _ _ (omega (arith, length-map xs text, few)) in
    rw fits refl

pub too_many : {X : Type 0} (text : X → List ℕ) (xs : List X) → most_parts < length xs → [] ≡ few_bodies (Some (map text xs))
too_many text xs many =
    let over : nat_le (length (map text xs)) most_parts ≡ false = lt-leb _ _ (omega (arith, length-map xs text, many)) in
    rw over refl
