-- Tests of numbers and of lists, as the code makes them.
use Rattle.std.proofs.Common.{arith, ◌≡◌, ◌≢◌, ◌<◌, ◌+◌, ◌++◌, ◌&&◌, ℕ, List, Bool, true, false, not, length, map, get_or, refl, sym, ap, subst, ◌∙◌}
use Rattle.std.specs.Prelude.{All, ◌==◌, nat_lt}
use Rattle.std.specs.List.{list_any}
use Rattle.std.proofs.lemmas.Bool.{false≢true, ltb-true, lt-ltb, eqb-true, eq-eqb, and_from, and_parts, false_from_ne_true}
use Rattle.std.proofs.lemmas.List.{get_or-append-add, get_or-map, get_or_append_left, length-append, length-map}
use Rattle.std.proofs.lemmas.List.Elements.{All-map}
use Rattle.std.proofs.lemmas.List.Folds.{Any-from_list_any, list_any_at}
use Rattle.mbdc_audit.specs.House.{Allowed}
use Rattle.mbdc_audit.specs.View.{allowed_of}
use Rattle.mbdc_audit.specs.declared.house.Allowed as allowed_type

pub below_by : (len n k : ℕ) → nat_lt len k ≡ true → len ≡ n → n < k
below_by len n k test is = subst (λ (m : ℕ). m < k) is (ltb-true len k test)

pub not_below : (a b : ℕ) → nat_lt a b ≡ false → a < b → ⊥
not_below a b test lt = false≢true (sym test ∙ lt-ltb a b lt)

pub same_by : (a b : ℕ) → (a == b) ≡ true → a ≡ b
same_by a b test = eqb-true a b test

pub not_same : (a b : ℕ) → (a == b) ≡ false → a ≡ b → ⊥
not_same a b test is = false≢true (sym test ∙ eq-eqb a b is)

pub was_false : (b : Bool) → not b ≡ true → b ≡ false
was_false true is = sym is
was_false false is = refl

pub was_true : (b : Bool) → not b ≡ false → b ≡ true
was_true true is = refl
was_true false is = sym is

pub none_passes : {X : Type 0} (p : X → Bool) (xs : List X) → list_any p xs ≡ false → All (λ x. p x ≡ false) xs
none_passes p xs none k d lt =
    false_from_ne_true (p (get_or xs k d)) (λ e. false≢true (sym none ∙ list_any_at p xs k d lt e))

-- ---- device types

other_kind : (used kind : ℕ) (a : allowed_type.Allowed) → ((a.used == used) && (a.kind == kind)) ≡ false → a.used ≡ used → a.kind ≢ kind
other_kind used kind a not_it is_used is_kind =
    false≢true (sym not_it ∙ and_from (a.used == used) (a.kind == kind) (eq-eqb a.used used is_used) (eq-eqb a.kind kind is_kind))

pub not_allowed : (xs : List allowed_type.Allowed) (used kind : ℕ) → list_any (λ a. (a.used == used) && (a.kind == kind)) xs ≡ false
    → All (λ a. a.used ≡ used → a.kind ≢ kind) (map allowed_of xs)
not_allowed xs used kind none = All-map (λ (a : Allowed). a.used ≡ used → a.kind ≢ kind) allowed_of xs
    (λ k d lt. other_kind used kind (get_or xs k d)
    (none_passes (λ (a : allowed_type.Allowed). (a.used == used) && (a.kind == kind)) xs none k d lt))

pub allowed_twice : (xs : List allowed_type.Allowed) (used kind : ℕ) → list_any (λ a. (a.used == used) && (a.kind == kind)) xs ≡ true
    → All (λ a. a.used ≡ used → a.kind ≢ kind) (map allowed_of xs) → ⊥
allowed_twice xs used kind some none =
    let any = Any-from_list_any (λ (a : allowed_type.Allowed). (a.used == used) && (a.kind == kind)) xs some in
    let parts = and_parts (any.1.used == used) (any.1.kind == kind) any.4 in
    let at : get_or (map allowed_of xs) any.0 (allowed_of any.1) ≡ allowed_of any.1 =
    get_or-map allowed_of xs any.0 any.1 (allowed_of any.1) any.2 ∙ ap allowed_of any.3 in
    let lt : any.0 < length (map allowed_of xs) = omega (arith, any.2, length-map xs allowed_of) in
    let apart : any.1.used ≡ used → any.1.kind ≢ kind =
    subst (λ (a : Allowed). a.used ≡ used → a.kind ≢ kind) at (none any.0 (allowed_of any.1) lt) in
    apart (eqb-true any.1.used used parts.0) (eqb-true any.1.kind kind parts.1)

pub below_there : (n len k : ℕ) → nat_lt n len ≡ true → len ≡ k → n < k
below_there n len k test is = subst (λ (m : ℕ). n < m) is (ltb-true n len test)

-- each of joined lists
pub all_left : {X : Type 0} (P : X → Type 0) (xs ys : List X) → All P (xs ++ ys) → All P xs
all_left P xs ys all k d lt = subst P (get_or_append_left xs ys d k lt) (all k d (omega (arith, lt, length-append xs ys)))

pub all_right : {X : Type 0} (P : X → Type 0) (xs ys : List X) → All P (xs ++ ys) → All P ys
all_right P xs ys all k d lt = subst P (get_or-append-add xs ys k d) (all (length xs + k) d (omega (arith, lt, length-append xs ys)))
