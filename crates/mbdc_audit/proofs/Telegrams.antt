-- A telegram that isn't struck, and that no other one contradicts.
use Rattle.std.proofs.Common.{arith, ◌≡◌, ◌&&◌, ◌||◌, ℕ, zero, suc, List, [], ◌∷◌, map, Bool, true, false, not, refl, sym, ap, ◌∙◌, Option, None, Some, Result, Ok, Err}
use Rattle.std.proofs.lemmas.Bool.{eq-eqb, eqb-true}
use Rattle.std.specs.Prelude.{All, ◌==◌}
use Rattle.std.specs.List.{list_any}
use Rattle.std.proofs.lemmas.Bool.Decides.{nat_tests}
use Rattle.mbdc_audit.specs.House.{Struck}
use Rattle.mbdc_audit.specs.View.{struck_of}
use Rattle.mbdc_audit.specs.Walk.{IsOneValue, differs, is_other, shown_by}
use Rattle.mbdc_audit.specs.declared.house.Struck as struck_type
use Rattle.mbdc_audit.specs.declared.house.Value as value_type

front_false : (a b : Bool) → (a || b) ≡ false → a ≡ false
front_false true b e = grind arith
front_false false b e = refl

back_false : (a b : Bool) → (a || b) ≡ false → b ≡ false
back_false true b e = grind arith
back_false false b e = e

both_false : (a b : Bool) → a ≡ false → b ≡ false → (a || b) ≡ false
both_false true b e e' = e
both_false false b e e' = e'

pub none_to : {X : Type 0} (P : X → Type 0) (t : X → Bool) → ((x : X) → t x ≡ false → P x) → (xs : List X)
    → list_any t xs ≡ false → All P xs
none_to P t f [] e k d lt = absurd (omega (arith, lt))
none_to P t f (x ∷ xs) e zero d lt = f x (front_false _ _ e)
none_to P t f (x ∷ xs) e (suc k) d lt = none_to P t f xs (back_false _ _ e) k d (omega (arith, lt))

pub none_from : {X : Type 0} (P : X → Type 0) (t : X → Bool) → ((x : X) → P x → t x ≡ false) → (xs : List X)
    → All P xs → list_any t xs ≡ false
none_from P t f [] h = refl
none_from P t f (x ∷ xs) h = both_false _ _ (f x (h 0 x (omega arith)))
    (none_from P t f xs (λ k d lt. h (suc k) d (omega (arith, lt))))

struck_map : (p : Struck → Bool) (xs : List struck_type.Struck) → list_any p (map struck_of xs) ≡ list_any (λ x. p (struck_of x)) xs
struck_map p [] = refl
struck_map p (x ∷ xs) = ap (λ (b : Bool). p (struck_of x) || b) (struck_map p xs)

abbrev is_it : value_type.Value → Struck → Bool
is_it v x = (x.run == v.run) && (x.moment == v.moment)

apart : (v : value_type.Value) (x : Struck) → is_it v x ≡ false → x.run ≡ v.run → x.moment ≡ v.moment → ⊥
apart v x e r m = grind (arith, nat_tests)

two_tests : (a b : Bool) → (a ≡ true → b ≡ true → ⊥) → (a && b) ≡ false
two_tests true true h = absurd (h refl refl)
two_tests true false h = refl
two_tests false b h = refl

not_it : (v : value_type.Value) (x : Struck) → (x.run ≡ v.run → x.moment ≡ v.moment → ⊥) → is_it v x ≡ false
not_it v x h = two_tests (x.run == v.run) (x.moment == v.moment) (λ r m. h (eqb-true _ _ r) (eqb-true _ _ m))

equal : (x y : ℕ) → not (x == y) ≡ false → x ≡ y
equal x y e = grind (arith, nat_tests)

not_differs : {E : Type 0} (o : Option ℕ) (r : Result ℕ E) (m n : ℕ) → differs o r ≡ false → o ≡ Some m → r ≡ Ok n → m ≡ n
not_differs None r m n e e' e'' = absurd cc
not_differs (Some x) (Err y) m n e e' e'' = absurd cc
not_differs (Some x) (Ok y) m n e e' e'' =
    let a : x ≡ m = cc in
    let b : y ≡ n = cc in
    sym a ∙ (equal x y e ∙ b)

equal_not : (x y : ℕ) → x ≡ y → not (x == y) ≡ false
equal_not x y e = grind (arith, nat_tests)

differs_not : {E : Type 0} (o : Option ℕ) (r : Result ℕ E) → ((m n : ℕ) → o ≡ Some m → r ≡ Ok n → m ≡ n) → differs o r ≡ false
differs_not None r h = refl
differs_not (Some x) (Err y) h = refl
differs_not (Some x) (Ok y) h = equal_not x y (h x y refl refl)

abbrev Agrees : value_type.Value → value_type.Value → Type 0
Agrees v u = u.moment ≡ v.moment → (m n : ℕ) → shown_by v.run u ≡ Some m → v.found ≡ Ok n → m ≡ n

second : (a b : Bool) → (a && b) ≡ false → a ≡ true → b ≡ false
second true b e e' = e
second false b e e' = absurd cc

agrees_to : (v u : value_type.Value) → is_other v u ≡ false → Agrees v u
agrees_to v u e same_moment m n s f = not_differs (shown_by v.run u) v.found m n (second (u.moment == v.moment) _ e (eq-eqb _ _ same_moment)) s f

if_first : (a b : Bool) → (a ≡ true → b ≡ false) → (a && b) ≡ false
if_first true b h = h refl
if_first false b h = refl

agrees_from : (v u : value_type.Value) → Agrees v u → is_other v u ≡ false
agrees_from v u h = if_first (u.moment == v.moment) (differs (shown_by v.run u) v.found)
    (λ e. differs_not (shown_by v.run u) v.found (h (eqb-true _ _ e)))

pub one_to : (values : List value_type.Value) (struck : List struck_type.Struck) (v : value_type.Value)
    → list_any (λ x. (x.run == v.run) && (x.moment == v.moment)) struck ≡ false → list_any (is_other v) values ≡ false
    → IsOneValue values (map struck_of struck) v
one_to values struck v a b = (
  none_to (λ x. x.run ≡ v.run → x.moment ≡ v.moment → ⊥) (is_it v) (apart v) (map struck_of struck) (struck_map (is_it v) struck ∙ a),
  λ n f k d lt same_moment m s. none_to (Agrees v) (is_other v) (agrees_to v) values b k d lt same_moment m n s f,
)

pub not_struck : (values : List value_type.Value) (struck : List struck_type.Struck) (v : value_type.Value)
    → IsOneValue values (map struck_of struck) v → list_any (λ x. (x.run == v.run) && (x.moment == v.moment)) struck ≡ false
not_struck values struck v h = sym (struck_map (is_it v) struck)
    ∙ none_from (λ x. x.run ≡ v.run → x.moment ≡ v.moment → ⊥) (is_it v) (not_it v) (map struck_of struck) h.0

pub no_other : (values : List value_type.Value) (struck : List struck_type.Struck) (v : value_type.Value)
    → IsOneValue values (map struck_of struck) v → list_any (is_other v) values ≡ false
no_other values struck v h = none_from (Agrees v) (is_other v) (agrees_from v) values
    (λ k d lt same_moment m n s f. h.1 n f k d lt same_moment m s)
