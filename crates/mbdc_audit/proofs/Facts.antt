-- What is declared.
use Rattle.std.proofs.Common.{arith, ◌≡◌, ◌<◌, ◌&&◌, ◌||◌, ℕ, zero, suc, Bool, true, false, cond, is_some, List, [], ◌∷◌, length, map, get_or, Option, None, Some, refl, sym, ap, subst, ◌∙◌}
use Rattle.std.specs.Prelude.{All, Any, IsTrue, ◌==◌, find, slice_index_or}
use Rattle.std.specs.List.{list_any}
use Rattle.std.specs.Option.{option_map}
use Rattle.std.specs.Str.{bytes_eq}
use Rattle.std.proofs.lemmas.Slice.Eq.{bytes_eq-Decides}
use Rattle.std.proofs.lemmas.Bool.{and_from, and_parts, eq-eqb, eqb-true, false≢true}
use Rattle.std.proofs.lemmas.List.{get_or-map, length-map}
use Rattle.std.proofs.lemmas.List.Folds.{Any-from_list_any, list_any-from_Any}
use Rattle.mbdc_audit.specs.House.{House, User}
use Rattle.mbdc_audit.specs.declared.house.Declared.{Declared}
use Rattle.mbdc_audit.specs.declared.house.Fact.{Fact}
use Rattle.mbdc_audit.specs.declared.house.Fact.TheVariants.{Factor, Emissions, Degrees, Price, Average}
use Rattle.mbdc_audit.specs.declared.house.User as user_type
use Rattle.mbdc_audit.specs.declared.uses.Unit.{Unit}
use Rattle.mbdc_audit.specs.declared.uses.Unit.TheVariants.{Kwh, CubicMetre, Allocated, Count, Smallest}
use Rattle.mbdc_audit.specs.Published.{declared, is_fact}
use Rattle.mbdc_audit.specs.Sound.{AreOne}
use Rattle.mbdc_audit.specs.Uses.{is_unit}
use Rattle.mbdc_audit.specs.View.{user_of}
use Rattle.mbdc_audit.proofs.Tests.{none_passes}

-- ---- found or not

pub found_any : {X : Type 0} (p : X → Bool) (xs : List X) → is_some (find p xs) ≡ list_any p xs
found_any p [] = refl
found_any {X} p (x ∷ xs) = elim (p x) as (λ (b : Bool). is_some (cond b (Some x) (find p xs)) ≡ (b || list_any p xs))
    [ true ↦ refl | false ↦ found_any p xs ]

some_map : {X Y : Type 0} (g : X → Y) (o : Option X) → is_some (option_map g o) ≡ is_some o
some_map g None = refl
some_map g (Some x) = refl

pub any_map : {X Y : Type 0} (g : X → Y) (P : Y → Type 0) (xs : List X) → Any (λ x. P (g x)) xs → Any P (map g xs)
any_map g P xs a = (
  a.0,
  g a.1,
  omega (arith, a.2, length-map xs g),
  get_or-map g xs a.0 a.1 (g a.1) a.2 ∙ ap g a.3,
  a.4,
)

unmap_at : {X Y : Type 0} (g : X → Y) (P : Y → Type 0) (xs : List X) (k : ℕ) (y : Y) → k < length (map g xs)
    → slice_index_or (map g xs) k y ≡ y → P y → Any (λ x. P (g x)) xs
unmap_at g P [] k y lt is p = absurd (omega arith)
unmap_at g P (x ∷ xs) zero y lt is p = (0, x, omega arith, refl, subst P (sym is) p)
unmap_at g P (x ∷ xs) (suc k) y lt is p =
    let a = unmap_at g P xs k y (omega arith) is p in (suc a.0, a.1, omega (arith, a.2), a.3, a.4)

pub any_unmap : {X Y : Type 0} (g : X → Y) (P : Y → Type 0) (xs : List X) → Any P (map g xs) → Any (λ x. P (g x)) xs
any_unmap g P xs a = unmap_at g P xs a.0 a.1 a.2 a.3 a.4

pub any_weaker : {X : Type 0} (P Q : X → Type 0) → ((x : X) → P x → Q x) → (xs : List X) → Any P xs → Any Q xs
any_weaker P Q to xs a = (a.0, a.1, a.2, a.3, to a.1 a.4)

-- ---- users

pub user_declared : (us : List user_type.User) (n : ℕ) → IsTrue (is_some (find (λ u. u.number == n) us))
    → Any (λ u. u.number ≡ n) (map user_of us)
user_declared us n some = any_map user_of (λ (u : User). u.number ≡ n) us
    (any_weaker (λ (u : user_type.User). (u.number == n) ≡ true) (λ (u : user_type.User). u.number ≡ n) (λ u e. eqb-true u.number n e) us
    (Any-from_list_any (λ (u : user_type.User). u.number == n) us (sym (found_any (λ (u : user_type.User). u.number == n) us) ∙ some)))

pub declared_user : (us : List user_type.User) (n : ℕ) → Any (λ u. u.number ≡ n) (map user_of us)
    → IsTrue (is_some (find (λ u. u.number == n) us))
declared_user us n any = found_any (λ (u : user_type.User). u.number == n) us
    ∙ list_any-from_Any (λ (u : user_type.User). u.number == n) us
    (any_weaker (λ (u : user_type.User). u.number ≡ n) (λ (u : user_type.User). (u.number == n) ≡ true) (λ u e. eq-eqb u.number n e) us
    (any_unmap user_of (λ (u : User). u.number ≡ n) us any))

-- ---- facts

unit_itself : (a : Unit) → is_unit a a ≡ true
unit_itself Kwh = refl
unit_itself CubicMetre = refl
unit_itself Allocated = refl
unit_itself Count = refl
unit_itself Smallest = refl

unit_same : (a b : Unit) → is_unit a b ≡ true → a ≡ b
unit_same Kwh Kwh is = refl
unit_same CubicMetre CubicMetre is = refl
unit_same Allocated Allocated is = refl
unit_same Count Count is = refl
unit_same Smallest Smallest is = refl
unit_same a b is = (cc)

itself : (f : Fact) → is_fact f f ≡ true
itself (Factor used) = eq-eqb used used refl
itself (Emissions used) = eq-eqb used used refl
itself (Price used unit) = and_from (used == used) (is_unit unit unit) (eq-eqb used used refl) (unit_itself unit)
itself (Average used unit) = and_from (used == used) (is_unit unit unit) (eq-eqb used used refl) (unit_itself unit)
itself Degrees = refl

two : {X : Type 0} (f : ℕ → Unit → X) (u v : ℕ) (a b : Unit) → ((u == v) && is_unit a b) ≡ true → f v b ≡ f u a
two {X} f u v a b is =
    let parts = and_parts (u == v) (is_unit a b) is in
    ap (λ (n : ℕ). f n b) (sym (eqb-true u v parts.0)) ∙ ap (f u) (sym (unit_same a b parts.1))

same_fact : (f e : Fact) → is_fact f e ≡ true → e ≡ f
same_fact (Factor u) (Factor v) is = ap (λ (n : ℕ). Factor n) (sym (eqb-true u v is))
same_fact (Emissions u) (Emissions v) is = ap (λ (n : ℕ). Emissions n) (sym (eqb-true u v is))
same_fact (Price u a) (Price v b) is = two (λ (n : ℕ) (c : Unit). Price n c) u v a b is
same_fact (Average u a) (Average v b) is = two (λ (n : ℕ) (c : Unit). Average n c) u v a b is
same_fact Degrees Degrees is = refl
same_fact f e is = (cc)

is_at : Fact → ℕ → Declared → Bool
is_at f span d = (d.span == span) && is_fact f d.fact

declared_any : (h : House) (f : Fact) (span : ℕ) → is_some (declared h f span) ≡ list_any (is_at f span) h.facts
unfolding is_at
declared_any h f span = some_map (λ (d : Declared). d.ratio) (find (is_at f span) h.facts) ∙ found_any (is_at f span) h.facts

passes : (e d : Declared) → AreOne e d → is_at d.fact d.span e ≡ true
unfolding is_at
passes e d one = and_from (e.span == d.span) (is_fact d.fact e.fact) (eq-eqb e.span d.span one.1)
    (subst (λ (f : Fact). is_fact d.fact f ≡ true) (sym one.0) (itself d.fact))

passing : (e d : Declared) → is_at d.fact d.span e ≡ true → AreOne e d
unfolding is_at
passing e d is =
    let parts = and_parts (e.span == d.span) (is_fact d.fact e.fact) is in
    (same_fact d.fact e.fact parts.1, eqb-true e.span d.span parts.0)

pub not_declared : (h : House) (d : Declared) → is_some (declared h d.fact d.span) ≡ false → All (λ e. AreOne e d → ⊥) h.facts
not_declared h d none k e lt one =
    false≢true (sym (none_passes (is_at d.fact d.span) h.facts (sym (declared_any h d.fact d.span) ∙ none) k e lt) ∙ passes (get_or h.facts k e) d one)

pub declared_twice : (h : House) (d : Declared) → is_some (declared h d.fact d.span) ≡ true → All (λ e. AreOne e d → ⊥) h.facts → ⊥
declared_twice h d some none =
    let any = Any-from_list_any (is_at d.fact d.span) h.facts (sym (declared_any h d.fact d.span) ∙ some) in
    none any.0 any.1 any.2 (subst (λ (e : Declared). AreOne e d) (sym any.3) (passing any.1 d any.4))

-- ---- flats and users by number

pub flat_any : {X Y : Type 0} (g : X → Y) (f : X → List ℕ) (e : Y → List ℕ) → ((x : X) → e (g x) ≡ f x) → (xs : List X) (t : List ℕ)
    → list_any (λ x. bytes_eq (f x) t) xs ≡ true → Any (λ y. e y ≡ t) (map g xs)
flat_any {X} {Y} g f e same xs t some = any_map g (λ (y : Y). e y ≡ t) xs
    (any_weaker (λ (x : X). bytes_eq (f x) t ≡ true) (λ (x : X). e (g x) ≡ t) (λ x is. same x ∙ (bytes_eq-Decides (f x) t).0 is) xs
    (Any-from_list_any (λ (x : X). bytes_eq (f x) t) xs some))

pub any_flat : {X Y : Type 0} (g : X → Y) (f : X → List ℕ) (e : Y → List ℕ) → ((x : X) → e (g x) ≡ f x) → (xs : List X) (t : List ℕ)
    → Any (λ y. e y ≡ t) (map g xs) → list_any (λ x. bytes_eq (f x) t) xs ≡ true
any_flat {X} {Y} g f e same xs t any = list_any-from_Any (λ (x : X). bytes_eq (f x) t) xs
    (any_weaker (λ (x : X). e (g x) ≡ t) (λ (x : X). bytes_eq (f x) t ≡ true) (λ x is. (bytes_eq-Decides (f x) t).1 (sym (same x) ∙ is)) xs
    (any_unmap g (λ (y : Y). e y ≡ t) xs any))

any_of_map : {X Y : Type 0} (p : Y → Bool) (g : X → Y) (xs : List X) → list_any p (map g xs) ≡ list_any (λ x. p (g x)) xs
any_of_map p g [] = refl
any_of_map p g (x ∷ xs) = ap (λ (b : Bool). p (g x) || b) (any_of_map p g xs)

pub user_found : (us : List user_type.User) (n : ℕ)
    → is_some (find (λ u. u.number == n) (map user_of us)) ≡ is_some (find (λ u. u.number == n) us)
user_found us n = found_any (λ (u : User). u.number == n) (map user_of us)
    ∙ (any_of_map (λ (u : User). u.number == n) user_of us ∙ sym (found_any (λ (u : user_type.User). u.number == n) us))
