-- The last of a list, changed or looked at.
use Rattle.std.proofs.Common.{arith, Bor, Bool, true, ◌≡◌, ◌+◌, ◌-◌, ◌<◌, ◌≤◌, ◌↔◌, ℕ, zero, suc, List, [], ◌∷◌, length, map, set, get_or, drop, Option, None, Some, refl, sym, ap, subst, ◌∙◌}
use Rattle.std.specs.Prelude.{⊤, All, Any, IsSome, IfSome, is_some, slice_index_or}
use Rattle.std.specs.Borrow.{MutBor}
use Rattle.std.specs.Slice.{IsGetResult}
use Rattle.std.proofs.lemmas.Bool.{ltb-false, ltb-true}
use Rattle.std.proofs.lemmas.List.{drop_more, drop_all, drop-map, length-map}
use Rattle.std.proofs.lemmas.Option.{MatchOption-at_some}
use Rattle.mbdc_audit.specs.Amount.{last_of}
use Rattle.mbdc_audit.specs.File.{in_last}

-- ---- changed

in_last_at : {X Y : Type 0} (g : X → Y) (f : Y → Y) (xs : List X) (n : ℕ) (x x' : X) → length xs ≡ suc n → x ≡ get_or xs n x
    → g x' ≡ f (g x) → map g (set xs n x') ≡ in_last f (map g xs)
in_last_at g f [] n x x' long is h = absurd (omega arith)
in_last_at {X} {Y} g f (a ∷ []) zero x x' long is h = ap (λ (y : Y). y ∷ []) (h ∙ ap (λ (z : X). f (g z)) is)
in_last_at g f (a ∷ []) (suc n) x x' long is h = absurd (omega arith)
in_last_at g f (a ∷ b ∷ rest) zero x x' long is h = absurd (omega arith)
in_last_at {X} {Y} g f (a ∷ b ∷ rest) (suc n) x x' long is h =
    ap (λ (ys : List Y). g a ∷ ys) (in_last_at g f (b ∷ rest) n x x' (omega arith) is h)

long_by : (len n : ℕ) → len ≡ n → 0 < len → n ≡ suc (len - 1)
long_by len n is some = omega arith

pub in_last_set : {X Y : Type 0} (g : X → Y) (f : Y → Y) (xs : List X) (len : ℕ) (x x' : X) → len ≡ length xs → 0 < len
    → x ≡ get_or xs (len - 1) x → g x' ≡ f (g x) → map g (set xs (len - 1) x') ≡ in_last f (map g xs)
in_last_set g f xs len x x' is some last h = in_last_at g f xs (len - 1) x x' (long_by len (length xs) is some) last h

-- ---- looked at

one_at : {X : Type 0} (xs : List X) (n : ℕ) (x : X) → length xs ≡ suc n → x ≡ get_or xs n x → drop n xs ≡ x ∷ []
one_at {X} xs n x long is = drop_more xs n x (omega arith) ∙ (ap (λ (y : X). y ∷ drop (n + 1) xs) (sym is)
    ∙ ap (λ (ys : List X). x ∷ ys) (drop_all (n + 1) xs (omega arith)))

-- the last of what is made of each
pub last_is : {X Y : Type 0} (g : X → Y) (xs : List X) (len : ℕ) (x : X) → len ≡ length xs → 0 < len
    → x ≡ get_or xs (len - 1) x → last_of (map g xs) ≡ g x ∷ []
last_is {X} {Y} g xs len x is some last =
    let long : length (map g xs) - 1 ≡ len - 1 = omega (arith, length-map xs g) in
    ap (λ (n : ℕ). drop n (map g xs)) long ∙ (drop-map g (len - 1) xs
    ∙ ap (λ (ys : List X). map g ys) (one_at xs (len - 1) x (long_by len (length xs) is some) last))

pub last_none : {X Y : Type 0} (g : X → Y) (xs : List X) (len : ℕ) → len ≡ length xs → len ≤ 0 → last_of (map g xs) ≡ []
last_none g [] len is none = refl
last_none g (x ∷ xs) len is none = absurd (omega arith)

pub any_one : {X : Type 0} (P : X → Type 0) (xs : List X) (x : X) → xs ≡ x ∷ [] → P x → Any P xs
any_one {X} P xs x is p = subst (λ (ys : List X). Any P ys) (sym is) (0, x, omega arith, refl, p)

one_only : {X : Type 0} (P : X → Type 0) (x : X) (k : ℕ) (y : X) → k < length (x ∷ []) → slice_index_or (x ∷ []) k y ≡ y → P y → P x
one_only P x zero y lt is p = subst P (sym is) p
one_only P x (suc k) y lt is p = absurd (omega arith)

pub one_any : {X : Type 0} (P : X → Type 0) (xs : List X) (x : X) → xs ≡ x ∷ [] → Any P xs → P x
one_any {X} P xs x is any =
    let a : Any P (x ∷ []) = subst (λ (ys : List X). Any P ys) is any in
    one_only P x a.0 a.1 a.2 a.3 a.4

pub none_any : {X : Type 0} (P : X → Type 0) (xs : List X) → xs ≡ [] → Any P xs → ⊥
none_any {X} P xs is any =
    let a : Any P [] = subst (λ (ys : List X). Any P ys) is any in
    let lt : a.0 < 0 = a.2 in
    omega arith

-- what `last_mut` found
pub found_last : {X : Type 0} (xs : List X) (len : ℕ) (r : Option (MutBor X)) (x : MutBor X) → r ≡ Some x
    → IfSome r (λ y. y.now ≡ slice_index_or xs (len - 1) y.now) → (IsSome r ↔ (0 < len))
    → (0 < len) × (x.now ≡ get_or xs (len - 1) x.now)
found_last {X} xs len r x is at there =
    (there.0 (ap is_some is), MatchOption-at_some ⊤ (λ (y : MutBor X). y.now ≡ slice_index_or xs (len - 1) y.now) x is at)

-- ---- each of the last ones

one_each : {X : Type 0} (P : X → Type 0) (x : X) → P x → All P (x ∷ [])
one_each P x p zero d lt = p
one_each P x p (suc k) d lt = absurd (omega arith)

none_each : {X : Type 0} (P : X → Type 0) → All P []
none_each P k d lt = absurd (omega arith)

-- a test of the last
pub last_passes : {X Y : Type 0} (g : X → Y) (P : Y → Type 0) (xs : List X) (x : X) (b : Bool) → 0 < length xs
    → x ≡ get_or xs (length xs - 1) x → (b ≡ true → P (g x)) → (P (g x) → b ≡ true) → (b ≡ true) ↔ All P (last_of (map g xs))
last_passes {X} {Y} g P xs x b some is to from =
    let it : last_of (map g xs) ≡ g x ∷ [] = last_is g xs (length xs) x refl some is in (
      λ e. subst (λ (ys : List Y). All P ys) (sym it) (one_each P (g x) (to e)),
      λ all. from (subst (λ (ys : List Y). All P ys) it all 0 (g x) (omega arith)),
    )

pub none_passes : {X Y : Type 0} (g : X → Y) (P : Y → Type 0) (xs : List X) → length xs ≤ 0 → (true ≡ true) ↔ All P (last_of (map g xs))
none_passes {X} {Y} g P xs none =
    (λ e. subst (λ (ys : List Y). All P ys) (sym (last_none g xs (length xs) refl none)) (none_each P), λ all. refl)

-- ---- what `last` found

pub seen_last : {X : Type 0} (xs ys : List X) (r : Option (Bor X)) (x : Bor X) → xs ≡ ys → r ≡ Some x → IsGetResult xs 0 (length xs - 1) r
    → (0 < length ys) × (x.now ≡ get_or ys (length ys - 1) x.now)
seen_last {X} xs ys r x same is item =
    let at : IsGetResult ys 0 (length ys - 1) r = subst (λ (zs : List X). IsGetResult zs 0 (length zs - 1) r) same item in (
      ltb-true 0 (length ys) (sym at.0 ∙ ap is_some is),
      MatchOption-at_some ⊤ (λ (y : Bor X). y.now ≡ slice_index_or ys (length ys - 1) y.now) x is at.1,
    )

pub unseen_last : {X : Type 0} (xs ys : List X) (r : Option (Bor X)) → xs ≡ ys → r ≡ None → IsGetResult xs 0 (length xs - 1) r → length ys ≤ 0
unseen_last {X} xs ys r same is item =
    let at : IsGetResult ys 0 (length ys - 1) r = subst (λ (zs : List X). IsGetResult zs 0 (length zs - 1) r) same item in
    ltb-false 0 (length ys) (sym at.0 ∙ ap is_some is)
