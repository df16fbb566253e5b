-- What decides a moment, of the values so far.
use Rattle.std.proofs.Common.{arith, ◌≡◌, ◌<◌, ◌≤◌, ◌+◌, ℕ, Bool, true, false, List, [], ◌∷◌, ◌++◌, length, take, filter, get_or, append-nil, Option, None, Some, is_some, refl, sym, ap, ◌∙◌, subst}
use Rattle.std.proofs.lemmas.Bool.Decides.{nat_tests}
use Rattle.std.proofs.lemmas.Grind.{common_steps}
use Rattle.std.proofs.lemmas.List.{length_push}
use Rattle.std.proofs.lemmas.List.Elements.{filter_more}
use Rattle.std.specs.Prelude.{cond, nat_le, nat_lt}
use Rattle.mbdc_audit.specs.Amount.{last_of}
use Rattle.mbdc_audit.specs.Evidence.{list_of}
use Rattle.mbdc_audit.specs.declared.house.Value as value_type

abbrev pub IsDecided : ℕ → List value_type.Value → ℕ → Option value_type.Value → Option value_type.Value → Type 0
IsDecided m xs i last next = (list_of last ≡ last_of (filter (λ v. nat_le v.moment m) (take i xs)))
    × (list_of next ≡ take 1 (filter (λ v. nat_lt m v.moment) (take i xs)))

last_push : {X : Type 0} (ys : List X) (x : X) → x ∷ [] ≡ last_of (ys ++ x ∷ [])
last_push ys x = let long = length_push ys x in grind (arith, common_steps)

front_kept : {X : Type 0} (ys zs : List X) (x : X) → x ∷ [] ≡ take 1 ys → x ∷ [] ≡ take 1 (ys ++ zs)
front_kept [] zs x e = absurd cc
front_kept (y ∷ ys) zs x e = e

front_new : {X : Type 0} (ys : List X) (x : X) → [] ≡ take 1 ys → x ∷ [] ≡ take 1 (ys ++ x ∷ [])
front_new [] x e = refl
front_new (y ∷ ys) x e = absurd cc

one_more : {X : Type 0} (p : X → Bool) (xs : List X) (i : ℕ) (d : X) → i < length xs → p (get_or xs i d) ≡ true
    → filter p (take i xs) ++ get_or xs i d ∷ [] ≡ filter p (take (i + 1) xs)
one_more p xs i d below is = sym (filter_more p xs i d below
    ∙ ap (λ (b : Bool). filter p (take i xs) ++ cond b (get_or xs i d ∷ []) []) is)

no_more : {X : Type 0} (p : X → Bool) (xs : List X) (i : ℕ) (d : X) → i < length xs → p (get_or xs i d) ≡ false
    → filter p (take i xs) ≡ filter p (take (i + 1) xs)
no_more p xs i d below is = sym (filter_more p xs i d below
    ∙ (ap (λ (b : Bool). filter p (take i xs) ++ cond b (get_or xs i d ∷ []) []) is ∙ append-nil (filter p (take i xs))))

at_most : (a b : ℕ) → a ≤ b → (nat_le a b ≡ true) × (nat_lt b a ≡ false)
at_most a b le = (grind (arith, nat_tests), grind (arith, nat_tests))

above : (a b : ℕ) → b < a → (nat_le a b ≡ false) × (nat_lt b a ≡ true)
above a b lt = (grind (arith, nat_tests), grind (arith, nat_tests))

pub passed : (m : ℕ) (ys xs : List value_type.Value) (i : ℕ) (d : value_type.Value) (last next : Option value_type.Value) → ys ≡ xs → i < length ys
    → (get_or ys i d).moment ≤ m → IsDecided m xs i last next → IsDecided m xs (i + 1) (Some (get_or ys i d)) next
passed m ys xs i d last next same below le so =
    let is = at_most (get_or ys i d).moment m le in
    subst (λ (zs : List value_type.Value). IsDecided m zs i last next → IsDecided m zs (i + 1) (Some (get_or ys i d)) next) same (λ o. (
      last_push (filter (λ v. nat_le v.moment m) (take i ys)) (get_or ys i d) ∙ ap last_of (one_more (λ v. nat_le v.moment m) ys i d below is.0),
      o.1 ∙ ap (take 1) (no_more (λ v. nat_lt m v.moment) ys i d below is.1),
    )) so

pub skipped : (m : ℕ) (ys xs : List value_type.Value) (i : ℕ) (d : value_type.Value) (last next : Option value_type.Value) → ys ≡ xs → i < length ys
    → m < (get_or ys i d).moment → is_some next ≡ true → IsDecided m xs i last next → IsDecided m xs (i + 1) last next
skipped m ys xs i d last None same below lt some so = absurd cc
skipped m ys xs i d last (Some n) same below lt some so =
    let is = above (get_or ys i d).moment m lt in
    subst (λ (zs : List value_type.Value). IsDecided m zs i last (Some n) → IsDecided m zs (i + 1) last (Some n)) same (λ o. (
      o.0 ∙ ap last_of (no_more (λ v. nat_le v.moment m) ys i d below is.0),
      front_kept (filter (λ v. nat_lt m v.moment) (take i ys)) (get_or ys i d ∷ []) n o.1
          ∙ ap (take 1) (one_more (λ v. nat_lt m v.moment) ys i d below is.1),
    )) so

pub came : (m : ℕ) (ys xs : List value_type.Value) (i : ℕ) (d : value_type.Value) (last next : Option value_type.Value) → ys ≡ xs → i < length ys
    → m < (get_or ys i d).moment → is_some next ≡ false → IsDecided m xs i last next → IsDecided m xs (i + 1) last (Some (get_or ys i d))
came m ys xs i d last (Some n) same below lt none so = absurd cc
came m ys xs i d last None same below lt none so =
    let is = above (get_or ys i d).moment m lt in
    subst (λ (zs : List value_type.Value). IsDecided m zs i last None → IsDecided m zs (i + 1) last (Some (get_or ys i d))) same (λ o. (
      o.0 ∙ ap last_of (no_more (λ v. nat_le v.moment m) ys i d below is.0),
      front_new (filter (λ v. nat_lt m v.moment) (take i ys)) (get_or ys i d) o.1
          ∙ ap (take 1) (one_more (λ v. nat_lt m v.moment) ys i d below is.1),
    )) so
