-- Whether what decides a moment is the same in two windows.
use Rattle.std.proofs.Common.{arith, ◌≡◌, ◌-◌, ◌++◌, ℕ, zero, suc, List, [], ◌∷◌, length, map, filter, Bool, true, false, refl, sym, subst, Option, None, Some, drop, take, if◌then◌else◌}
use Rattle.std.proofs.lemmas.List.Elements.{All-cons}
use Rattle.std.specs.Prelude.{All, ◌==◌, nat_le, nat_lt}
use Rattle.std.specs.List.{list_any}
use Rattle.std.proofs.lemmas.Bool.Decides.{nat_tests}
use Rattle.mbdc_audit.specs.Amount.{deciding, last_of}
use Rattle.mbdc_audit.specs.Evidence.{list_of}
use Rattle.mbdc_audit.specs.House.{Value}
use Rattle.mbdc_audit.specs.Kept.{lasting, maybe_seen}
use Rattle.mbdc_audit.specs.Sound.{AreAlike}
use Rattle.mbdc_audit.specs.View.{amount_or_0, seen_value, source_of}
use Rattle.mbdc_audit.specs.declared.house.Value as value_type
use Rattle.mbdc_audit.proofs.Lasting.{decided}

-- ---- where they lie

all_drop : {X : Type 0} (P : X → Type 0) (n : ℕ) (xs : List X) → All P xs → All P (drop n xs)
all_drop P zero xs h = h
all_drop P (suc n) [] h = h
all_drop P (suc n) (x ∷ xs) h = all_drop P n xs (λ k d lt. h (suc k) d (omega (arith, lt)))

all_pass : {X : Type 0} (p : X → Bool) (xs : List X) → All (λ x. p x ≡ true) (filter p xs)
all_pass p [] = λ k d lt. absurd (omega (arith, lt))
all_pass p (x ∷ xs) = elim (p x) as (λ (b : Bool). (b ≡ true → p x ≡ true) → All (λ y. p y ≡ true) (if b then x ∷ filter p xs else filter p xs)) [
  | true ↦ λ e. All-cons (λ y. p y ≡ true) x (filter p xs) (e refl) (all_pass p xs)
  | false ↦ λ e. all_pass p xs
] (λ e. e)

all_first : {X : Type 0} (P : X → Type 0) (xs : List X) → All P xs → All P (take 1 xs)
all_first P [] h = h
all_first P (x ∷ xs) h = All-cons P x [] (h 0 x (omega arith)) (λ k d lt. absurd (omega (arith, lt)))

abbrev IsBy : ℕ → value_type.Value → Type 0
IsBy t v = nat_le v.moment t ≡ true

abbrev IsAfter : ℕ → value_type.Value → Type 0
IsAfter t v = nat_lt t v.moment ≡ true

before_all : (t : ℕ) (xs : List value_type.Value) (o : Option value_type.Value) → list_of o ≡ last_of (filter (λ v. nat_le v.moment t) xs)
    → All (IsBy t) (list_of o)
before_all t xs o e = subst (λ (l : List value_type.Value). All (IsBy t) l) (sym e)
    (all_drop (IsBy t) (length (filter (λ v. nat_le v.moment t) xs) - 1) (filter (λ v. nat_le v.moment t) xs) (all_pass (λ (v : value_type.Value). nat_le v.moment t) xs))

after_all : (t : ℕ) (xs : List value_type.Value) (o : Option value_type.Value)
    → list_of o ≡ (if list_any (λ v. v.moment == t) xs then [] else take 1 (filter (λ v. nat_lt t v.moment) xs))
    → All (IsAfter t) (list_of o)
after_all t xs o e = subst (λ (l : List value_type.Value). All (IsAfter t) l) (sym e)
    (elim (list_any (λ (v : value_type.Value). v.moment == t) xs) as (λ (b : Bool). All (IsAfter t) (if b then [] else take 1 (filter (λ v. nat_lt t v.moment) xs))) [
      | true ↦ λ k d lt. absurd (omega (arith, lt))
      | false ↦ all_first (IsAfter t) (filter (λ v. nat_lt t v.moment) xs) (all_pass (λ (v : value_type.Value). nat_lt t v.moment) xs)
    ])

apart : (t a b : ℕ) → nat_le a t ≡ true → nat_lt t b ≡ true → a ≡ b → ⊥
apart t a b e e' same = grind (arith, nat_tests)

-- ---- both of them

pub record Decides (t : ℕ) (xs : List value_type.Value) (o n : Option value_type.Value) : Type 0 where
  pub same : lasting xs ≡ xs
  pub before : list_of o ≡ last_of (filter (λ v. nat_le v.moment t) xs)
  pub after : list_of n ≡ (if list_any (λ v. v.moment == t) xs then [] else take 1 (filter (λ v. nat_lt t v.moment) xs))

seen_both : (t : ℕ) (xs : List value_type.Value) (o n : Option value_type.Value) → Decides t xs o n
    → deciding t (map seen_value xs) ≡ map seen_value (list_of o) ++ map seen_value (list_of n)
seen_both t xs o n d = decided (λ v. amount_or_0 v.found) source_of t xs (list_of o) (list_of n) d.same d.before d.after

both_to : (o n p m : Option value_type.Value) → AreAlike (maybe_seen o) (maybe_seen p) → AreAlike (maybe_seen n) (maybe_seen m)
    → AreAlike (map seen_value (list_of o) ++ map seen_value (list_of n)) (map seen_value (list_of p) ++ map seen_value (list_of m))
both_to None None None None h k = tt
both_to None None None (Some y) h k = absurd k
both_to None None (Some x) m h k = absurd h
both_to None (Some b) None None h k = absurd k
both_to None (Some b) None (Some y) h k = k
both_to None (Some b) (Some x) m h k = absurd h
both_to (Some a) n None m h k = absurd h
both_to (Some a) None (Some x) None h k = h
both_to (Some a) None (Some x) (Some y) h k = absurd k
both_to (Some a) (Some b) (Some x) None h k = absurd k
both_to (Some a) (Some b) (Some x) (Some y) h k = (h.0, h.1, h.2, h.3, k)

both_from : (t : ℕ) (o n p m : Option value_type.Value) → All (IsBy t) (list_of o) → All (IsAfter t) (list_of n)
    → All (IsBy t) (list_of p) → All (IsAfter t) (list_of m)
    → AreAlike (map seen_value (list_of o) ++ map seen_value (list_of n)) (map seen_value (list_of p) ++ map seen_value (list_of m))
    → AreAlike (maybe_seen o) (maybe_seen p) × AreAlike (maybe_seen n) (maybe_seen m)
both_from t None None None None ho hn hp hm h = (tt, tt)
both_from t None None None (Some y) ho hn hp hm h = absurd h
both_from t None None (Some x) None ho hn hp hm h = absurd h
both_from t None None (Some x) (Some y) ho hn hp hm h = absurd h
both_from t None (Some b) None None ho hn hp hm h = absurd h
both_from t None (Some b) None (Some y) ho hn hp hm h = (tt, h)
both_from t None (Some b) (Some x) None ho hn hp hm h =
    absurd (apart t x.moment b.moment (hp 0 x (omega arith)) (hn 0 b (omega arith)) (sym h.1))
both_from t None (Some b) (Some x) (Some y) ho hn hp hm h = absurd h.4
both_from t (Some a) None None None ho hn hp hm h = absurd h
both_from t (Some a) None None (Some y) ho hn hp hm h =
    absurd (apart t a.moment y.moment (ho 0 a (omega arith)) (hm 0 y (omega arith)) h.1)
both_from t (Some a) None (Some x) None ho hn hp hm h = (h, tt)
both_from t (Some a) None (Some x) (Some y) ho hn hp hm h = absurd h.4
both_from t (Some a) (Some b) None None ho hn hp hm h = absurd h
both_from t (Some a) (Some b) None (Some y) ho hn hp hm h = absurd h.4
both_from t (Some a) (Some b) (Some x) None ho hn hp hm h = absurd h.4
both_from t (Some a) (Some b) (Some x) (Some y) ho hn hp hm h = ((h.0, h.1, h.2, h.3, tt), h.4)

pub alike_to : (t : ℕ) (xs ys : List value_type.Value) (o n p m : Option value_type.Value) → Decides t xs o n → Decides t ys p m
    → AreAlike (maybe_seen o) (maybe_seen p) → AreAlike (maybe_seen n) (maybe_seen m)
    → AreAlike (deciding t (map seen_value xs)) (deciding t (map seen_value ys))
alike_to t xs ys o n p m d e h k =
    subst (λ (l : List Value). AreAlike l (deciding t (map seen_value ys))) (sym (seen_both t xs o n d))
    (subst (λ (l : List Value). AreAlike (map seen_value (list_of o) ++ map seen_value (list_of n)) l) (sym (seen_both t ys p m e))
    (both_to o n p m h k))

pub alike_from : (t : ℕ) (xs ys : List value_type.Value) (o n p m : Option value_type.Value) → Decides t xs o n → Decides t ys p m
    → AreAlike (deciding t (map seen_value xs)) (deciding t (map seen_value ys))
    → AreAlike (maybe_seen o) (maybe_seen p) × AreAlike (maybe_seen n) (maybe_seen m)
alike_from t xs ys o n p m d e h =
    both_from t o n p m (before_all t xs o d.before) (after_all t xs n d.after) (before_all t ys p e.before) (after_all t ys m e.after)
    (subst (λ (l : List Value). AreAlike (map seen_value (list_of o) ++ map seen_value (list_of n)) l) (seen_both t ys p m e)
    (subst (λ (l : List Value). AreAlike l (deciding t (map seen_value ys))) (seen_both t xs o n d) h))
