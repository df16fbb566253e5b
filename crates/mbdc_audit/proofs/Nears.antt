-- What rests on the values that decide a moment.
use Rattle.std.proofs.Common.{arith, ◌≡◌, ◌-◌, ◌&&◌, ◌||◌, ℕ, List, [], ◌∷◌, ◌++◌, Bool, true, false, not, map, filter}
use Rattle.std.proofs.lemmas.List.Folds.{list_any-append}
use Rattle.std.proofs.Common.{refl, sym, ap, ◌∙◌, Option, Some, None, drop, if◌then◌else◌}
use Rattle.std.specs.Prelude.{All, ◌==◌, nat_le, nat_lt, zip}
use Rattle.std.specs.List.{list_all, list_any}
use Rattle.std.proofs.lemmas.Bool.Decides.{nat_tests}
use Rattle.mbdc_audit.specs.Amount.{basis, counting, deciding, has, is_exchange, is_near, is_near_pair}
use Rattle.mbdc_audit.specs.Evidence.{list_of}
use Rattle.mbdc_audit.specs.House.{Source, Value}
use Rattle.mbdc_audit.specs.Kept.{goes_on, rises_from, is_so, is_so_between, know, known_source, lasting}
use Rattle.mbdc_audit.specs.View.{amount_or_0, known_in}
use Rattle.mbdc_audit.specs.declared.house.Value as value_type
use Rattle.mbdc_audit.proofs.Lasting.{Found, any_map, counting_map, known_list}

-- ---- near

and_more : (b : Bool) → (b && true) ≡ b
and_more true = refl
and_more false = refl

pub near_both : (t : ℕ) (xs : List value_type.Value) (a b : value_type.Value)
    → deciding t (known_in xs) ≡ map know (a ∷ []) ++ map know (b ∷ []) → is_near t (known_in xs) ≡ nat_le (b.moment - a.moment) 172800
near_both t xs a b e = ap (λ (l : List Value). list_all is_near_pair (zip l (drop 1 l))) e ∙ and_more (nat_le (b.moment - a.moment) 172800)

pub near_last : (t : ℕ) (xs : List value_type.Value) (other : Option value_type.Value)
    → deciding t (known_in xs) ≡ [] ++ map know (list_of other) → is_near t (known_in xs) ≡ true
near_last t xs None e = ap (λ (l : List Value). list_all is_near_pair (zip l (drop 1 l))) e
near_last t xs (Some v) e = ap (λ (l : List Value). list_all is_near_pair (zip l (drop 1 l))) e

pub near_next : (t : ℕ) (xs : List value_type.Value) (a : value_type.Value)
    → deciding t (known_in xs) ≡ map know (a ∷ []) ++ [] → is_near t (known_in xs) ≡ true
near_next t xs a e = ap (λ (l : List Value). list_all is_near_pair (zip l (drop 1 l))) e

-- ---- what is so

pub so_at : (g : Bool) (t : ℕ) (xs before after : List value_type.Value)
    → deciding t (known_in xs) ≡ map know before ++ map know after
    → list_any (λ v. is_so g v.source) (deciding t (known_in xs))
    ≡ (list_any (λ v. is_so g (known_source v)) before || list_any (λ v. is_so g (known_source v)) after)
so_at g t xs before after e = ap (list_any (λ (v : Value). is_so g v.source)) e
    ∙ (list_any-append (λ (v : Value). is_so g v.source) (map know before) (map know after)
    ∙ (ap (λ (b : Bool). b || list_any (λ (v : Value). is_so g v.source) (map know after)) (any_map (λ (v : Value). is_so g v.source) know before)
    ∙ ap (λ (b : Bool). list_any (λ v. is_so g (known_source v)) before || b) (any_map (λ (v : Value). is_so g v.source) know after)))

any_filtered : {X : Type 0} (p t : X → Bool) (xs : List X) → list_any t (filter p xs) ≡ list_any (λ x. p x && t x) xs
any_filtered p t [] = refl
any_filtered p t (x ∷ xs) = elim (p x) as (λ (b : Bool). list_any t (if b then x ∷ filter p xs else filter p xs)
    ≡ ((b && t x) || list_any (λ y. p y && t y) xs))
    [ true ↦ ap (λ (b : Bool). t x || b) (any_filtered p t xs) | false ↦ any_filtered p t xs ]

pub counted_known : (xs : List value_type.Value) → All Found xs → lasting xs ≡ xs → counting (known_in xs) ≡ map know xs
counted_known xs found same = ap counting (known_list xs found)
    ∙ (counting_map (λ v. amount_or_0 v.found) known_source xs ∙ ap (map know) same)

pub rests : (g : Bool) (from to : ℕ) (xs : List value_type.Value) (a b d : Bool) → All Found xs → lasting xs ≡ xs
    → a ≡ list_any (λ v. is_so g v.source) (deciding from (known_in xs)) → b ≡ list_any (λ v. is_so g v.source) (deciding to (known_in xs))
    → d ≡ list_any (is_so_between from to g) xs
    → (a || (b || d)) ≡ list_any (λ v. is_so g v.source) (basis from to (known_in xs))
rests g from to xs a b d found same ea eb ed =
    let t : Value → Bool = λ v. is_so g v.source in
    let here : list_any t (filter (is_exchange from to) (counting (known_in xs))) ≡ d =
    ap (λ (l : List Value). list_any t (filter (is_exchange from to) l)) (counted_known xs found same)
    ∙ (any_filtered (is_exchange from to) t (map know xs)
    ∙ (any_map (λ (v : Value). is_exchange from to v && is_so g v.source) know xs ∙ sym ed)) in
    sym (list_any-append t (deciding from (known_in xs)) (deciding to (known_in xs) ++ filter (is_exchange from to) (counting (known_in xs)))
    ∙ (ap (λ (x : Bool). list_any t (deciding from (known_in xs)) || x)
    (list_any-append t (deciding to (known_in xs)) (filter (is_exchange from to) (counting (known_in xs))))
    ∙ (ap (λ (x : Bool). x || (list_any t (deciding to (known_in xs)) || list_any t (filter (is_exchange from to) (counting (known_in xs))))) (sym ea)
    ∙ (ap (λ (x : Bool). a || (x || list_any t (filter (is_exchange from to) (counting (known_in xs))))) (sym eb)
    ∙ ap (λ (x : Bool). a || (b || x)) here))))

pub has_is : (is : Source → Bool) (run : ℕ) (xs : List value_type.Value) → All Found xs
    → list_any (λ v. (v.run == run) && is (known_source v)) xs ≡ has run is (known_in xs)
has_is is run xs found = sym (ap (list_any (λ (v : Value). (v.run == run) && is v.source)) (known_list xs found)
    ∙ any_map (λ (v : Value). (v.run == run) && is v.source) know xs)

-- ---- what goes on

abbrev pub goes_after : Option ℕ → List Value → Bool
goes_after None values = goes_on values
goes_after (Some m) [] = false
goes_after (Some m) (v ∷ values) = nat_lt m v.moment || goes_on (v ∷ values)

pub goes_more : (v : Value) (values : List Value) → goes_on (v ∷ values) ≡ goes_after (Some v.moment) values
goes_more v [] = refl
goes_more v (x ∷ values) = refl

from_there : (t m : ℕ) → nat_le t m ≡ not (nat_lt m t)
from_there t m = grind (arith, nat_tests)

pub rises_is : (t : ℕ) (before : Option ℕ) (xs : List value_type.Value)
    → rises_from t before xs ≡ goes_after before (filter (λ v. nat_le t v.moment) (map know xs))
rises_is t None [] = refl
rises_is t (Some m) [] = refl
rises_is t None (v ∷ xs) = elim (nat_lt v.moment t) as (λ (b : Bool). (nat_le t v.moment ≡ not b)
    → (if b then rises_from t None xs else (false || rises_from t (Some v.moment) xs))
    ≡ goes_on (if nat_le t v.moment then know v ∷ filter (λ x. nat_le t x.moment) (map know xs) else filter (λ x. nat_le t x.moment) (map know xs))) [
      | true ↦ λ e. rw e (rises_is t None xs)
      | false ↦ λ e. rw e (rises_is t (Some v.moment) xs ∙ sym (goes_more (know v) (filter (λ x. nat_le t x.moment) (map know xs))))
    ] (from_there t v.moment)
rises_is t (Some m) (v ∷ xs) = elim (nat_lt v.moment t) as (λ (b : Bool). (nat_le t v.moment ≡ not b)
    → (if b then rises_from t (Some m) xs else (nat_lt m v.moment || rises_from t (Some v.moment) xs))
    ≡ goes_after (Some m) (if nat_le t v.moment then know v ∷ filter (λ x. nat_le t x.moment) (map know xs) else filter (λ x. nat_le t x.moment) (map know xs))) [
      | true ↦ λ e. rw e (rises_is t (Some m) xs)
      | false ↦ λ e. rw e (ap (λ (b : Bool). nat_lt m v.moment || b)
          (rises_is t (Some v.moment) xs ∙ sym (goes_more (know v) (filter (λ x. nat_le t x.moment) (map know xs)))))
    ] (from_there t v.moment)
