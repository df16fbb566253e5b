-- A number is asked of a house.
use Rattle.std.proofs.Common.{arith, ◌≡◌, ◌↔◌, ◌<◌, ◌≤◌, ◌++◌, ◌⊎◌, inl, inr, ℕ, zero, suc, List, [], ◌∷◌, length, map, flat_map, get_or, refl, sym, ◌∙◌, ap, subst, Any}
use Rattle.std.proofs.lemmas.List.{length-append, length-map, append-nil}
use Rattle.std.proofs.lemmas.List.Concat.{flat_map-append}
use Rattle.std.proofs.lemmas.List.Folds.{Any-from_list_any, list_any-from_Any}
use Rattle.std.specs.List.{list_any}
use Rattle.std.specs.Prelude.{◌==◌, not, true}
use Rattle.std.proofs.Common.{false, eqb}
use Rattle.std.proofs.lemmas.Bool.{cases_lt}
use Rattle.std.proofs.lemmas.Bool.Decides.{nat_tests}
use Rattle.mbdc_audit.specs.declared.house.Place as place_type
use Rattle.mbdc_audit.specs.declared.house.Window as window_type
use Rattle.mbdc_audit.specs.File.{all_numbers, all_opened}
use Rattle.mbdc_audit.specs.House.{House, Number, Place}
use Rattle.mbdc_audit.specs.Published.{Open}
use Rattle.mbdc_audit.specs.View.{place_of, window_of, number_of}
use Rattle.mbdc_audit.proofs.Checks.{any_map, through}

-- whether one of a list isn't empty, by its test
pub any_some : {X Y : Type 0} (f : X → List Y) (xs : List X) → list_any (λ x. not (length (f x) == 0)) xs ≡ true ↔ Any (λ x. 0 < length (f x)) xs
any_some f xs = (
  λ t. let a = Any-from_list_any (λ x. not (length (f x) == 0)) xs t in (a.0, a.1, a.2, a.3, grind (arith, nat_tests, a.4)),
  λ a. list_any-from_Any (λ x. not (length (f x) == 0)) xs (a.0, a.1, a.2, a.3, grind (arith, nat_tests, a.4)),
)

any_here : {X : Type 0} (P : X → Type 0) (x : X) (xs : List X) → P x → Any P (x ∷ xs)
any_here P x xs p = (0, x, omega arith, refl, p)

any_later : {X : Type 0} (P : X → Type 0) (x : X) (xs : List X) → Any P xs → Any P (x ∷ xs)
any_later P x xs a = (suc a.0, a.1, omega (arith, a.2), a.3, a.4)

any_cases : {X : Type 0} (P : X → Type 0) (x : X) (xs : List X) (k : ℕ) (y : X) → k < length (x ∷ xs) → get_or (x ∷ xs) k y ≡ y → P y → P x ⊎ Any P xs
any_cases {X} P x xs zero y lt is p = inl (subst P (sym is) p)
any_cases P x xs (suc k) y lt is p = inr (k, y, omega arith, is, p)

flat_to : {X Y : Type 0} (f : X → List Y) (xs : List X) → 0 < length (flat_map f xs) → Any (λ x. 0 < length (f x)) xs
flat_to f [] lt = absurd (omega arith)
flat_to f (x ∷ xs) lt = by_cases (flat_to f xs) (cases_lt 0 (length (f x)))
  where
    by_cases : (0 < length (flat_map f xs) → Any (λ x. 0 < length (f x)) xs) → (0 < length (f x)) ⊎ (length (f x) ≤ 0) → Any (λ x. 0 < length (f x)) (x ∷ xs)
    by_cases more (inl some) = any_here (λ x. 0 < length (f x)) x xs some
    by_cases more (inr none) = any_later (λ x. 0 < length (f x)) x xs (more (omega (arith, length-append (f x) (flat_map f xs), lt)))

flat_from : {X Y : Type 0} (f : X → List Y) (xs : List X) → Any (λ x. 0 < length (f x)) xs → 0 < length (flat_map f xs)
flat_from f [] a = absurd (omega (arith, a.2))
flat_from f (x ∷ xs) a = by_cases (flat_from f xs) (any_cases (λ x. 0 < length (f x)) x xs a.0 a.1 a.2 a.3 a.4)
  where
    by_cases : (Any (λ x. 0 < length (f x)) xs → 0 < length (flat_map f xs)) → (0 < length (f x)) ⊎ Any (λ x. 0 < length (f x)) xs → 0 < length (f x ++ flat_map f xs)
    by_cases more (inl some) = omega (arith, length-append (f x) (flat_map f xs))
    by_cases more (inr later) = let rest = more later in omega (arith, length-append (f x) (flat_map f xs), rest)

flat_some : {X Y : Type 0} (f : X → List Y) (xs : List X) → (0 < length (flat_map f xs)) ↔ Any (λ x. 0 < length (f x)) xs
flat_some f xs = (flat_to f xs, flat_from f xs)

flat_flat : {X Y Z : Type 0} (g : Y → List Z) (k : X → List Y) (xs : List X) → flat_map g (flat_map k xs) ≡ flat_map (λ x. flat_map g (k x)) xs
flat_flat g k [] = refl
flat_flat {X} {Y} {Z} g k (x ∷ xs) =
    flat_map-append g (k x) (flat_map k xs) ∙ ap (λ (zs : List Z). flat_map g (k x) ++ zs) (flat_flat g k xs)

any_weaker : {X : Type 0} (P Q : X → Type 0) (xs : List X) → ((x : X) → P x ↔ Q x) → Any P xs ↔ Any Q xs
any_weaker P Q xs each = (λ a. (a.0, a.1, a.2, a.3, (each a.1).0 a.4), λ a. (a.0, a.1, a.2, a.3, (each a.1).1 a.4))

abbrev numbers_of : Place → List Number
numbers_of p = flat_map (λ (o : Open). o.window.numbers) (map (λ w. record { place = p; window = w }) p.windows)

of_window : {A : Type 0} (w : window_type.Window A) → (0 < length (window_of w).numbers) ↔ (0 < length w.numbers.items)
of_window w = let e = length-map w.numbers.items number_of in (λ lt. omega (arith, e, lt), λ lt. omega (arith, e, lt))

of_place : {A : Type 0} (q : place_type.Place A) → (0 < length (numbers_of (place_of q))) ↔ Any (λ w. 0 < length w.numbers.items) q.windows.items
of_place q = through (flat_some (λ (o : Open). o.window.numbers) (map (λ w. record { place = place_of q; window = w }) (map window_of q.windows.items)))
    (through (any_map (λ (o : Open). 0 < length o.window.numbers) (λ w. record { place = place_of q; window = w }) (map window_of q.windows.items))
    (through (any_map (λ w. 0 < length w.numbers) window_of q.windows.items)
    (any_weaker (λ w. 0 < length (window_of w).numbers) (λ w. 0 < length w.numbers.items) q.windows.items of_window)))

pub asked : {A : Type 0} (h : House) (items : List (place_type.Place A)) → h.places ≡ map place_of items → h.numbers ≡ []
    → (0 < length (all_numbers h)) ↔ Any (λ p. Any (λ w. 0 < length w.numbers.items) p.windows.items) items
asked {A} h items is none =
    let all : all_numbers h ≡ flat_map numbers_of (map place_of items) =
    ap (λ (ns : List Number). flat_map (λ (o : Open). o.window.numbers) (all_opened h) ++ ns) none
    ∙ (append-nil (flat_map (λ (o : Open). o.window.numbers) (all_opened h))
    ∙ (flat_flat (λ (o : Open). o.window.numbers) (λ p. map (λ w. record { place = p; window = w }) p.windows) h.places
    ∙ ap (λ (ps : List Place). flat_map numbers_of ps) is)) in
    through (λ lt. subst (λ (ns : List Number). 0 < length ns) all lt, λ lt. subst (λ (ns : List Number). 0 < length ns) (sym all) lt)
    (through (flat_some numbers_of (map place_of items)) (through (any_map (λ p. 0 < length (numbers_of p)) place_of items)
    (any_weaker (λ q. 0 < length (numbers_of (place_of q))) (λ p. Any (λ w. 0 < length w.numbers.items) p.windows.items) items of_place)))

pub not_zero : (n : ℕ) → false ≡ eqb n 0 → 0 < n
not_zero n e = grind (arith, nat_tests)
