-- The places of a house.
use Rattle.std.proofs.Common.{arith, ◌≡◌, ◌↔◌, ◌<◌, ◌≤◌, ◌+◌, ℕ, List, [], ◌∷◌, length, take, map, flat_map, get_or, sym, ◌∙◌, ap, subst, All, AllPairs, Contains}
use Rattle.std.proofs.Common.{◌++◌}
use Rattle.std.proofs.lemmas.List.{append-nil, get_or-map, length-map, take_all}
use Rattle.std.proofs.lemmas.List.Concat.{flat_map-append}
use Rattle.mbdc_audit.specs.declared.house.Place as place_type
use Rattle.mbdc_audit.specs.House.{House, Place}
use Rattle.mbdc_audit.specs.Sound.{IsOnce, IsOneCurve, IsOneTenancy, IsPlace, fitted, fitted_of, lived, lived_of}
use Rattle.mbdc_audit.specs.View.{place_of}
use Rattle.mbdc_audit.specs.Walk.{GoesWith}
use Rattle.mbdc_audit.proofs.Checks.{all_map, all_more, all_of, back, pairs_of, through, took}
use Rattle.mbdc_audit.proofs.PairsMet.{with_pairs}
use Rattle.mbdc_audit.proofs.Timed.{flat_of}

abbrev pub IsChecked : {A : Type 0} → House → place_type.Place A → Type 0
IsChecked h p = IsPlace h (place_of p) × IsOneCurve h (place_of p)

-- what places have of a kind, in a row
abbrev pub of_places : {A W : Type 0} → (Place → List W) → List (place_type.Place A) → List W
of_places f places = flat_map (λ p. f (place_of p)) places

abbrev pub SoFar : {A : Type 0} → House → List (place_type.Place A) → Type 0
SoFar h places = All (IsChecked h) places × AllPairs IsOnce (of_places fitted_of places) × AllPairs IsOneTenancy (of_places lived_of places)

pub of_more : {A W : Type 0} (f : Place → List W) (places : List (place_type.Place A)) (i : ℕ) (x : place_type.Place A) → i < length places
    → x ≡ get_or places i x → of_places f (take i places) ++ f (place_of x) ≡ of_places f (take (i + 1) places)
of_more {A} {W} f places i x below is = sym (
    ap (λ (ps : List (place_type.Place A)). of_places f ps) (took places i x below is)
    ∙ (flat_map-append (λ p. f (place_of p)) (take i places) (x ∷ []) ∙ ap (λ (ws : List W). of_places f (take i places) ++ ws) (append-nil (f (place_of x))))
    )

pairs_of_more : {A W : Type 0} (R : W → W → Type 0) (f : Place → List W) (places : List (place_type.Place A)) (i : ℕ) (x : place_type.Place A)
    → i < length places → x ≡ get_or places i x
    → (AllPairs R (of_places f (take i places)) × GoesWith R (of_places f (take i places)) (f (place_of x))) ↔ AllPairs R (of_places f (take (i + 1) places))
pairs_of_more R f places i x below is =
    through (with_pairs R (of_places f (take i places)) (f (place_of x))) (pairs_of R (of_more f places i x below is))

pub places_more : {A : Type 0} (h : House) (places : List (place_type.Place A)) (i : ℕ) (x : place_type.Place A) → i < length places
    → x ≡ get_or places i x → (SoFar h (take i places) × (IsPlace h (place_of x) × (IsOneCurve h (place_of x)
    × (GoesWith IsOnce (of_places fitted_of (take i places)) (fitted_of (place_of x))
    × GoesWith IsOneTenancy (of_places lived_of (take i places)) (lived_of (place_of x)))))) ↔ SoFar h (take (i + 1) places)
places_more h places i x below is =
    let each = all_more (IsChecked h) places i x below is in
    let meters = pairs_of_more IsOnce fitted_of places i x below is in
    let parts = pairs_of_more IsOneTenancy lived_of places i x below is in (
      λ r. (each.1 (r.0.0, (r.1.0, r.1.1.0)), meters.0 (r.0.1, r.1.1.1.0), parts.0 (r.0.2, r.1.1.1.1)),
      λ q. let a = each.0 q.0 in let b = meters.1 q.1 in let c = parts.1 q.2 in
          ((a.0, b.0, c.0), (a.1.0, (a.1.1, (b.1, c.1)))),
    )

pub places_full : {A : Type 0} (h : House) (places : List (place_type.Place A)) (i : ℕ) → length places ≤ i
    → SoFar h (take i places) ↔ SoFar h places
places_full {A} h places i past =
    subst (λ (ps : List (place_type.Place A)). SoFar h ps ↔ SoFar h places) (sym (take_all i places past)) (λ s. s, λ s. s)

pub there : {A : Type 0} (h : House) (places : List (place_type.Place A)) → h.places ≡ map place_of places → (i : ℕ) (x : place_type.Place A)
    → i < length places → x ≡ get_or places i x → Contains h.places (place_of x)
there {A} h places is i x below item =
    subst (λ (ps : List Place). Contains ps (place_of x)) (sym is)
    (i, omega (arith, below, length-map places place_of), get_or-map place_of places i x (place_of x) below ∙ ap place_of (sym item))

pub places_all : {A : Type 0} (h : House) (items places : List (place_type.Place A)) → places ≡ items → h.places ≡ map place_of items
    → SoFar h places ↔ (All (λ p. IsPlace h p × IsOneCurve h p) h.places × AllPairs IsOnce (fitted h) × AllPairs IsOneTenancy (lived h))
places_all {A} h items places same is =
    let there : map place_of places ≡ h.places = ap (λ (ps : List (place_type.Place A)). map place_of ps) same ∙ sym is in
    let each = through (back (all_map (λ p. IsPlace h p × IsOneCurve h p) place_of places)) (all_of (λ p. IsPlace h p × IsOneCurve h p) there) in
    let meters = pairs_of IsOnce (flat_of fitted_of place_of places ∙ ap (λ (ps : List Place). flat_map fitted_of ps) there) in
    let parts = pairs_of IsOneTenancy (flat_of lived_of place_of places ∙ ap (λ (ps : List Place). flat_map lived_of ps) there) in
    (λ r. (each.0 r.0, meters.0 r.1, parts.0 r.2), λ q. (each.1 q.0, meters.1 q.1, parts.1 q.2))
