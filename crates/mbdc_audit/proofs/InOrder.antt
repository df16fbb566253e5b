-- The entries of a sound window are in order, so that its parts sum to what the place consumed.
use Rattle.std.proofs.Common.{arith, ◌≡◌, ◌≤◌, ◌<◌, ◌&&◌, ◌⊎◌, inl, inr, ℕ, zero, suc, List, [], ◌∷◌, length, Bool, true, false, map}
use Rattle.std.proofs.Common.{refl, subst, if◌then◌else◌, get_or, Some}
use Rattle.std.specs.Prelude.{AllPairs, ◌==◌}
use Rattle.std.specs.List.{list_any}
use Rattle.mbdc_audit.specs.declared.consumption.entry.Entry.{Entry}
use Rattle.mbdc_audit.specs.Consumption.Order.{IsInOrder}
use Rattle.mbdc_audit.specs.House.{House, Part, Place, Run, Span, Value, Window, put}
use Rattle.mbdc_audit.specs.Amount.{amount, counting, entries, entry_of, is_again, known, no_text}
use Rattle.mbdc_audit.specs.Sound.{IsWindow, Tile, from, to}
use Rattle.mbdc_audit.specs.Published.{house, is_whole, plain, shares_of}
use Rattle.mbdc_audit.proofs.Sums.{of_place}

-- each value is no earlier than the one before it, and the first than a moment
abbrev pub Rise : ℕ → List Value → Type 0
Rise t [] = Unit {0}
Rise t (v ∷ values) = (t ≤ v.moment) × Rise v.moment values

pub from_earlier : (t u : ℕ) (values : List Value) → t ≤ u → Rise u values → Rise t values
from_earlier t u [] le up = tt
from_earlier t u (v ∷ values) le up = (omega (arith, up.0), up.1)

-- ---- the values that count

kept_or_not : (t : ℕ) (v : Value) (xs : List Value) (b : Bool) → t ≤ v.moment → Rise v.moment xs
    → Rise t (if b then xs else v ∷ xs)
kept_or_not t v xs true le up = from_earlier t v.moment xs le up
kept_or_not t v xs false le up = (le, up)

pub counting_rises : (t : ℕ) (values : List Value) → Rise t values → Rise t (counting values)
counting_rises t [] up = tt
counting_rises t (a ∷ []) up = up
counting_rises t (a ∷ b ∷ rest) up = kept_or_not t a (counting (b ∷ rest)) ((a.run == b.run) && (a.moment == b.moment)) up.0
    (counting_rises a.moment (b ∷ rest) up.1)

-- ---- another source

at_once : (a b : ℕ) → a ≡ b → a ≤ b
at_once a b e = omega arith

moved : (a b c : ℕ) → a ≤ b → c ≡ b → a ≤ c
moved a b c le e = omega arith

same_moment : (b : Bool) (v : Value) → (if b then record v { source = put true no_text } else v).moment ≡ v.moment
same_moment true v = refl
same_moment false v = refl

map_rises : (f : Value → Value) → ((v : Value) → (f v).moment ≡ v.moment) → (t : ℕ) (values : List Value)
    → Rise t values → Rise t (map f values)
map_rises f same t [] up = tt
map_rises f same t (v ∷ values) up = (
  moved t v.moment (f v).moment up.0 (same v),
  from_earlier (f v).moment v.moment (map f values) (at_once (f v).moment v.moment (same v))
      (map_rises f same v.moment values up.1),
)

known_rises : (t : ℕ) (values : List Value) → Rise t values → Rise t (known values)
known_rises t values up = map_rises
    (λ v. if list_any (is_again v) values then record v { source = put true no_text } else v)
    (λ v. same_moment (list_any (is_again v) values) v) t values up

-- ---- entries

rises : (runs : List Run) (t : ℕ) (values : List Value) → Rise t values → (j : ℕ) (d : Entry)
    → j < length (map (entry_of runs) values) → t ≤ (get_or (map (entry_of runs) values) j d).moment
rises runs t [] up j d lt = absurd (omega arith)
rises runs t (v ∷ values) up zero d lt = up.0
rises runs t (v ∷ values) up (suc j) d lt =
    let le = rises runs v.moment values up.1 j d (omega arith) in omega (arith, le, up.0)

pub in_order : (runs : List Run) (t : ℕ) (values : List Value) → Rise t values → IsInOrder (map (entry_of runs) values)
in_order runs t [] up i j d le lt = absurd (omega arith)
in_order runs t (v ∷ values) up zero zero d le lt = omega arith
in_order runs t (v ∷ values) up zero (suc j) d le lt = rises runs v.moment values up.1 j d (omega arith)
in_order runs t (v ∷ values) up (suc i) zero d le lt = absurd (omega arith)
in_order runs t (v ∷ values) up (suc i) (suc j) d le lt =
    in_order runs v.moment values up.1 i j d (omega arith) (omega arith)

-- ---- a sound window

abbrev After : Value → Value → Type 0
After a b = (a.moment < b.moment) ⊎ ((a.moment ≡ b.moment) × (a.run ≤ b.run))

later : (a b : Value) → After a b → a.moment ≤ b.moment
later a b (inl lt) = omega arith
later a b (inr same) = at_once a.moment b.moment same.0

rises_in : (t : ℕ) (a : Value) (rest : List Value) → t ≤ a.moment → AllPairs After (a ∷ rest) → Rise t (a ∷ rest)
rises_in t a [] le pairs = (le, tt)
rises_in t a (b ∷ rest) le pairs = (
  le,
  rises_in a.moment b rest (later a b (pairs 0 1 a (omega arith) (omega arith)))
      (λ i j d lt lt'. pairs (suc i) (suc j) d (omega (arith, lt)) (omega (arith, lt'))),
)

from_zero : (values : List Value) → AllPairs After values → Rise 0 values
from_zero [] pairs = tt
from_zero (v ∷ values) pairs = rises_in 0 v values (omega arith) pairs

pub sound_order : (runs : List Run) (values : List Value) → AllPairs After values → IsInOrder (entries runs (known values))
sound_order runs values pairs = in_order runs 0 (counting (known values))
    (counting_rises 0 (known values) (known_rises 0 values (from_zero values pairs)))

pub sound_sum : (h : House) (p : Place) (w : Window) (s : Span) (first : Part) (rest : List Part)
    → IsWindow h p w s → w.parts ≡ first ∷ rest
    → is_whole (shares_of house (record { place = p; window = w })) ≡ true
    → amount p.runs (known w.values) (from p s) (to p s) ≡ Some (plain (shares_of house (record { place = p; window = w })))
sound_sum h p w s first rest sound is whole = of_place (record { place = p; window = w }) (from p s) (to p s) first rest is
    (subst (λ (xs : List Part). Tile (from p s) (to p s) xs) is sound.parts.tile)
    (sound_order p.runs w.values sound.timed.order) whole
