-- The moments at which a number of a place may begin and end.
use Rattle.std.proofs.Common.{arith, ◌≡◌, ◌||◌, ◌-◌, ◌<◌, ◌≤◌, ℕ, zero, suc, List, [], ◌∷◌, ◌++◌, Bool, true, false, map, length, Option, None, Some}
use Rattle.std.proofs.Common.{refl, sym, ap, ◌∙◌, get_or, eqb-true, eq-eqb}
use Rattle.std.specs.Prelude.{◌==◌, ◌↔◌, Contains, IsTrue, flat_map}
use Rattle.std.specs.List.{list_any}
use Rattle.std.proofs.lemmas.List.Folds.{list_any-append}
use Rattle.mbdc_audit.specs.declared.curve.Run as run_type
use Rattle.mbdc_audit.specs.declared.house.Part as part_type
use Rattle.mbdc_audit.specs.declared.house.Place as place_type
use Rattle.mbdc_audit.specs.declared.house.Window as window_type
use Rattle.mbdc_audit.specs.Amount.{is_over_at}
use Rattle.mbdc_audit.specs.Evidence.{list_of}
use Rattle.mbdc_audit.specs.House.{Span}
use Rattle.mbdc_audit.specs.Published.{IsPeriod, Open, cuts}
use Rattle.mbdc_audit.specs.Sound.{Tile, from, to}
use Rattle.mbdc_audit.specs.View.{part_of, place_of, run_of, window_of}
use Rattle.mbdc_audit.specs.Walk.{open_of}

-- ---- what a list contains, as a test

found_by : (moment x : ℕ) (xs : List ℕ) (b : Bool) → (x == moment) ≡ b → (list_any (λ x. x == moment) xs ≡ true → Contains xs moment)
    → (b || list_any (λ x. x == moment) xs) ≡ true → Contains (x ∷ xs) moment
found_by moment x xs true e more is = (0, omega arith, eqb-true x moment e)
found_by moment x xs false e more is = let there = more is in (suc there.0, omega (arith, there.1), there.2)

found : (moment : ℕ) (xs : List ℕ) → list_any (λ x. x == moment) xs ≡ true → Contains xs moment
found moment [] e = absurd cc
found moment (x ∷ xs) e = found_by moment x xs (x == moment) refl (found moment xs) e

or_true : (b : Bool) → (b || true) ≡ true
or_true true = refl
or_true false = refl

there_at : (moment : ℕ) (xs : List ℕ) (k : ℕ) → k < length xs → get_or xs k moment ≡ moment → list_any (λ x. x == moment) xs ≡ true
there_at moment [] k lt e = absurd (omega (arith, lt))
there_at moment (x ∷ xs) zero lt e = ap (λ (b : Bool). b || list_any (λ x. x == moment) xs) (eq-eqb x moment e)
there_at moment (x ∷ xs) (suc k) lt e = ap (λ (b : Bool). (x == moment) || b) (there_at moment xs k (omega (arith, lt)) e) ∙ or_true (x == moment)

there : (moment : ℕ) (xs : List ℕ) → Contains xs moment → list_any (λ x. x == moment) xs ≡ true
there moment xs has = there_at moment xs has.0 has.1 has.2

-- ---- parts and runs

or_assoc : (a b c : Bool) → (a || (b || c)) ≡ ((a || b) || c)
or_assoc true b c = refl
or_assoc false b c = refl

parts_is : (moment : ℕ) (parts : List part_type.Part)
    → list_any (λ x. x == moment) (flat_map (λ x. x.from ∷ x.to ∷ []) (map part_of parts)) ≡ list_any (λ x. (x.from == moment) || (x.to == moment)) parts
parts_is moment [] = refl
parts_is moment (x ∷ parts) = or_assoc (x.from == moment) (x.to == moment) _
    ∙ ap (λ (b : Bool). ((x.from == moment) || (x.to == moment)) || b) (parts_is moment parts)

over_is : (moment : ℕ) (over : Option ℕ) (xs : List ℕ) (b : Bool) → list_any (λ x. x == moment) xs ≡ b
    → list_any (λ x. x == moment) (list_of over ++ xs) ≡ (is_over_at moment over || b)
over_is moment None xs b e = e
over_is moment (Some over) xs b e = ap (λ (c : Bool). (over == moment) || c) e

runs_is : (moment : ℕ) (runs : List run_type.Run)
    → list_any (λ x. x == moment) (flat_map (λ r. r.begin ∷ list_of r.over) (map run_of runs)) ≡ list_any (λ r. (r.begin == moment) || is_over_at moment r.end) runs
runs_is moment [] = refl
runs_is moment (r ∷ runs) = ap (λ (b : Bool). (r.begin == moment) || b) (over_is moment r.end _ _ (runs_is moment runs))
    ∙ or_assoc (r.begin == moment) (is_over_at moment r.end) _

pub cuts_is : {A : Type 0} (p : place_type.Place A) (w : window_type.Window A) (moment : ℕ)
    → list_any (λ x. x == moment) (cuts (open_of (place_of p) (window_of w)))
    ≡ (list_any (λ x. (x.from == moment) || (x.to == moment)) w.parts.items || list_any (λ r. (r.begin == moment) || is_over_at moment r.end) p.runs.items)
cuts_is p w moment = list_any-append (λ (x : ℕ). x == moment) (flat_map (λ x. x.from ∷ x.to ∷ []) (map part_of w.parts.items)) (flat_map (λ r. r.begin ∷ list_of r.over) (map run_of p.runs.items))
    ∙ (ap (λ (b : Bool). b || list_any (λ x. x == moment) (flat_map (λ r. r.begin ∷ list_of r.over) (map run_of p.runs.items))) (parts_is moment w.parts.items)
    ∙ ap (λ (b : Bool). list_any (λ x. (x.from == moment) || (x.to == moment)) w.parts.items || b) (runs_is moment p.runs.items))

pub cut : {A : Type 0} (p : place_type.Place A) (w : window_type.Window A) (moment : ℕ) (one other : Bool)
    → one ≡ list_any (λ x. (x.from == moment) || (x.to == moment)) w.parts.items → other ≡ list_any (λ r. (r.begin == moment) || is_over_at moment r.end) p.runs.items
    → IsTrue (one || other) ↔ Contains (cuts (open_of (place_of p) (window_of w))) moment
cut p w moment one other e f =
    let is : (one || other) ≡ list_any (λ x. x == moment) (cuts (open_of (place_of p) (window_of w))) =
    ap (λ (b : Bool). b || other) e ∙ (ap (λ (b : Bool). list_any (λ x. (x.from == moment) || (x.to == moment)) w.parts.items || b) f ∙ sym (cuts_is p w moment)) in
    (λ yes. found moment (cuts (open_of (place_of p) (window_of w))) (sym is ∙ yes), λ has. is ∙ there moment (cuts (open_of (place_of p) (window_of w))) has)

-- ---- the ends of parts that tile

pub first_begins : (a b : ℕ) (parts : List part_type.Part) (x : part_type.Part) → Tile a b (map part_of parts) → 0 < length parts → x ≡ get_or parts 0 x → x.from ≡ a
first_begins a b [] x tile some e = absurd (omega (arith, some))
first_begins a b (p ∷ parts) x tile some e = ap (λ (x : part_type.Part). x.from) e ∙ tile.0

less : (n : ℕ) → suc (suc n) - 1 ≡ suc (suc n - 1)
less n = omega arith

later : (p : part_type.Part) (parts : List part_type.Part) (x : part_type.Part) → 0 < length parts → get_or (p ∷ parts) (length (p ∷ parts) - 1) x ≡ get_or parts (length parts - 1) x
later p [] x some = absurd (omega (arith, some))
later p (q ∷ parts) x some = ap (λ (n : ℕ). get_or (p ∷ q ∷ parts) n x) (less (length parts))

pub last_ends : (a b : ℕ) (parts : List part_type.Part) (x : part_type.Part) → Tile a b (map part_of parts) → 0 < length parts → x ≡ get_or parts (length parts - 1) x → x.to ≡ b
last_ends a b [] x tile some e = absurd (omega (arith, some))
last_ends a b (p ∷ []) x tile some e = ap (λ (x : part_type.Part). x.to) e ∙ tile.2
last_ends a b (p ∷ q ∷ parts) x tile some e = last_ends p.to b (q ∷ parts) x tile.2 (omega arith) (e ∙ later p (q ∷ parts) x (omega arith))

-- ---- periods

pub within : (o : Open) (s : Span) (a b from_is to_is : ℕ) (begins ends r : Bool) → (IsTrue begins ↔ Contains (cuts o) a) → (IsTrue ends ↔ Contains (cuts o) b) → begins ≡ true → ends ≡ true
    → from_is ≡ from o.place s → to_is ≡ to o.place s → (IsTrue r ↔ ((a < b) × (from_is ≤ a) × (b ≤ to_is))) → IsTrue r ↔ IsPeriod s a b o
within o s a b from_is to_is begins ends r one other e f at by is = (
  λ yes. let w = is.0 yes in (w.0, omega (arith, w.1, at), omega (arith, w.2, by), one.0 e, other.0 f),
  λ period. is.1 (period.0, omega (arith, period.1, at), omega (arith, period.2, by)),
)
