-- What dates the storage numbers of a readout, and the days of its due-date values.
use Rattle.std.proofs.Common.{◌≡◌, Bool, true, false, cond, List, [], ◌∷◌, filter, Option, None, Some, refl, sym, ap, ◌∙◌}
use Rattle.std.specs.Prelude.{◌||◌}
use Rattle.std.specs.Option.{option_or, is_some}
use Rattle.std.specs.List.{list_any, filter_map, cons_option}
use Rattle.std.specs.Iterator.{YieldsFirst}
use Rattle.std.specs.Ordering.{nat_cmp, ordering_then, is_eq}
use Rattle.std.specs.Cmp.{both_tied, unsigned_ties}
use Rattle.dc_units.specs.declared.point.Point.{Point}
use Rattle.dc_units.specs.Date.{Day}
use Rattle.dc_meters.specs.Due.{due_day, due_days, is_due, is_on, same_day, day_cmp}

pub or-assoc : (a b c : Option Day) → option_or (option_or a b) c ≡ option_or a (option_or b c)
or-assoc None b c = refl
or-assoc (Some day) b c = refl

pub or-none : (a : Option Day) → option_or a None ≡ a
or-none None = refl
or-none (Some day) = refl

-- ---- the first of the points that are left

pub kept : {X : Type 0} (f : X → Bool) (xs : List X) (x : X) (rest : List X) → xs ≡ x ∷ rest → f x ≡ true → filter f xs ≡ x ∷ filter f rest
kept f xs x rest first is = ap (filter f) first ∙ ap (λ (b : Bool). cond b (x ∷ filter f rest) (filter f rest)) is

pub passed : {X : Type 0} (f : X → Bool) (xs : List X) (x : X) (rest : List X) → xs ≡ x ∷ rest → f x ≡ false → filter f xs ≡ filter f rest
passed f xs x rest first is = ap (filter f) first ∙ ap (λ (b : Bool). cond b (x ∷ filter f rest) (filter f rest)) is

pub mapped : {X Y : Type 0} (f : X → Option Y) (xs : List X) (x : X) (rest : List X) (y : Y) → xs ≡ x ∷ rest → f x ≡ Some y → filter_map f xs ≡ y ∷ filter_map f rest
mapped {Y = Y} f xs x rest y first is = ap (filter_map f) first ∙ ap (λ (o : Option Y). cons_option o (filter_map f rest)) is

pub skipped : {X Y : Type 0} (f : X → Option Y) (xs : List X) (x : X) (rest : List X) → xs ≡ x ∷ rest → f x ≡ None → filter_map f xs ≡ filter_map f rest
skipped {Y = Y} f xs x rest first is = ap (filter_map f) first ∙ ap (λ (o : Option Y). cons_option o (filter_map f rest)) is

-- ---- whether there is any

abbrev pub not_empty : {X : Type 0} → List X → Bool
not_empty [] = false
not_empty (x ∷ xs) = true

one_more : {X : Type 0} (here later : Bool) (x : X) (xs : List X) → later ≡ not_empty xs → (here || later) ≡ not_empty (cond here (x ∷ xs) xs)
one_more true later x xs is = refl
one_more false later x xs is = is

pub some_kept : {X : Type 0} (f : X → Bool) (xs : List X) → list_any f xs ≡ not_empty (filter f xs)
some_kept f [] = refl
some_kept f (x ∷ xs) = one_more (f x) (list_any f xs) x (filter f xs) (some_kept f xs)

pub first_kept : {X : Type 0} (f : X → Bool) (xs : List X) (o : Option X) (rest : List X) → YieldsFirst (λ (l : List X). l) (filter f xs) o rest → is_some o ≡ list_any f xs
first_kept f xs None rest yields = sym (some_kept f xs ∙ ap not_empty yields.0)
first_kept f xs (Some x) rest yields = sym (some_kept f xs ∙ ap not_empty yields)

-- ---- an index by due date

pub same_day-is : (a b : Day) → same_day a b ≡ is_eq (day_cmp a b)
same_day-is a b =
    both_tied _ _ (nat_cmp a.year b.year) (ordering_then (nat_cmp a.month b.month) (nat_cmp a.day b.day)) (unsigned_ties a.year b.year)
    (both_tied _ _ (nat_cmp a.month b.month) (nat_cmp a.day b.day) (unsigned_ties a.month b.month) (unsigned_ties a.day b.day))

day_among : (date : Day) (o : Option Day) (days : List Day) → list_any (λ day. same_day day date) (cons_option o days) ≡ (is_on date o || list_any (λ day. same_day day date) days)
day_among date None days = refl
day_among date (Some day) days = refl

among_days : (date : Day) (all points : List Point) → list_any (λ day. same_day day date) (filter_map (due_day all) points) ≡ list_any (is_due date all) points
among_days date all [] = refl
among_days date all (p ∷ points) =
    day_among date (due_day all p) (filter_map (due_day all) points) ∙ ap (λ (b : Bool). is_on date (due_day all p) || b) (among_days date all points)

-- the due days are the days for which there is a due-date value
pub due_days_are : (date : Day) (points : List Point) → list_any (λ day. same_day day date) (due_days points) ≡ list_any (is_due date points) points
due_days_are date points = among_days date points points
