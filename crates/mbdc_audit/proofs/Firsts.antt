-- The first record that is meant and counts.
use Rattle.std.proofs.Common.{arith, ◌≡◌, ◌<◌, ◌≤◌, ◌+◌, ℕ, zero, suc, List, [], ◌∷◌, ◌++◌, length, true, false, Option, Some, None, sym, ap, ◌∙◌, subst, refl, map, take, drop, get_or, drop-cons, take-append-drop}
use Rattle.std.specs.Prelude.{All, IfSome, is_some}
use Rattle.std.proofs.lemmas.Grind.{common_steps}
use Rattle.std.proofs.lemmas.List.Elements.{All-more}
use Rattle.dc_records.specs.Record.{Entry, view}
use Rattle.dc_records.specs.declared.record.Record.{Record}
use Rattle.mbdc_audit.specs.Evidence.{Counts, Gives, IsIt, is_meant}
use Rattle.mbdc_audit.specs.declared.uses.Counted.{Counted}
use Rattle.mbdc_audit.proofs.Records.{one_amount}

-- what one record counts, if it is meant
pub record Told (vib : List ℕ) (q : Counted) (day : Option ℕ) (all : List Entry) (e : Entry) (o : Option ℕ) : Type 0 where
  pub ok : IfSome o (IsIt vib q day all e)
  pub only : (amount : ℕ) → IsIt vib q day all e amount → o ≡ Some amount

abbrev pub IsNone : List ℕ → Counted → Option ℕ → List Entry → Record → Type 0
IsNone vib q day all r = (n : ℕ) → IsIt vib q day all (view r) n → ⊥

map_both : (xs ys : List Record) → map view (xs ++ ys) ≡ map view xs ++ map view ys
map_both [] ys = refl
map_both (x ∷ xs) ys = ap (λ (l : List Entry). view x ∷ l) (map_both xs ys)

whole : (rs : List Record) (i : ℕ) (d : Record) → i < length rs → rs ≡ take i rs ++ (get_or rs i d ∷ drop (suc i) rs)
whole rs i d lt = sym (take-append-drop i rs) ∙ ap (λ (l : List Record). take i rs ++ l) (drop-cons rs i d lt)

by_place : (vib : List ℕ) (q : Counted) (day : Option ℕ) (all : List Entry) (r : Record) (rs : List Record)
    → All (IsNone vib q day all) (r ∷ rs)
    → All (λ e. is_meant day all e ≡ true → (n : ℕ) → Counts vib q e n → ⊥) (map view rs)
    → All (λ e. is_meant day all e ≡ true → (n : ℕ) → Counts vib q e n → ⊥) (map view (r ∷ rs))
by_place vib q day all r rs h t zero d lt = λ m n x. h 0 r (omega arith) n (m, x)
by_place vib q day all r rs h t (suc k) d lt = t k d (omega (arith, lt))

none_in : (vib : List ℕ) (q : Counted) (day : Option ℕ) (all : List Entry) (rs : List Record) → All (IsNone vib q day all) rs
    → All (λ e. is_meant day all e ≡ true → (n : ℕ) → Counts vib q e n → ⊥) (map view rs)
none_in vib q day all [] h = λ k d lt. absurd (omega (arith, lt))
none_in vib q day all (r ∷ rs) h = λ k d lt. by_place vib q day all r rs h (none_in vib q day all rs (λ j x lt'. h (suc j) x (omega (arith, lt')))) k d lt

pub gives : (vib : List ℕ) (q : Counted) (day : Option ℕ) (rs : List Record) (i : ℕ) (d : Record) (n : ℕ) → i < length rs
    → All (IsNone vib q day (map view rs)) (take i rs) → IsIt vib q day (map view rs) (view (get_or rs i d)) n
    → Gives vib q day (map view rs) n
gives vib q day rs i d n lt none it = record {
  before = map view (take i rs);
  it = view (get_or rs i d);
  after = map view (drop (suc i) rs);
  parts = ap (map view) (whole rs i d lt) ∙ map_both (take i rs) (get_or rs i d ∷ drop (suc i) rs);
  meant = it.0;
  counts = it.1;
  is_first = none_in vib q day (map view rs) (take i rs) none;
}

found : (vib : List ℕ) (q : Counted) (day : Option ℕ) (rs : List Record) (i : ℕ) (d : Record) (o : Option ℕ) → i < length rs
    → All (IsNone vib q day (map view rs)) (take i rs) → IfSome o (IsIt vib q day (map view rs) (view (get_or rs i d)))
    → IfSome o (Gives vib q day (map view rs))
found vib q day rs i d None lt none it = tt
found vib q day rs i d (Some n) lt none it = gives vib q day rs i d n lt none it

pub first : (vib : List ℕ) (q : Counted) (day : Option ℕ) (rs : List Record) (i : ℕ) (d : Record) (o : Option ℕ) → i < length rs
    → All (IsNone vib q day (map view rs)) (take i rs) → Told vib q day (map view rs) (view (get_or rs i d)) o
    → IfSome o (Gives vib q day (map view rs))
first vib q day rs i d o lt none t = found vib q day rs i d o lt none t.ok

pub one : (vib : List ℕ) (q : Counted) (day : Option ℕ) (rs : List Record) (i : ℕ) (d : Record) (o : Option ℕ) → i < length rs
    → All (IsNone vib q day (map view rs)) (take i rs) → Told vib q day (map view rs) (view (get_or rs i d)) o
    → true ≡ is_some o → (amount : ℕ) → Gives vib q day (map view rs) amount → o ≡ Some amount
one vib q day rs i d None lt none t there amount g = absurd cc
one vib q day rs i d (Some n) lt none t there amount g = ap (λ (m : ℕ). Some m)
    (one_amount vib q day (map view rs) n amount (gives vib q day rs i d n lt none t.ok) g)

none_here : (vib : List ℕ) (q : Counted) (day : Option ℕ) (all : List Entry) (r : Record) (o : Option ℕ)
    → Told vib q day all (view r) o → false ≡ is_some o → IsNone vib q day all r
none_here vib q day all r None t none n it = let e = t.only n it in absurd cc
none_here vib q day all r (Some m) t none n it = absurd cc

pub later : (vib : List ℕ) (q : Counted) (day : Option ℕ) (rs : List Record) (i : ℕ) (d : Record) (o : Option ℕ) → i < length rs
    → All (IsNone vib q day (map view rs)) (take i rs) → Told vib q day (map view rs) (view (get_or rs i d)) o
    → false ≡ is_some o → All (IsNone vib q day (map view rs)) (take (i + 1) rs)
later vib q day rs i d o lt h t none = All-more (IsNone vib q day (map view rs)) rs i d lt h
    (none_here vib q day (map view rs) (get_or rs i d) o t none)

at_middle : (P : Entry → Type 0) (before : List Entry) (it : Entry) (after : List Entry) → All P (before ++ (it ∷ after)) → P it
at_middle P [] it after h = h 0 it (omega arith)
at_middle P (b ∷ before) it after h = at_middle P before it after (λ k d lt. h (suc k) d (omega (arith, lt)))

pub never : (vib : List ℕ) (q : Counted) (day : Option ℕ) (rs : List Record) → All (IsNone vib q day (map view rs)) rs
    → (amount : ℕ) → Gives vib q day (map view rs) amount → ⊥
never vib q day rs none amount g = at_middle (λ e. is_meant day (map view rs) e ≡ true → (n : ℕ) → Counts vib q e n → ⊥)
    g.before g.it g.after (subst (λ (l : List Entry). All (λ e. is_meant day (map view rs) e ≡ true → (n : ℕ) → Counts vib q e n → ⊥) l) g.parts
    (none_in vib q day (map view rs) rs none)) g.meant amount g.counts

pub never_after : (vib : List ℕ) (q : Counted) (day : Option ℕ) (rs : List Record) (i : ℕ) → length rs ≤ i
    → All (IsNone vib q day (map view rs)) (take i rs) → (amount : ℕ) → Gives vib q day (map view rs) amount → ⊥
never_after vib q day rs i over none =
    let all : take i rs ≡ rs = grind (arith, common_steps) in
    never vib q day rs (subst (λ (l : List Record). All (IsNone vib q day (map view rs)) l) all none)
