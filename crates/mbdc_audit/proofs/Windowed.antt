-- The parts of what is checked of a place.
use Rattle.std.proofs.Common.{Bool, true, false, cond, eqb, eqb-true, eq-eqb, IsTrue, zero, suc, ◌≤◌, ◌↔◌, ◌+◌, [], ◌∷◌, refl, sym, ap, subst, ◌∙◌, arith, All, AllPairs, Any, IfSome, map, take, get_or, Option, None, ◌≡◌, ◌<◌, ◌⊎◌, inl, inr, ◌==◌, ℕ, List, length, filter, if◌then◌else◌, nat_lt, Some, slice_get}
use Rattle.mbdc_audit.specs.declared.curve.Run as run_type
use Rattle.mbdc_audit.specs.declared.house.Allowed as allowed_type
use Rattle.mbdc_audit.specs.declared.house.User as user_type
use Rattle.mbdc_audit.specs.declared.house.Window as window_type
use Rattle.mbdc_audit.specs.House.{Allowed, House, Place, Run, Span, Use, User, Value, Window}
use Rattle.mbdc_audit.specs.Sound.{IsAllowed, IsOver, AreRuns, IsAt, IsBuilt, IsPlace, IsSpanned, IsSpannedBy, IsType, IsUserOf, IsWindow, from, to}
use Rattle.mbdc_audit.specs.View.{allowed_of, run_of, use_of, user_of, window_of}
use Rattle.std.proofs.lemmas.Bool.Decides.{nat_tests}
use Rattle.std.proofs.lemmas.Bool.{cases_lt}
use Rattle.std.proofs.Common.{Contains, IsSome}
use Rattle.std.proofs.lemmas.List.Elements.{All-contains}
use Rattle.std.proofs.lemmas.Option.{none-some, same_Some, slice_get_within}
use Rattle.mbdc_audit.specs.declared.house.Use as use_type
use Rattle.mbdc_audit.specs.declared.uses.Counted.TheVariants.{Allocation}
use Rattle.mbdc_audit.proofs.Checks.{all_map, all_more, all_of, any_map, back, pairs_map, pairs_more, pairs_of, through}

abbrev pub IsOpened : {A : Type 0} → House → Place → window_type.Window A → Type 0
IsOpened h p w = (s : Span) × (slice_get h.spans w.span ≡ Some s) × IsWindow h p (window_of w) s

abbrev pub HasTime : run_type.Run → Type 0
HasTime r = (over : ℕ) → r.end ≡ Some over → r.begin < over

abbrev pub IsFollowed : run_type.Run → run_type.Run → Type 0
IsFollowed a b = IsOver a.end b.begin

abbrev pub IsCounted : House → ℕ → List ℕ → run_type.Run → Type 0
IsCounted h used name r = IsAllowed h used (run_of r) ⊎ IsType name (run_of r)

pub fourth : {P Q R S : Type 0} → (P × Q × R × S) ↔ ((P × Q × R) × S)
fourth = (λ r. ((r.0, r.1, r.2), r.3), λ r. (r.0.0, r.0.1, r.0.2, r.1))

pub of_flat : (users : List user_type.User) (flat : List ℕ) (user : Option ℕ) (h : House) → h.users ≡ map user_of users
    → IfSome user (λ n. Any (λ u. (u.number ≡ n) × (u.flat.now ≡ flat)) users) ↔ IsUserOf h flat user
of_flat users flat None h is = (λ t. tt, λ t. tt)
of_flat users flat (Some n) h is =
    subst (λ (us : List User). Any (λ u. (u.number ≡ n) × (u.flat.now ≡ flat)) users ↔ Any (λ u. (u.number ≡ n) × (u.flat ≡ flat)) us) (sym is)
    (back (any_map (λ u. (u.number ≡ n) × (u.flat ≡ flat)) user_of users))

pub third : {P Q R : Type 0} → (P × Q × R) ↔ ((P × Q) × R)
third = (λ r. ((r.0, r.1), r.2), λ r. (r.0.0, r.0.1, r.1))

either : {P Q R : Type 0} → P ↔ Q → (P ⊎ R) ↔ (Q ⊎ R)
either {P} {Q} {R} f = (one f, other f)
  where
    one : P ↔ Q → P ⊎ R → Q ⊎ R
    one f (inl p) = inl (f.0 p)
    one f (inr r) = inr r

    other : P ↔ Q → Q ⊎ R → P ⊎ R
    other f (inl q) = inl (f.1 q)
    other f (inr r) = inr r

pub of_use : {T : Type 0} (allowed : List allowed_type.Allowed) (used : ℕ) (r : Run) (h : House) → h.allowed ≡ map allowed_of allowed
    → (Any (λ a. (a.used ≡ used) × (a.kind ≡ r.identity.kind)) allowed ⊎ T) ↔ (IsAllowed h used r ⊎ T)
of_use allowed used r h is = either
    (subst (λ (xs : List Allowed). Any (λ a. (a.used ≡ used) × (a.kind ≡ r.identity.kind)) allowed ↔ Any (λ a. (a.used ≡ used) × (a.kind ≡ r.identity.kind)) xs) (sym is)
    (back (any_map (λ a. (a.used ≡ used) × (a.kind ≡ r.identity.kind)) allowed_of allowed)))

pub runs_more : (h : House) (used : ℕ) (name : List ℕ) (runs : List run_type.Run) (i : ℕ) (x : run_type.Run) → i < length runs
    → x ≡ get_or runs i x
    → (All HasTime (take (i + 1) runs) × AllPairs IsFollowed (take (i + 1) runs) × All (IsCounted h used name) (take (i + 1) runs))
    ↔ ((All HasTime (take i runs) × AllPairs IsFollowed (take i runs) × All (IsCounted h used name) (take i runs))
    × (HasTime x × All (λ a. IsOver a.end x.begin) (take i runs) × IsCounted h used name x))
runs_more h used name runs i x below is =
    let times = all_more HasTime runs i x below is in
    let follow = pairs_more IsFollowed runs i x below is in
    let counted = all_more (IsCounted h used name) runs i x below is in (
      λ r. let a = times.0 r.0 in let b = follow.0 r.1 in let c = counted.0 r.2 in ((a.0, b.0, c.0), (a.1, b.1, c.1)),
      λ r. (times.1 (r.0.0, r.1.0), follow.1 (r.0.1, r.1.1), counted.1 (r.0.2, r.1.2)),
    )

pub are_runs : (h : House) (name : List ℕ) (p : Place) (runs : List run_type.Run) → p.runs ≡ map run_of runs
    → (All HasTime runs × AllPairs IsFollowed runs × All (IsCounted h p.used name) runs) ↔ AreRuns h name p
are_runs h name p runs is =
    let times = through (back (all_map (λ r. (over : ℕ) → r.over ≡ Some over → r.begin < over) run_of runs))
    (all_of (λ r. (over : ℕ) → r.over ≡ Some over → r.begin < over) (sym is)) in
    let follow = through (back (pairs_map (λ a b. IsOver a.over b.begin) run_of runs)) (pairs_of (λ a b. IsOver a.over b.begin) (sym is)) in
    let types_are = through (back (all_map (λ r. IsAllowed h p.used r ⊎ IsType name r) run_of runs))
    (all_of (λ r. IsAllowed h p.used r ⊎ IsType name r) (sym is)) in (
      λ r. record { times = times.0 r.0; follow = follow.0 r.1; types_are = types_are.0 r.2 },
      λ r. (times.1 r.times, follow.1 r.follow, types_are.1 r.types_are),
    )

both_kept : {X Y : Type 0} (b : Bool) (y : Y) (x : X) (ys : List Y) (xs : List X) → length ys ≡ length xs
    → length (cond b (y ∷ ys) ys) ≡ length (cond b (x ∷ xs) xs)
both_kept true y x ys xs e = ap suc e
both_kept false y x ys xs e = e

filter_of : {X Y : Type 0} (p : Y → Bool) (f : X → Y) (xs : List X) → length (filter p (map f xs)) ≡ length (filter (λ x. p (f x)) xs)
filter_of p f [] = refl
filter_of {X} {Y} p f (x ∷ xs) = both_kept (p (f x)) (f x) x (filter p (map f xs)) (filter (λ x. p (f x)) xs) (filter_of p f xs)

if_is : (a b : ℕ) (n : ℕ) → a < b → IsTrue (eqb n 1) ↔ (n ≡ (if nat_lt a b then 1 else 0))
if_is a b n lt =
    let is : (if nat_lt a b then 1 else 0) ≡ 1 = grind (arith, nat_tests) in
    (λ t. eqb-true n 1 t ∙ sym is, λ e. eq-eqb n 1 (e ∙ is))

if_isnt : (a b : ℕ) (n : ℕ) → b ≤ a → IsTrue (eqb n 0) ↔ (n ≡ (if nat_lt a b then 1 else 0))
if_isnt a b n le =
    let is : (if nat_lt a b then 1 else 0) ≡ 0 = grind (arith, nat_tests) in
    (λ t. eqb-true n 0 t ∙ sym is, λ e. eq-eqb n 0 (e ∙ is))

counted_as : {A : Type 0} (p : Place) (windows : List (window_type.Window A)) (n count : ℕ) → p.windows ≡ map window_of windows
    → count ≡ length (filter (λ w. w.span == n) windows) → count ≡ length (filter (λ w. w.span == n) p.windows)
counted_as {A} p windows n count is e =
    e ∙ (sym (filter_of (λ w. w.span == n) window_of windows) ∙ ap (λ (ws : List Window). length (filter (λ w. w.span == n) ws)) (sym is))

module _ {A : Type 0} (p : Place) (s : Span) (windows : List (window_type.Window A)) (n count a b : ℕ) (is : p.windows ≡ map window_of windows)
    (e : count ≡ length (filter (λ w. w.span == n) windows)) (is_from : a ≡ from p s) (is_to : b ≡ to p s) where
  pub one_window : a < b → IsTrue (eqb count 1) ↔ IsSpannedBy p n s
  one_window lt =
      subst (λ (m : ℕ). IsTrue (eqb count 1) ↔ (m ≡ (if nat_lt (from p s) (to p s) then 1 else 0))) (counted_as p windows n count is e)
      (subst (λ (x : ℕ). IsTrue (eqb count 1) ↔ (count ≡ (if nat_lt x (to p s) then 1 else 0))) is_from
      (subst (λ (y : ℕ). IsTrue (eqb count 1) ↔ (count ≡ (if nat_lt a y then 1 else 0))) is_to (if_is a b count lt)))

  pub no_window : b ≤ a → IsTrue (eqb count 0) ↔ IsSpannedBy p n s
  no_window le =
      subst (λ (m : ℕ). IsTrue (eqb count 0) ↔ (m ≡ (if nat_lt (from p s) (to p s) then 1 else 0))) (counted_as p windows n count is e)
      (subst (λ (x : ℕ). IsTrue (eqb count 0) ↔ (count ≡ (if nat_lt x (to p s) then 1 else 0))) is_from
      (subst (λ (y : ℕ). IsTrue (eqb count 0) ↔ (count ≡ (if nat_lt a y then 1 else 0))) is_to (if_isnt a b count le)))

-- the first spans of a house
abbrev pub AreSpanned : Place → List Span → ℕ → Type 0
AreSpanned p spans i = (n : ℕ) (s : Span) → n < i → slice_get spans n ≡ Some s → IsSpannedBy p n s

pub spanned_more : (p : Place) (spans : List Span) (i : ℕ) (x : Span) → slice_get spans i ≡ Some x
    → AreSpanned p spans (i + 1) ↔ (AreSpanned p spans i × IsSpannedBy p i x)
spanned_more p spans i x at = (
  λ all. (λ n s lt found. all n s (omega arith) found, all i x (omega arith) at),
  λ r n s lt found. by_cases r n s found (cases_lt n i) lt,
)
  where
    by_cases : AreSpanned p spans i × IsSpannedBy p i x → (n : ℕ) (s : Span) → slice_get spans n ≡ Some s → (n < i) ⊎ (i ≤ n) → n < i + 1 → IsSpannedBy p n s
    by_cases r n s found (inl lt) below = r.0 n s lt found
    by_cases r n s found (inr le) below =
        let same : i ≡ n = omega arith in
        let one : x ≡ s = same_Some x s (sym at ∙ (ap (λ (k : ℕ). slice_get spans k) same ∙ found)) in
        subst (λ (k : ℕ). IsSpannedBy p k s) same (subst (λ (y : Span). IsSpannedBy p i y) one r.1)

pub spanned_all : (p : Place) (spans : List Span) (i : ℕ) → length spans ≤ i
    → AreSpanned p spans i ↔ ((n : ℕ) (s : Span) → slice_get spans n ≡ Some s → IsSpannedBy p n s)
spanned_all p spans i past = (
  λ all n s found. all n s (omega (arith, slice_get_within spans n s found)) found,
  λ all n s lt found. all n s found,
)

-- ---- a place

some_there : {X : Type 0} (xs : List X) (n : ℕ) → n < length xs → (x : X) × (slice_get xs n ≡ Some x)
some_there [] n below = absurd (omega arith)
some_there (x ∷ xs) zero below = (x, refl)
some_there (x ∷ xs) (suc n) below = some_there xs n (omega arith)

pub used_there : (h : House) (p : Place) → IsBuilt h → Contains h.places p → (u : Use) × (slice_get h.uses p.used ≡ Some u)
used_there h p built there = some_there h.uses p.used (All-contains (λ p. p.used < length h.uses) h.places p built.used there)

run_some : (runs : List Run) (v : Value) → (r : Run) × (slice_get runs v.run ≡ Some r) × IsAt r v v.source → IsSome (slice_get runs v.run)
run_some runs v r = subst (λ (o : Option Run). IsSome o) (sym r.1) refl

pub built_window : {A : Type 0} (h : House) (p : Place) (windows : List (window_type.Window A)) → p.windows ≡ map window_of windows → IsBuilt h
    → Contains h.places p → (i : ℕ) (x : window_type.Window A) → i < length windows → x ≡ get_or windows i x
    → ((s : Span) × (slice_get h.spans x.span ≡ Some s)) × All (λ v. IsSome (slice_get p.runs v.run)) (window_of x).values
built_window {A} h p windows is built there i x below item =
    let spans = All-contains (λ p. All (λ w. w.span < length h.spans) p.windows) h.places p built.spans there in
    let values = All-contains (λ p. All (λ w. All (λ v. (r : Run) × (slice_get p.runs v.run ≡ Some r) × IsAt r v v.source) w.values) p.windows)
    h.places p built.values there in
    let span = (all_map (λ w. w.span < length h.spans) window_of windows).0
    (subst (λ (ws : List Window). All (λ w. w.span < length h.spans) ws) is spans) i x below in
    let value = (all_map (λ w. All (λ v. (r : Run) × (slice_get p.runs v.run ≡ Some r) × IsAt r v v.source) w.values) window_of windows).0
    (subst (λ (ws : List Window). All (λ w. All (λ v. (r : Run) × (slice_get p.runs v.run ≡ Some r) × IsAt r v v.source) w.values) ws) is values) i x below in (
      some_there h.spans x.span (subst (λ (w : window_type.Window A). w.span < length h.spans) (sym item) span),
      λ k d lt. run_some p.runs (get_or (window_of x).values k d)
          (subst (λ (w : window_type.Window A). All (λ v. (r : Run) × (slice_get p.runs v.run ≡ Some r) × IsAt r v v.source) (window_of w).values) (sym item) value k d lt),
    )

pub opened_is : {A : Type 0} (h : House) (p : Place) (w : window_type.Window A) (s : Span) → slice_get h.spans w.span ≡ Some s
    → IsWindow h p (window_of w) s ↔ IsOpened h p w
opened_is h p w s at = (
  λ win. (s, at, win),
  λ o. subst (λ (x : Span). IsWindow h p (window_of w) x) (same_Some o.0 s (sym o.1 ∙ at)) o.2,
)

pub place_is : {A : Type 0} (h : House) (p : Place) (u : Use) (windows : List (window_type.Window A)) → slice_get h.uses p.used ≡ Some u
    → p.windows ≡ map window_of windows
    → ((((u.counts ≡ Allocation) ⊎ (p.weight ≡ 1000000)) × (AreRuns h u.name p × IsSpanned h p)) × All (IsOpened h p) windows) ↔ IsPlace h p
place_is {A} h p u windows at is = (
  λ r. record {
    used = u;
    used_is = at;
    weight = r.0.0;
    runs = r.0.1.0;
    windows = subst (λ (ws : List Window). All (λ w. (s : Span) × (slice_get h.spans w.span ≡ Some s) × IsWindow h p w s) ws) (sym is)
        ((all_map (λ w. (s : Span) × (slice_get h.spans w.span ≡ Some s) × IsWindow h p w s) window_of windows).1 r.1);
    spanned = r.0.1.1;
  },
  λ q.
      let same : q.used ≡ u = same_Some q.used u (sym q.used_is ∙ at) in (
        (
          subst (λ (x : Use). (x.counts ≡ Allocation) ⊎ (p.weight ≡ 1000000)) same q.weight,
          (subst (λ (x : Use). AreRuns h x.name p) same q.runs, q.spanned),
        ),
        (all_map (λ w. (s : Span) × (slice_get h.spans w.span ≡ Some s) × IsWindow h p w s) window_of windows).0
            (subst (λ (ws : List Window). All (λ w. (s : Span) × (slice_get h.spans w.span ≡ Some s) × IsWindow h p w s) ws) is q.windows),
      ),
)

-- what the code says of a use
pub use_is : (uses : List use_type.Use) (n : ℕ) (x : use_type.Use) (u : Use) → IfSome (slice_get uses n) (λ y. x ≡ y)
    → slice_get (map use_of uses) n ≡ Some u → use_of x ≡ u
use_is [] n x u h at = absurd (none-some u at)
use_is (y ∷ uses) zero x u h at = ap use_of h ∙ same_Some (use_of y) u at
use_is (y ∷ uses) (suc n) x u h at = use_is uses n x u h at
