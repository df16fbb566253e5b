-- One check after another, and what holds of each of a list.
use Rattle.std.proofs.Common.{arith, ◌≡◌, ◌↔◌, ◌<◌, ◌≤◌, ◌+◌, ℕ, zero, suc, List, [], ◌∷◌, ◌++◌, length, map, take, get_or, refl, sym, ap, ◌∙◌, subst}
use Rattle.std.proofs.Common.{All, AllPairs, Any, flat_map, Bool, false, IsTrue}
use Rattle.std.proofs.lemmas.Bool.{true≢false}
use Rattle.std.proofs.Common.{Option, Some, option_map, slice_get}
use Rattle.std.proofs.lemmas.Option.{slice_get-map, slice_get_read}
use Rattle.std.proofs.lemmas.List.{take_more, take_all, length_push, length-map, get_or_default, get_or_push, get_or_append_left, get_or-map}
use Rattle.std.proofs.lemmas.List.Elements.{All-push, All-map, All-nil, All-cons, All-head, All-tail, All-append}
use Rattle.std.proofs.lemmas.List.Quantifiers.{all_pairs_push}

-- ---- links

-- what was clean is so after a check exactly if what it checks holds
pub link : {A B C P Q R : Type 0} → B ↔ (A × P) → C ↔ (B × Q) → R ↔ (P × Q) → C ↔ (A × R)
link f g h = (
  λ c. let b = g.0 c in let a = f.0 b.0 in (a.0, h.1 (a.1, b.1)),
  λ r. let pq = h.0 r.1 in g.1 (f.1 (r.0, pq.0), pq.1),
)

pub nothing : {A P : Type 0} → P → A ↔ (A × P)
nothing p = (λ a. (a, p), λ r. r.0)

-- what isn't so is found
pub found : {B Q : Type 0} (b : Bool) → b ≡ false → (Q → ⊥) → IsTrue b ↔ (B × Q)
found b e isnt = (λ clean. absurd (true≢false (sym clean ∙ e)), λ r. absurd (isnt r.1))

pub same : {A B P Q : Type 0} → B ↔ (A × P) → P ↔ Q → B ↔ (A × Q)
same f h = (λ b. let a = f.0 b in (a.0, h.0 a.1), λ r. f.1 (r.0, h.1 r.1))

pub through : {A B C : Type 0} → A ↔ B → B ↔ C → A ↔ C
through f g = (λ a. g.0 (f.0 a), λ c. f.1 (g.1 c))

pub back : {A B : Type 0} → A ↔ B → B ↔ A
back f = (f.1, f.0)

pub given : {E Q : Type 0} → E → Q ↔ (E → Q)
given e = (λ q _. q, λ f. f e)

pub if_same : {E P Q : Type 0} → P ↔ Q → (E → P) ↔ (E → Q)
if_same f = (λ g e. f.0 (g e), λ g e. f.1 (g e))

pub both : {P Q R S : Type 0} → P ↔ Q → R ↔ S → (P × R) ↔ (Q × S)
both f g = (λ p. (f.0 p.0, g.0 p.1), λ q. (f.1 q.0, g.1 q.1))

pub pair : {P Q : Type 0} → (P × Q) ↔ (P × Q)
pair = (λ r. r, λ r. r)

-- ---- all of a list

pub took : {X : Type 0} (xs : List X) (i : ℕ) (x : X) → i < length xs → x ≡ get_or xs i x
    → take (i + 1) xs ≡ take i xs ++ x ∷ []
took {X} xs i x below is = take_more xs i x below ∙ ap (λ (y : X). take i xs ++ y ∷ []) (sym is)

pub all_push : {X : Type 0} (P : X → Type 0) (xs : List X) (x : X) → All P (xs ++ x ∷ []) ↔ (All P xs × P x)
all_push P xs x =
    let more = length_push xs x in (
      λ all. (
        λ k d below. subst P (get_or_append_left xs (x ∷ []) d k below) (all k d (omega (arith, more))),
        subst P (get_or_push xs x x (length xs) refl) (all (length xs) x (omega (arith, more))),
      ),
      λ r. All-push P xs x r.0 r.1,
    )

pub all_more : {X : Type 0} (P : X → Type 0) (xs : List X) (i : ℕ) (x : X) → i < length xs → x ≡ get_or xs i x
    → All P (take (i + 1) xs) ↔ (All P (take i xs) × P x)
all_more {X} P xs i x below is =
    subst (λ (ys : List X). All P ys ↔ (All P (take i xs) × P x)) (sym (took xs i x below is)) (all_push P (take i xs) x)

pub all_at : {X : Type 0} (P : X → Type 0) (xs : List X) (i : ℕ) (d : X) → i < length xs
    → All P (take (i + 1) xs) ↔ (All P (take i xs) × P (get_or xs i d))
all_at P xs i d below = all_more P xs i (get_or xs i d) below (get_or_default xs i d (get_or xs i d) below)

pub all_full : {X : Type 0} (P : X → Type 0) (xs : List X) (i : ℕ) → length xs ≤ i → All P (take i xs) ↔ All P xs
all_full {X} P xs i past =
    subst (λ (ys : List X). All P ys ↔ All P xs) (sym (take_all i xs past)) (λ all. all, λ all. all)

pub all_map : {X Y : Type 0} (P : Y → Type 0) (f : X → Y) (xs : List X) → All P (map f xs) ↔ All (λ x. P (f x)) xs
all_map P f xs = (
  λ all k d below. subst P (get_or-map f xs k d (f d) below) (all k (f d) (omega (arith, below, length-map xs f))),
  λ all. All-map P f xs all,
)

pub all_of : {X : Type 0} (P : X → Type 0) {xs ys : List X} → xs ≡ ys → All P xs ↔ All P ys
all_of {X} P {xs} e = subst (λ (zs : List X). All P xs ↔ All P zs) e (λ all. all, λ all. all)

pub pairs_of : {X : Type 0} (R : X → X → Type 0) {xs ys : List X} → xs ≡ ys → AllPairs R xs ↔ AllPairs R ys
pairs_of {X} R {xs} e = subst (λ (zs : List X). AllPairs R xs ↔ AllPairs R zs) e (λ all. all, λ all. all)

pub all_cons : {X : Type 0} (P : X → Type 0) (x : X) (xs : List X) → All P (x ∷ xs) ↔ (P x × All P xs)
all_cons P x xs = (λ all. (All-head P x xs all, All-tail P x xs all), λ r. All-cons P x xs r.0 r.1)

pub all_nil : {X : Type 0} (P : X → Type 0) → All P []
all_nil P = All-nil P

pub all_weaker : {X : Type 0} (P Q : X → Type 0) (xs : List X) → ((x : X) → P x ↔ Q x) → All P xs ↔ All Q xs
all_weaker P Q xs each = (λ all k d below. (each (get_or xs k d)).0 (all k d below), λ all k d below. (each (get_or xs k d)).1 (all k d below))

pub all_append : {X : Type 0} (P : X → Type 0) (xs ys : List X) → All P (xs ++ ys) ↔ (All P xs × All P ys)
all_append P [] ys = (λ all. (all_nil P, all), λ r. r.1)
all_append P (x ∷ xs) ys = (
  λ all. let a = (all_cons P x (xs ++ ys)).0 all in let b = (all_append P xs ys).0 a.1 in
      ((all_cons P x xs).1 (a.0, b.0), b.1),
  λ r. All-append P (x ∷ xs) ys r.0 r.1,
)

pub all_flat : {X Y : Type 0} (P : Y → Type 0) (f : X → List Y) (xs : List X)
    → All P (flat_map f xs) ↔ All (λ x. All P (f x)) xs
all_flat P f [] = (λ all. all_nil (λ x. All P (f x)), λ all. all_nil P)
all_flat P f (x ∷ xs) = (
  λ all. let a = (all_append P (f x) (flat_map f xs)).0 all in
      (all_cons (λ x. All P (f x)) x xs).1 (a.0, (all_flat P f xs).0 a.1),
  λ all. let a = (all_cons (λ x. All P (f x)) x xs).0 all in
      (all_append P (f x) (flat_map f xs)).1 (a.0, (all_flat P f xs).1 a.1),
)

-- ---- all pairs of a list

pub pairs_push : {X : Type 0} (R : X → X → Type 0) (xs : List X) (x : X)
    → AllPairs R (xs ++ x ∷ []) ↔ (AllPairs R xs × All (λ a. R a x) xs)
pairs_push {X} R xs x =
    let more = length_push xs x in (
      λ all. (
        λ i j d lt below. subst (λ (a : X). R a (get_or xs j d)) (get_or_append_left xs (x ∷ []) d i (omega arith))
            (subst (λ (b : X). R (get_or (xs ++ x ∷ []) i d) b) (get_or_append_left xs (x ∷ []) d j below)
            (all i j d lt (omega (arith, more)))),
        λ k d below. subst (λ (a : X). R a x) (get_or_append_left xs (x ∷ []) d k below)
            (subst (λ (b : X). R (get_or (xs ++ x ∷ []) k d) b) (get_or_push xs x d (length xs) refl)
            (all k (length xs) d below (omega (arith, more)))),
      ),
      λ r. all_pairs_push R xs x r.0 (λ k d below. r.1 k d below),
    )

-- the pairs of loops in one another
pub pairs_more : {X : Type 0} (R : X → X → Type 0) (xs : List X) (i : ℕ) (x : X) → i < length xs → x ≡ get_or xs i x
    → AllPairs R (take (i + 1) xs) ↔ (AllPairs R (take i xs) × All (λ a. R a x) (take i xs))
pairs_more {X} R xs i x below is =
    subst (λ (ys : List X). AllPairs R ys ↔ (AllPairs R (take i xs) × All (λ a. R a x) (take i xs)))
    (sym (took xs i x below is)) (pairs_push R (take i xs) x)

pub pairs_at : {X : Type 0} (R : X → X → Type 0) (xs : List X) (i : ℕ) (d : X) → i < length xs
    → AllPairs R (take (i + 1) xs) ↔ (AllPairs R (take i xs) × All (λ a. R a (get_or xs i d)) (take i xs))
pairs_at R xs i d below = pairs_more R xs i (get_or xs i d) below (get_or_default xs i d (get_or xs i d) below)

pub pairs_full : {X : Type 0} (R : X → X → Type 0) (xs : List X) (i : ℕ) → length xs ≤ i
    → AllPairs R (take i xs) ↔ AllPairs R xs
pairs_full {X} R xs i past =
    subst (λ (ys : List X). AllPairs R ys ↔ AllPairs R xs) (sym (take_all i xs past)) (λ all. all, λ all. all)

pub pairs_nil : {X : Type 0} (R : X → X → Type 0) → AllPairs R []
pairs_nil R = λ i j d lt below. absurd (omega arith)

cons_pairs : {X : Type 0} (R : X → X → Type 0) (x : X) (xs : List X) → All (R x) xs → AllPairs R xs → AllPairs R (x ∷ xs)
cons_pairs R x xs head tail i zero d lt below = absurd (omega arith)
cons_pairs R x xs head tail zero (suc j) d lt below = head j d (omega arith)
cons_pairs R x xs head tail (suc i) (suc j) d lt below = tail i j d (omega arith) (omega arith)

pairs_to : {X Y : Type 0} (R : Y → Y → Type 0) (f : X → Y) (xs : List X)
    → AllPairs (λ a b. R (f a) (f b)) xs → AllPairs R (map f xs)
pairs_to R f [] all = pairs_nil R
pairs_to R f (x ∷ xs) all = cons_pairs R (f x) (map f xs)
    (All-map (R (f x)) f xs (λ k d below. all 0 (suc k) d (omega arith) (omega arith)))
    (pairs_to R f xs (λ i j d lt below. all (suc i) (suc j) d (omega arith) (omega arith)))

pub pairs_map : {X Y : Type 0} (R : Y → Y → Type 0) (f : X → Y) (xs : List X)
    → AllPairs R (map f xs) ↔ AllPairs (λ a b. R (f a) (f b)) xs
pairs_map {X} {Y} R f xs =
    let long = length-map xs f in (
      λ all i j d lt below.
          subst (λ (a : Y). R a (f (get_or xs j d))) (get_or-map f xs i d (f d) (omega arith))
          (subst (λ (b : Y). R (get_or (map f xs) i (f d)) b) (get_or-map f xs j d (f d) below)
          (all i j (f d) lt (omega (arith, long, below)))),
      pairs_to R f xs,
    )

pub pairs_cons : {X : Type 0} (R : X → X → Type 0) (x : X) (xs : List X)
    → AllPairs R (x ∷ xs) ↔ (All (R x) xs × AllPairs R xs)
pairs_cons R x xs = (
  λ all. (
    λ k d below. all 0 (suc k) d (omega arith) (omega arith),
    λ i j d lt below. all (suc i) (suc j) d (omega arith) (omega arith),
  ),
  λ r. cons_pairs R x xs r.0 r.1,
)

pub pairs_append : {X : Type 0} (R : X → X → Type 0) (xs ys : List X) → AllPairs R (xs ++ ys)
    ↔ (AllPairs R xs × AllPairs R ys × All (λ b. All (λ a. R a b) xs) ys)
pairs_append R [] ys = (λ all. (pairs_nil R, all, λ k d below. all_nil (λ a. R a (get_or ys k d))), λ r. r.1)
pairs_append R (x ∷ xs) ys = (
  λ all. let a = (pairs_cons R x (xs ++ ys)).0 all in
      let b = (all_append (R x) xs ys).0 a.0 in
      let c = (pairs_append R xs ys).0 a.1 in (
        (pairs_cons R x xs).1 (b.0, c.0),
        c.1,
        λ k d below. (all_cons (λ a. R a (get_or ys k d)) x xs).1 (b.1 k d below, c.2 k d below),
      ),
  λ r. let a = (pairs_cons R x xs).0 r.0 in
      (pairs_cons R x (xs ++ ys)).1 (
        (all_append (R x) xs ys).1 (a.0, λ k d below. ((all_cons (λ a. R a (get_or ys k d)) x xs).0 (r.2 k d below)).0),
        (pairs_append R xs ys).1 (a.1, r.1, λ k d below. ((all_cons (λ a. R a (get_or ys k d)) x xs).0 (r.2 k d below)).1),
      ),
)

-- the pairs of lists that are joined: those of one list, and those of two
pub pairs_flat : {X Y : Type 0} (R : Y → Y → Type 0) (f : X → List Y) (xs : List X) → AllPairs R (flat_map f xs)
    ↔ (All (λ x. AllPairs R (f x)) xs × AllPairs (λ x y. All (λ b. All (λ a. R a b) (f x)) (f y)) xs)
pairs_flat R f [] = (
  λ all. (all_nil (λ x. AllPairs R (f x)), pairs_nil (λ x y. All (λ b. All (λ a. R a b) (f x)) (f y))),
  λ r. pairs_nil R,
)
pairs_flat R f (x ∷ xs) = (
  λ all. let a = (pairs_append R (f x) (flat_map f xs)).0 all in
      let b = (pairs_flat R f xs).0 a.1 in (
        (all_cons (λ x. AllPairs R (f x)) x xs).1 (a.0, b.0),
        (pairs_cons (λ x y. All (λ b. All (λ a. R a b) (f x)) (f y)) x xs).1
            ((all_flat (λ b. All (λ a. R a b) (f x)) f xs).0 a.2, b.1),
      ),
  λ r. let a = (all_cons (λ x. AllPairs R (f x)) x xs).0 r.0 in
      let b = (pairs_cons (λ x y. All (λ b. All (λ a. R a b) (f x)) (f y)) x xs).0 r.1 in
      (pairs_append R (f x) (flat_map f xs)).1 (
        a.0,
        (pairs_flat R f xs).1 (a.1, b.1),
        (all_flat (λ b. All (λ a. R a b) (f x)) f xs).1 b.0,
      ),
)

-- ---- any of a list

any_to : {X Y : Type 0} (P : Y → Type 0) (f : X → Y) (xs : List X) (k : ℕ) (y : Y) → k < length (map f xs) → get_or (map f xs) k y ≡ y
    → P y → Any (λ x. P (f x)) xs
any_to P f [] k y below is p = absurd (omega arith)
any_to {X} {Y} P f (x ∷ xs) zero y below is p = (0, x, omega arith, refl, subst P (sym is) p)
any_to P f (x ∷ xs) (suc k) y below is p =
    let a = any_to P f xs k y (omega arith) is p in
    (suc a.0, a.1, omega (arith, a.2), a.3, a.4)

any_from : {X Y : Type 0} (P : Y → Type 0) (f : X → Y) (xs : List X) (k : ℕ) (x : X) → k < length xs → get_or xs k x ≡ x
    → P (f x) → Any P (map f xs)
any_from {X} {Y} P f xs k x below is p =
    (k, f x, omega (arith, below, length-map xs f), get_or-map f xs k x (f x) below ∙ ap f is, p)

pub any_map : {X Y : Type 0} (P : Y → Type 0) (f : X → Y) (xs : List X) → Any P (map f xs) ↔ Any (λ x. P (f x)) xs
any_map P f xs = (λ a. any_to P f xs a.0 a.1 a.2 a.3 a.4, λ a. any_from P f xs a.0 a.1 a.2 a.3 a.4)

pub at_map : {X Y : Type 0} (f : X → Y) (xs : List X) (i : ℕ) (x : X) → i < length xs → x ≡ get_or xs i x → slice_get (map f xs) i ≡ Some (f x)
at_map {X} {Y} f xs i x below is =
    slice_get-map f xs i ∙ ap (λ (o : Option X). option_map f o) (slice_get_read xs (length xs) i x refl below is)

pub any_push_left : {X : Type 0} (P : X → Type 0) (xs : List X) (x : X) → Any P xs → Any P (xs ++ x ∷ [])
any_push_left P xs x a =
    (a.0, a.1, omega (arith, a.2, length_push xs x), get_or_append_left xs (x ∷ []) a.1 a.0 a.2 ∙ a.3, a.4)

pub any_all : {X : Type 0} (P Q : X → Type 0) (xs : List X) → Any P xs → All Q xs → (x : X) × P x × Q x
any_all P Q xs a all = (a.1, a.4, subst Q a.3 (all a.0 a.1 a.2))

pub all_one : {X : Type 0} (P : X → Type 0) (x : X) → All P (x ∷ []) ↔ P x
all_one P x = (λ all. ((all_cons P x []).0 all).0, λ p. (all_cons P x []).1 (p, all_nil P))

pub triple : {P Q R : Type 0} → (P × Q × R) ↔ (P × (Q × R))
triple = (λ r. (r.0, (r.1, r.2)), λ r. (r.0, r.1.0, r.1.1))
