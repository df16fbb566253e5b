-- What was met so far: what is compared with those of its key is compared with all.
use Rattle.std.proofs.Common.{arith, ◌≡◌, ◌↔◌, ◌<◌, ◌≤◌, ◌+◌, ◌⊎◌, inl, inr, ℕ, zero, suc, List, [], ◌∷◌, ◌++◌, length, map, flat_map, get_or, take, Bool, true, false, Option, None, Some, if◌then◌else◌, eqb-true, refl, sym, ap, ◌∙◌, subst, All, AllPairs, IsTrue}
use Rattle.std.specs.Prelude.{◌==◌, Contains, IfSome, option_map, slice_get}
use Rattle.std.proofs.lemmas.Bool.Decides.{nat_tests}
use Rattle.std.proofs.lemmas.List.{append-nil, append_assoc, get_or_append_left, get_or_default, get_or_push, length-map, length_push, map-append}
use Rattle.std.proofs.lemmas.Option.{none-some, same_Some, slice_get-get_or, slice_get_past, slice_get_within, get_or_from_slice_get}
use Rattle.mbdc_audit.specs.Index.{at}
use Rattle.mbdc_audit.specs.Sound.{IsOneTenancy, Lived}
use Rattle.mbdc_audit.specs.View.{part_of, window_of}
use Rattle.mbdc_audit.specs.Walk.{GoesWith, IsAdded, IsMet, Meets, is_clean, key_lived, live}
use Rattle.mbdc_audit.specs.declared.apart.Lived as lived_type
use Rattle.mbdc_audit.specs.declared.apart.Met as met_type
use Rattle.mbdc_audit.specs.declared.house.Part as part_type
use Rattle.mbdc_audit.specs.declared.house.Window as window_type
use Rattle.mbdc_audit.specs.declared.teller.Counts.{Counts}
use Rattle.mbdc_audit.proofs.Checks.{all_append, all_nil, all_one, all_weaker, at_map, link, nothing, pairs_append, pairs_nil, took}

-- ---- what comes after others

module _ {Y : Type 0} (R : Y → Y → Type 0) where
  pub with_pairs : (xs ys : List Y) → (AllPairs R xs × GoesWith R xs ys) ↔ AllPairs R (xs ++ ys)
  with_pairs xs ys = let p = pairs_append R xs ys in (λ r. p.1 (r.0, r.1.0, r.1.1), λ all. let q = p.0 all in (q.0, (q.1, q.2)))

  with_none : (xs : List Y) → GoesWith R xs []
  with_none xs = (pairs_nil R, all_nil (λ y. All (λ x. R x y) xs))

  with_one : (xs : List Y) (z : Y) → All (λ x. R x z) xs ↔ GoesWith R xs (z ∷ [])
  with_one xs z =
      let one = all_one (λ y. All (λ x. R x y) xs) z in
      (λ all. (λ i j d lt below. absurd (omega arith), one.1 all), λ r. one.0 r.1)

  with_more : (xs ys zs : List Y) → GoesWith R xs (ys ++ zs) ↔ (GoesWith R xs ys × GoesWith R (xs ++ ys) zs)
  with_more xs ys zs =
      let pairs = pairs_append R ys zs in
      let each = all_append (λ y. All (λ x. R x y) xs) ys zs in
      let front = all_weaker (λ z. All (λ x. R x z) (xs ++ ys)) (λ z. All (λ x. R x z) xs × All (λ x. R x z) ys) zs
      (λ z. all_append (λ x. R x z) xs ys) in (
        λ w. let p = pairs.0 w.0 in let e = each.0 w.1 in
            ((p.0, e.0), (p.1, front.1 (λ k d lt. (e.1 k d lt, p.2 k d lt)))),
        λ r. let f = front.0 r.1.1 in
            (pairs.1 (r.0.0, r.1.0, λ k d lt. (f k d lt).1), each.1 (r.0.1, λ k d lt. (f k d lt).0)),
      )

-- ---- keys

if_map : {X Y : Type 0} (view : X → Y) (P : Y → Type 0) (o : Option X) → IfSome (option_map view o) P ↔ IfSome o (λ x. P (view x))
if_map view P None = (λ r. r, λ r. r)
if_map view P (Some x) = (λ r. r, λ r. r)

if_some : {Y : Type 0} (P : Y → Type 0) (o : Option Y) → ((y : Y) → o ≡ Some y → P y) → IfSome o P
if_some P None each = tt
if_some P (Some y) each = each y refl

some_if : {Y : Type 0} (P : Y → Type 0) (o : Option Y) (y : Y) → o ≡ Some y → P y ↔ IfSome o P
some_if {Y} P o y is = subst (λ (x : Option Y). P y ↔ IfSome x P) (sym is) (λ p. p, λ p. p)

none_if : {Y : Type 0} (P : Y → Type 0) (o : Option Y) → o ≡ None → IfSome o P
none_if {Y} P o is = subst (λ (x : Option Y). IfSome x P) (sym is) tt

at_end : {Y : Type 0} (xs : List Y) (z : Y) (k : ℕ) (y : Y) → slice_get (xs ++ z ∷ []) k ≡ Some y
    → (slice_get xs k ≡ Some y) ⊎ ((k ≡ length xs) × (z ≡ y))
at_end [] z zero y e = inr (refl, same_Some z y e)
at_end [] z (suc k) y e = absurd (none-some y e)
at_end (x ∷ xs) z zero y e = inl e
at_end (x ∷ xs) z (suc k) y e = elim (at_end xs z k y e) [
  | inl f ↦ inl f
  | inr p ↦ inr (ap suc p.0, p.1)
]

is_one : (a b : ℕ) → a ≡ b → (a == b) ≡ true
is_one a b e = grind (arith, nat_tests)

contains_left : (ns : List ℕ) (n k : ℕ) → Contains ns k → Contains (ns ++ n ∷ []) k
contains_left ns n k c = (c.0, omega (arith, c.1, length_push ns n), get_or_append_left ns (n ∷ []) k c.0 c.1 ∙ c.2)

contains_end : (ns : List ℕ) (n k : ℕ) → k ≡ n → Contains (ns ++ n ∷ []) k
contains_end ns n k e = (length ns, omega (arith, length_push ns n), get_or_push ns n k (length ns) refl ∙ sym e)

module _ {X Y A : Type 0} (key : Y → ℕ) (view : X → Y) where
  pub met_none : (m : met_type.Met X A) → m.items.items ≡ [] → IsMet key view m []
  met_none m e = (ap (λ (xs : List X). map view xs) e, λ k y f. absurd (none-some y f))

  -- what is compared with a number's item, and with none
  pub there : (P : Y → Type 0) (m : met_type.Met X A) (items : List X) (xs : List Y) (k : ℕ) (x : X) → IsMet key view m xs
      → items ≡ m.items.items → k < length items → x ≡ get_or items k x → P (view x) ↔ IfSome (slice_get xs k) P
  there P m items xs k x met same lt is = some_if P (slice_get xs k) (view x)
      (subst (λ (ys : List Y). slice_get ys k ≡ Some (view x)) (ap (λ (ws : List X). map view ws) same ∙ met.0) (at_map view items k x lt is))

  pub not_there : (P : Y → Type 0) (m : met_type.Met X A) (items : List X) (xs : List Y) (k : ℕ) → IsMet key view m xs
      → items ≡ m.items.items → length items ≤ k → IfSome (slice_get xs k) P
  not_there P m items xs k met same past =
      let long : length items ≡ length xs = sym (length-map items view) ∙ ap (λ (ys : List Y). length ys) (ap (λ (ws : List X). map view ws) same ∙ met.0) in
      none_if P (slice_get xs k) (slice_get_past xs k (omega arith))

  met_more : (n : ℕ) (x : X) (old new : met_type.Met X A) (xs : List Y) → n ≡ key (view x) → IsAdded n x old new → IsMet key view old xs
      → IsMet key view new (xs ++ view x ∷ [])
  met_more n x old new xs is more met =
      let long : length old.items.items ≡ length xs = sym (length-map old.items.items view) ∙ ap (λ (ys : List Y). length ys) met.0 in (
        ap (λ (ys : List X). map view ys) more.0 ∙ (map-append view old.items.items (x ∷ []) ∙ ap (λ (ys : List Y). ys ++ view x ∷ []) met.0),
        λ k y at_k. subst (λ (ns : List ℕ). Contains ns k) (sym (more.1 (key y))) (elim (at_end xs (view x) k y at_k) [
          | inl before ↦ elim (key y == n) as (λ (b : Bool). Contains (if b then at old.index (key y) ++ length old.items.items ∷ [] else at old.index (key y)) k) [
            | true ↦ contains_left (at old.index (key y)) (length old.items.items) k (met.1 k y before)
            | false ↦ met.1 k y before
          ]
          | inr p ↦ subst (λ (b : Bool). Contains (if b then at old.index (key y) ++ length old.items.items ∷ [] else at old.index (key y)) k)
              (sym (is_one (key y) n (ap key (sym p.1) ∙ sym is)))
              (contains_end (at old.index (key y)) (length old.items.items) k (p.0 ∙ sym long))
        ]),
      )

  -- what differs in its key has the relation
  pub by_key : (R : Y → Y → Type 0) → ((x y : Y) → (key x ≡ key y → ⊥) → R x y) → (m : met_type.Met X A) (xs : List Y) → IsMet key view m xs
      → (y : Y) → All (λ n. IfSome (slice_get xs n) (λ x. R x y)) (at m.index (key y)) ↔ All (λ x. R x y) xs
  by_key R apart m xs met y = (
    λ all k d lt. let x = get_or xs k d in
        let is : slice_get xs k ≡ Some x = slice_get-get_or xs k d lt in
        elim (key x == key y) as (λ (b : Bool). (key x == key y) ≡ b → R x y) [
          | true ↦ λ e. let c = subst (λ (n : ℕ). Contains (at m.index n) k) (eqb-true (key x) (key y) e) (met.1 k x is) in
              (some_if (λ z. R z y) (slice_get xs k) x is).1
              (subst (λ (n : ℕ). IfSome (slice_get xs n) (λ z. R z y)) c.2 (all c.0 k c.1))
          | false ↦ λ e. apart x y (λ same. absurd (differ (key x) (key y) e same))
        ] refl,
    λ all j d lt. let k = get_or (at m.index (key y)) j d in
        if_some (λ x. R x y) (slice_get xs k) (λ x is. subst (λ (z : Y). R z y) (get_or_from_slice_get xs k x x is)
        (all k x (slice_get_within xs k x is))),
  )
    where
      differ : (a b : ℕ) → (a == b) ≡ false → a ≡ b → ⊥
      differ a b e same = grind (arith, nat_tests)

  -- ---- one after the other

  pub meets_none : (R : Y → Y → Type 0) (c : Counts) (m : met_type.Met X A) (xs : List Y) → IsMet key view m xs → Meets key view R c c m xs []
  meets_none R c m xs met = (nothing (with_none R xs), subst (λ (ys : List Y). IsMet key view m ys) (sym (append-nil xs)) met)

  pub meets_more : (R : Y → Y → Type 0) (a b c : Counts) (m new : met_type.Met X A) (xs ys zs ws : List Y) → ws ≡ ys ++ zs
      → Meets key view R a b m xs ys → (IsMet key view m (xs ++ ys) → Meets key view R b c new (xs ++ ys) zs) → Meets key view R a c new xs ws
  meets_more R a b c m new xs ys zs ws is before after =
      let next = after before.1 in
      subst (λ (vs : List Y). Meets key view R a c new xs vs) (sym is) (
        link before.0 next.0 (with_more R xs ys zs),
        subst (λ (vs : List Y). IsMet key view new vs) (append_assoc xs ys zs) next.1,
      )

  -- one more, which was compared with all before it
  pub meets_one : (R : Y → Y → Type 0) (a b c : Counts) (m new : met_type.Met X A) (xs ys ws : List Y) (n : ℕ) (x : X)
      → IsAdded n x m new → n ≡ key (view x) → Meets key view R a b m xs ys
      → (IsMet key view m (xs ++ ys) → IsTrue (is_clean c) ↔ (IsTrue (is_clean b) × All (λ z. R z (view x)) (xs ++ ys)))
      → ws ≡ ys ++ view x ∷ [] → Meets key view R a c new xs ws
  meets_one R a b c m new xs ys ws n x more is before checked last =
      meets_more R a b c m new xs ys (view x ∷ []) ws last before (λ met.
      let f = checked met in let w = with_one R (xs ++ ys) (view x) in
      ((λ clean. let p = f.0 clean in (p.0, w.0 p.1), λ r. f.1 (r.0, w.1 r.1)), met_more n x m new (xs ++ ys) is more met))

pub map_map : {X Y Z : Type 0} (g : Y → Z) (f : X → Y) (xs : List X) → map (λ x. g (f x)) xs ≡ map g (map f xs)
map_map g f [] = refl
map_map {X} {Y} {Z} g f (x ∷ xs) = ap (λ (zs : List Z). g (f x) ∷ zs) (map_map g f xs)

pub lived_windows : {A : Type 0} (flat : List ℕ) (windows : List (window_type.Window A))
    → flat_map {A = Lived} (λ w. map (λ x. record { flat = flat; part = part_of x }) w.parts.items) windows
    ≡ flat_map {A = Lived} (λ w. map (λ x. record { flat = flat; part = x }) w.parts) (map window_of windows)
lived_windows flat [] = refl
lived_windows flat (w ∷ windows) =
    ap (λ (ls : List Lived). ls ++ flat_map {A = Lived} (λ w. map (λ x. record { flat = flat; part = part_of x }) w.parts.items) windows)
    (map_map (λ x. record { flat = flat; part = x }) part_of w.parts.items)
    ∙ ap (λ (ls : List Lived). map (λ x. record { flat = flat; part = x }) (map part_of w.parts.items) ++ ls) (lived_windows flat windows)

part_more : (parts : List part_type.Part) (i : ℕ) (d : part_type.Part) (x : lived_type.Lived) → i < length parts → x.part ≡ get_or parts i d
    → map {B = Lived} (λ p. record { flat = x.flat.now; part = part_of p }) (take (i + 1) parts)
    ≡ map {B = Lived} (λ p. record { flat = x.flat.now; part = part_of p }) (take i parts) ++ live x ∷ []
part_more parts i d x below is =
    let view : part_type.Part → Lived = λ p. record { flat = x.flat.now; part = part_of p } in
    ap (λ (ps : List part_type.Part). map view ps) (took parts i x.part below (is ∙ get_or_default parts i d x.part below))
    ∙ map-append view (take i parts) (x.part ∷ [])

-- one more part of a flat
pub meets_part : {A : Type 0} (a b c : Counts) (m new : met_type.Met lived_type.Lived A) (xs : List Lived) (parts : List part_type.Part)
    (i n : ℕ) (d : part_type.Part) (x : lived_type.Lived) → IsAdded n x m new → n ≡ key_lived (live x) → i < length parts → x.part ≡ get_or parts i d
    → Meets key_lived live IsOneTenancy a b m xs (map (λ p. record { flat = x.flat.now; part = part_of p }) (take i parts))
    → (IsMet key_lived live m (xs ++ map (λ p. record { flat = x.flat.now; part = part_of p }) (take i parts)) → IsTrue (is_clean c)
    ↔ (IsTrue (is_clean b) × All (λ z. IsOneTenancy z (live x)) (xs ++ map (λ p. record { flat = x.flat.now; part = part_of p }) (take i parts))))
    → Meets key_lived live IsOneTenancy a c new xs (map (λ p. record { flat = x.flat.now; part = part_of p }) (take (i + 1) parts))
meets_part a b c m new xs parts i n d x more is below item before checked =
    let view : part_type.Part → Lived = λ p. record { flat = x.flat.now; part = part_of p } in
    meets_one key_lived live IsOneTenancy a b c m new xs (map view (take i parts)) (map view (take (i + 1) parts)) n x more is before checked
    (part_more parts i d x below item)
