-- What comes after all others in an order.
use Rattle.std.proofs.Common.{◌≡◌, ℕ, ◌-◌, ◌<◌, List, [], ◌∷◌, ◌++◌, length, map, get_or, true, false, Option, None, Some, cond, refl, ap, subst, ◌∙◌, arith, inl, inr}
use Rattle.std.specs.Prelude.{All, slice_get}
use Rattle.std.specs.List.{AllByRecursion}
use Rattle.std.specs.Map.{lookup, keys_of}
use Rattle.std.specs.BTreeMap.{is_at, insert_entry}
use Rattle.std.specs.List.Sorted.{IsStrictlySortedBy}
use Rattle.std.specs.Ordering.{nat_cmp, is_eq, is_gt, ordering_reverse}
use Rattle.std.specs.declared.cmp.Ordering.{Ordering}
use Rattle.std.specs.declared.cmp.Ordering.TheVariants.{Less, Greater}
use Rattle.std.specs.Cmp.{IsTotalOrder}
use Rattle.std.proofs.lemmas.Bool.{cases_lt}
use Rattle.std.proofs.lemmas.List.{length-map}
use Rattle.std.proofs.Math.ListN.{get_or-map}
use Rattle.std.proofs.lemmas.Option.{slice_get-map, slice_get_within, get_or_from_slice_get}
use Rattle.std.proofs.lemmas.List.Elements.{All-nil, All-cons, All-head, All-tail}
use Rattle.std.proofs.lemmas.Map.Keys.{sorted_head, sorted_tail, below_from_sorted}
use Rattle.dc_address.specs.declared.identity.Identity.{Identity}
use Rattle.dc_address.specs.Identity.{identity_cmp}
use Rattle.mbdc_change.specs.State.{MeterRow, ReadingRow}
use Rattle.dc_address.proofs.Order.{identities_total}

module _ {K : Type 0} {R : K → K → Ordering} where
  pub turned : IsTotalOrder R → (a b : K) → R a b ≡ Less → R b a ≡ Greater
  turned total a b less = total.antisymm b a ∙ ap ordering_reverse less

  -- what is after all keys goes to their end
  pub insert_last : {X : Type 0} → IsTotalOrder R → (es : List (K × X)) (k : K) (v : X) → All (λ q. R q k ≡ Less) (keys_of es) → insert_entry R es k v ≡ es ++ (k, v) ∷ []
  insert_last total [] k v all = refl
  insert_last {X} total (e ∷ es) k v all =
      let first = turned total e.0 k (All-head (λ q. R q k ≡ Less) e.0 (keys_of es) all) in
      let more = insert_last total es k v (All-tail (λ q. R q k ≡ Less) e.0 (keys_of es) all) in
      rw (first, more) refl

-- a meter after all others isn't among them
pub absent_behind : (es : List (Identity × MeterRow)) (meter : Identity) → All (λ q. identity_cmp q meter ≡ Less) (keys_of es) → lookup (is_at (identity_cmp meter)) es ≡ None
absent_behind [] meter all = refl
absent_behind (e ∷ es) meter all =
    let first = turned identities_total e.0 meter (All-head (λ q. identity_cmp q meter ≡ Less) e.0 (keys_of es) all) in
    ap (λ (o : Ordering). cond (is_eq o) (Some e.1) (lookup (is_at (identity_cmp meter)) es)) first ∙ absent_behind es meter (All-tail (λ q. identity_cmp q meter ≡ Less) e.0 (keys_of es) all)

-- in an ascending list the elements before one are below it
at_next : {X K : Type 0} (f : X → K) (P : K → Type 0) (xs : List X) (x : X) (zs : List X) → AllByRecursion P (map f (xs ++ x ∷ zs)) → P (f x)
at_next f P [] x zs all = all.0
at_next f P (y ∷ xs) x zs all = at_next f P xs x zs all.1

pub before_next : {X K : Type 0} (R : K → K → Ordering) (f : X → K) (xs : List X) (x : X) (zs : List X) → IsStrictlySortedBy R (map f (xs ++ x ∷ zs)) → All (λ q. R q (f x) ≡ Less) (map f xs)
before_next R f [] x zs sorted = All-nil (λ q. R q (f x) ≡ Less)
before_next R f (y ∷ xs) x zs sorted =
    All-cons (λ q. R q (f x) ≡ Less) (f y) (map f xs)
    (at_next f (λ q. R (f y) q ≡ Less) xs x zs (sorted_head R (f y) (map f (xs ++ x ∷ zs)) sorted))
    (before_next R f xs x zs (sorted_tail R (f y) (map f (xs ++ x ∷ zs)) sorted))

gt_test : (o : Ordering) → o ≡ Greater → is_gt o ≡ false → ⊥
gt_test o greater no_gt = let yes : is_gt o ≡ true = ap is_gt greater in cc

-- a meter that isn't after the last isn't after all
pub not_behind : (es : List (Identity × MeterRow)) (i : ℕ) (k meter : Identity) (row : MeterRow) → slice_get es i ≡ Some (k, row) → is_gt (identity_cmp meter k) ≡ false
    → All (λ other. identity_cmp other meter ≡ Less) (keys_of es) → ⊥
not_behind es i k meter row at no_gt all =
    let key : slice_get (keys_of es) i ≡ Some k = slice_get-map (λ (e : Identity × MeterRow). e.0) es i ∙ ap (λ (o : Option (Identity × MeterRow)). Rattle.std.specs.Option.option_map (λ (e : Identity × MeterRow). e.0) o) at in
    let here : identity_cmp k meter ≡ Less =
    subst (λ (q : Identity). identity_cmp q meter ≡ Less) (get_or_from_slice_get (keys_of es) i k k key) (all i k (slice_get_within (keys_of es) i k key)) in
    gt_test (identity_cmp meter k) (turned identities_total k meter here) no_gt

-- what comes after the last reading comes after all
pub all_before : (readings : List ReadingRow) (last : ReadingRow) (serial : ℕ) → IsStrictlySortedBy nat_cmp (map (λ (r : ReadingRow). r.serial) readings)
    → slice_get readings (length readings - 1) ≡ Some last → last.serial < serial → All (λ (r : ReadingRow). r.serial < serial) readings
all_before readings last serial sorted at below k d within =
    let final : ℕ = length readings - 1 in
    let end : get_or readings final d ≡ last = get_or_from_slice_get readings final last d at in
    let serial_at : (i : ℕ) → get_or (map (λ (r : ReadingRow). r.serial) readings) i d.serial ≡ (get_or readings i d).serial = λ i. get_or-map (λ (r : ReadingRow). r.serial) readings i d in
    elim (cases_lt k final) [
      | inl before ↦
          let less = below_from_sorted (map (λ (r : ReadingRow). r.serial) readings) k final d.serial sorted before (omega (arith, length-map readings (λ (r : ReadingRow). r.serial))) in
          omega (arith, less, serial_at k, serial_at final, ap (λ (r : ReadingRow). r.serial) end)
      | inr behind ↦
          let here : k ≡ final = omega arith in
          omega (arith, ap (λ (i : ℕ). (get_or readings i d).serial) here, ap (λ (r : ReadingRow). r.serial) end)
    ]
