-- Entries in strict order are what a list that has the same at each key gives in order.
use Rattle.std.proofs.Common.{◌≡◌, Bool, true, false, cond, List, [], ◌∷◌, Option, Some, None, refl, sym, ap, subst, ◌∙◌, map}
use Rattle.std.specs.Prelude.{T, ◌||◌}
use Rattle.std.specs.List.{list_any, AllByRecursion}
use Rattle.std.specs.List.Sorted.{IsStrictlySortedBy}
use Rattle.std.specs.Ordering.{eq_by_cmp, is_lt}
use Rattle.std.specs.declared.cmp.Ordering.{Ordering}
use Rattle.std.specs.declared.cmp.Ordering.TheVariants.{Less}
use Rattle.std.specs.Cmp.{IsTotalOrder}
use Rattle.std.proofs.lemmas.Bool.{and_from}
use Rattle.std.specs.FinMap.{FinMap, IsAntisymmetric, is_sorted, find, entries, from_sorted, from_entries, entries-from_sorted, get-from_sorted, get-from_entries, same_map}
use Rattle.std.specs.FinMap.Entries.{below_all}
use Rattle.dc_meters.specs.Ascending.{alone, ascending}

abbrev pub keys_of : {K X : Type 0} → List (K × X) → List K
keys_of es = map (λ e. e.0) es

module _ {K X : Type 0} (R : K → K → Ordering) where
  below : (k : K) (es : List (K × X)) → AllByRecursion (λ q. R k q ≡ Less) (keys_of es) → below_all R k es ≡ true
  below k [] all = refl
  below k (e ∷ es) all = and_from _ _ (ap is_lt all.0) (below k es all.1)

  rises : (es : List (K × X)) → IsStrictlySortedBy R (keys_of es) → is_sorted R es ≡ true
  unfolding IsStrictlySortedBy
  rises [] sorted = refl
  rises (e ∷ es) sorted = and_from _ _ (below e.0 es sorted.0) (rises es sorted.1)

  pub entries_in_order : IsTotalOrder R → IsAntisymmetric R → (es xs : List (K × X)) → IsStrictlySortedBy R (keys_of es) → ((q : K) → find R q es ≡ find R q xs) → es ≡ entries (from_entries {R = R} xs)
  entries_in_order total same es xs sorted found =
      let up : T (is_sorted R es) = subst T (sym (rises es sorted)) tt in
      let whole : FinMap R X = from_sorted es in
      let both : whole ≡ from_entries {R = R} xs =
      same_map total same whole (from_entries {R = R} xs) (λ q. get-from_sorted R es q up ∙ found q ∙ sym (get-from_entries total xs q)) in
      sym (entries-from_sorted R es up) ∙ ap entries both

-- ---- keys alone

module _ {K : Type 0} (R : K → K → Ordering) where
  firsts : (ks : List K) → keys_of (map alone ks) ≡ ks
  firsts [] = refl
  firsts (k ∷ ks) = ap (λ (l : List K). k ∷ l) (firsts ks)

  abbrev told : Bool → Option (Unit {0})
  told b = cond b (Some tt) None

  chosen : (a b : Bool) → cond a (Some tt) (told b) ≡ told (a || b)
  chosen true b = refl
  chosen false b = refl

  found_alone : (q : K) (ks : List K) → find R q (map alone ks) ≡ told (list_any (eq_by_cmp R q) ks)
  found_alone q [] = refl
  found_alone q (k ∷ ks) = ap (λ (o : Option (Unit {0})). cond (eq_by_cmp R q k) (Some tt) o) (found_alone q ks) ∙ chosen (eq_by_cmp R q k) (list_any (eq_by_cmp R q) ks)

  -- keys in strict order that are found where the items of xs are: the items in order
  pub in_order : IsTotalOrder R → IsAntisymmetric R → (ks xs : List K) → IsStrictlySortedBy R ks → ((q : K) → list_any (eq_by_cmp R q) ks ≡ list_any (eq_by_cmp R q) xs) → ks ≡ ascending R xs
  in_order total same ks xs sorted found =
      sym (firsts ks)
      ∙ ap (λ (es : List (K × Unit {0})). keys_of es)
      (entries_in_order R total same (map alone ks) (map alone xs) (subst (IsStrictlySortedBy R) (sym (firsts ks)) sorted)
      (λ q. found_alone q ks ∙ ap told (found q) ∙ sym (found_alone q xs)))
