-- Two lists in the same strict order, with the same items, are the same.
use Rattle.std.proofs.Common.{◌≡◌, List}
use Rattle.std.specs.List.{list_any}
use Rattle.std.specs.List.Sorted.{IsStrictlySortedBy}
use Rattle.std.specs.Ordering.{eq_by_cmp}
use Rattle.std.specs.declared.cmp.Ordering.{Ordering}
use Rattle.std.specs.Cmp.{IsTotalOrder}
use Rattle.std.proofs.lemmas.Map.Lookups.{btree_set_from_contains, CmpEqualImpliesEq}

pub same_in_order : {K : Type 0} {R : K → K → Ordering} → IsTotalOrder R → CmpEqualImpliesEq R → (xs ys : List K) → IsStrictlySortedBy R xs → IsStrictlySortedBy R ys
    → ((q : K) → list_any (eq_by_cmp R q) xs ≡ list_any (eq_by_cmp R q) ys) → xs ≡ ys
same_in_order total exact xs ys xs_sorted ys_sorted same =
    btree_set_from_contains total (record { keys = xs }) (record { keys = ys }) xs_sorted ys_sorted same exact
