-- Lists of any items in the order of their keys (this product's lists).
use Rattle.std.specs.Prelude.{List, map}
use Rattle.std.specs.FinMap.{entries, from_entries}
use Rattle.std.specs.declared.cmp.Ordering.{Ordering}

-- an item at its key
abbrev pub at_key : {K X : Type 0} → (X → K) → X → K × X
at_key key x = (key x, x)

-- the items are in the order of their keys, which all differ
abbrev pub sorted_by : {K X : Type 0} → (K → K → Ordering) → (X → K) → List X → List X
sorted_by R key xs = map (λ e. e.1) (entries (from_entries {R = R} (map (at_key key) xs)))
