-- Ordered lists of any items (this product's lists).
use Rattle.std.specs.Prelude.{List, map}
use Rattle.std.specs.FinMap.{keys, from_entries}
use Rattle.std.specs.declared.cmp.Ordering.{Ordering}

-- an item as a key of a map without values
abbrev pub alone : {K : Type 0} → K → K × Unit {0}
alone k = (k, tt)

-- the items are in order, each once
abbrev pub ascending : {K : Type 0} → (K → K → Ordering) → List K → List K
ascending R xs = keys (from_entries {R = R} (map alone xs))
