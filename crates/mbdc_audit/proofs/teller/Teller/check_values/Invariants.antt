use Rattle.std.proofs.Common.{◌⊎◌, All, AllPairs, take, map, flat_map, slice_get}
use Rattle.mbdc_audit.specs.Walk.{Walks, AreInOrder}
use Rattle.std.specs.BTreeMap.{get}
use Rattle.std.specs.Ordering.{nat_cmp}
use Rattle.std.proofs.Common.{IsSome}
use Rattle.mbdc_audit.specs.Sound.{IsTimed, AreNear, ends_in}
use Rattle.mbdc_audit.specs.View.{run_of, seen_value, source_of, span_of}
use Rattle.mbdc_audit.proofs.teller.Teller.check_values.Given as goal

abbrev pub invariant-values : goal.invariant-values
invariant-values g l = All (λ v. IsSome (slice_get (map run_of l.runs) v.run)) (map seen_value l.values) → Walks l.initial.self.counts (get nat_cmp l.initial.offsets) l.self.counts (get nat_cmp l.offsets)
    (flat_map (λ v. ends_in (source_of v)) (take l.i l.values))
    (All (λ v. IsTimed (map run_of l.runs) (seen_value v)) (take l.i l.values)
    × AllPairs AreInOrder (take l.i l.values)
    × All (λ e. AreNear e (span_of l.span).from ⊎ AreNear e (span_of l.span).to) (flat_map (λ v. ends_in (source_of v)) (take l.i l.values)))
