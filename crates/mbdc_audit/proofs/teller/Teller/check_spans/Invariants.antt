use Rattle.std.proofs.Common.{All, AllPairs, take, flat_map}
use Rattle.mbdc_audit.specs.Walk.{Walks}
use Rattle.std.specs.BTreeMap.{get}
use Rattle.std.specs.Ordering.{nat_cmp}
use Rattle.std.proofs.Common.{[], ◌∷◌}
use Rattle.mbdc_audit.specs.View.{span_of}
use Rattle.mbdc_audit.proofs.Spans.{AreOther, HasTime}
use Rattle.mbdc_audit.proofs.teller.Teller.check_spans.Given as goal

abbrev pub invariant-spans : goal.invariant-spans
invariant-spans g l = Walks l.initial.self.counts (get nat_cmp l.initial.offsets) l.self.counts (get nat_cmp l.offsets)
    (flat_map (λ s. (span_of s).from ∷ (span_of s).to ∷ []) (take l.i l.spans))
    (All HasTime (take l.i l.spans) × AllPairs AreOther (take l.i l.spans))
