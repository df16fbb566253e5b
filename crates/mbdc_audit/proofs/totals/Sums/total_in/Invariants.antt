use Rattle.std.proofs.Common.{◌≡◌, fold, take}
use Rattle.mbdc_audit.specs.Index.{at, flat_key}
use Rattle.mbdc_audit.specs.Totals.{no_total, picked, place_sum}
use Rattle.mbdc_audit.specs.Walk.{holder_of}
use Rattle.mbdc_audit.proofs.totals.Sums.total_in.Given as goal

-- the flat's places so far are summed
abbrev pub invariant-numbers : goal.invariant-numbers
invariant-numbers g l = l.total ≡ fold (place_sum (holder_of l.holder) l.span l.used) no_total
    (picked l.self.house.now.places.items (take l.number-index (at l.self.flats (flat_key l.flat))))
