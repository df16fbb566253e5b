use Rattle.std.proofs.Common.{◌≡◌, fold, take}
use Rattle.mbdc_audit.specs.Totals.{no_total, place_sum}
use Rattle.mbdc_audit.specs.Walk.{holder_of}
use Rattle.mbdc_audit.proofs.totals.Sums.total_of_all.Given as goal

-- the places so far are summed
abbrev pub invariant-places : goal.invariant-places
invariant-places g l = l.total ≡ fold (place_sum (holder_of l.holder) l.span l.used) no_total (take l.place-index l.self.house.now.places.items)
