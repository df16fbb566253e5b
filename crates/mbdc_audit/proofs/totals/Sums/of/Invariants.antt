use Rattle.mbdc_audit.proofs.IndexPlaces.{IsIndexed}
use Rattle.mbdc_audit.proofs.totals.Sums.of.Given as goal

-- the places so far are found by their flats
abbrev pub invariant-places : goal.invariant-places
invariant-places g l = IsIndexed l.flats l.house.places.items l.i
