use Rattle.std.proofs.Common.{◌≡◌, false, true, fold, take}
use Rattle.mbdc_audit.specs.Index.{at, flat_key}
use Rattle.mbdc_audit.specs.Totals.{has_own, is_filled, picked}
use Rattle.mbdc_audit.specs.View.{span_of}
use Rattle.mbdc_audit.proofs.IndexPlaces.{all_of, any_of}
use Rattle.mbdc_audit.proofs.totals.Sums.has_whole.Given as goal

-- what holds of the flat's places so far
abbrev pub invariant-numbers : goal.invariant-numbers
invariant-numbers g l =
    let places = picked l.self.house.now.places.items (take l.i-index (at l.self.flats (flat_key l.user.flat.now))) in
    (l.has_own ≡ fold (any_of (has_own l.user.flat.now l.number.used l.span)) false places)
    × (l.are_filled ≡ fold (all_of (is_filled l.number.user l.user.flat.now l.number.used l.span (span_of l.within))) true places)
