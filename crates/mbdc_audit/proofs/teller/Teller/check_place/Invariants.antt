use Rattle.std.proofs.Common.{All, take, flat_map}
use Rattle.mbdc_audit.specs.Walk.{Walks}
use Rattle.std.specs.BTreeMap.{get}
use Rattle.std.specs.Ordering.{nat_cmp}
use Rattle.std.proofs.Common.{Contains}
use Rattle.mbdc_audit.specs.Sound.{IsBuilt, ends_of}
use Rattle.mbdc_audit.specs.View.{house_of, place_of, window_of}
use Rattle.mbdc_audit.proofs.Windowed.{IsOpened}
use Rattle.mbdc_audit.proofs.teller.Teller.check_place.Given as goal

abbrev pub invariant-windows : goal.invariant-windows
invariant-windows g l = IsBuilt (house_of l.house) → Contains (house_of l.house).places (place_of l.place) → Walks l.initial.self.counts (get nat_cmp l.initial.offsets) l.self.counts (get nat_cmp l.offsets)
    (flat_map (λ w. ends_of (window_of w)) (take l.window-index l.windows))
    (All (IsOpened (house_of l.house) (place_of l.place)) (take l.window-index l.windows))
