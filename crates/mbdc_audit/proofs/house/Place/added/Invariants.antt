use Rattle.std.proofs.Common.{◌≡◌, fold, take}
use Rattle.mbdc_audit.specs.Totals.{window_sum}
use Rattle.mbdc_audit.specs.Walk.{holder_of}
use Rattle.mbdc_audit.proofs.house.Place.added.Given as goal

-- the windows so far are summed
abbrev pub invariant-windows : goal.invariant-windows
invariant-windows g l = l.total ≡ fold (window_sum (holder_of l.holder) l.span l.self) l.initial.total (take l.window-index l.self.windows.items)
