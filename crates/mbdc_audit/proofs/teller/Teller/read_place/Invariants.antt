-- the windows so far are read, and the others stand as they were
use Rattle.std.proofs.Common.{◌≡◌, ◌↔◌, All, IsTrue, map, take}
use Rattle.mbdc_audit.specs.Settled.{AreCounted, AreKnown, IsOnly}
use Rattle.mbdc_audit.specs.Sound.{IsRead}
use Rattle.mbdc_audit.specs.View.{run_of, window_of}
use Rattle.mbdc_audit.specs.Walk.{is_clean}
use Rattle.mbdc_audit.specs.File.{bare_window}
use Rattle.mbdc_audit.proofs.teller.Teller.read_place.Given as goal

abbrev pub invariant-windows : goal.invariant-windows
invariant-windows g l = (IsTrue (is_clean l.self.counts) ↔ (IsTrue (is_clean l.initial.self.counts)
    × All (λ w. IsRead (map run_of l.runs) l.counts (window_of w)) (take l.window-index l.windows)))
    × (map (λ w. bare_window (window_of w)) l.windows ≡ map (λ w. bare_window (window_of w)) l.initial.windows)
    × (IsTrue (is_clean l.self.counts) → All AreKnown (take l.window-index l.windows))
    × All (AreCounted (map run_of l.runs)) (take l.window-index l.windows)
    × All (IsOnly (map run_of l.runs) l.counts) (take l.window-index l.windows)
