use Rattle.std.proofs.Common.{◌↔◌, All, AllPairs, IsTrue, take}
use Rattle.mbdc_audit.specs.Walk.{is_clean, AreFound}
use Rattle.mbdc_audit.specs.Sound.{AreOneCurve}
use Rattle.mbdc_audit.specs.View.{house_of, window_of}
use Rattle.mbdc_audit.proofs.teller.Teller.check_ends.Given as goal

abbrev pub invariant-windows : goal.invariant-windows
invariant-windows g l = All (λ w. AreFound w.values.items) l.windows → IsTrue (is_clean l.self.counts) ↔ (IsTrue (is_clean l.initial.self.counts)
    × AllPairs (λ w x. AreOneCurve (house_of l.house) (window_of w) (window_of x)) (take l.i l.windows))
