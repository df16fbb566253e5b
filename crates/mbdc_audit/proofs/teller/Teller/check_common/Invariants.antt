use Rattle.std.proofs.Common.{◌↔◌, All, IsTrue, take}
use Rattle.mbdc_audit.specs.Curve.{IsCurve}
use Rattle.mbdc_audit.specs.Walk.{is_clean, AreFound}
use Rattle.mbdc_audit.specs.Sound.{AreOneCurve}
use Rattle.mbdc_audit.specs.View.{house_of, window_of}
use Rattle.mbdc_audit.proofs.teller.Teller.check_common.Given as goal

abbrev pub invariant-earlier : goal.invariant-earlier
invariant-earlier g l = IsCurve l.one.0.now l.one.1.now → All (λ w. AreFound w.values.items) l.fn.earlier → IsTrue (is_clean l.self.counts) ↔ (IsTrue (is_clean l.initial.self.counts)
    × All (λ w. AreOneCurve (house_of l.house) (window_of w) (window_of l.one.0.now)) (take l.other-index l.earlier))
