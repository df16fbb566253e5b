use Rattle.std.proofs.Common.{take}
use Rattle.std.specs.Prelude.{All}
use Rattle.mbdc_audit.specs.File.{AsksNothing}
use Rattle.mbdc_audit.specs.Published.{MayAskOf}
use Rattle.mbdc_audit.specs.Sound.{IsPlace}
use Rattle.mbdc_audit.specs.View.{house_of, place_of, window_of}
use Rattle.mbdc_audit.specs.Walk.{IsGradedPlace}
use Rattle.mbdc_audit.proofs.Judge.{Only}
use Rattle.mbdc_audit.proofs.Nested.{AreNumbers}
use Rattle.mbdc_audit.proofs.teller.Teller.judge_place.Given as goal

-- the windows so far are judged
abbrev pub invariant-windows : goal.invariant-windows
invariant-windows g l = IsPlace (house_of l.house) (place_of l.place) → IsGradedPlace l.place
    → All (λ w. All (λ n. MayAskOf (house_of l.house) (place_of l.place) w n.key) w.numbers) (place_of l.place).windows
    → Only (All (λ w. All AsksNothing w.numbers) (place_of l.place).windows) l.initial.self.counts l.self.counts
    (All (λ w. AreNumbers (house_of l.house) (place_of l.place) (window_of w)) (take l.window-index l.place.windows.items))
