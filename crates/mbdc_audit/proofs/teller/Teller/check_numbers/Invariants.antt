use Rattle.std.proofs.Common.{take}
use Rattle.std.specs.Prelude.{All}
use Rattle.mbdc_audit.specs.File.{AsksNothing}
use Rattle.mbdc_audit.specs.Published.{MayAskOf}
use Rattle.mbdc_audit.specs.Sound.{IsPlace}
use Rattle.mbdc_audit.specs.View.{house_of, place_of}
use Rattle.mbdc_audit.specs.Walk.{AreGradedAll}
use Rattle.mbdc_audit.proofs.Judge.{Only}
use Rattle.mbdc_audit.proofs.Nested.{AreNumbers}
use Rattle.mbdc_audit.proofs.teller.Teller.check_numbers.Given as goal

-- the places so far are judged
abbrev pub invariant-places : goal.invariant-places
invariant-places g l = All (IsPlace (house_of l.house)) (house_of l.house).places → AreGradedAll l.house.places.items
    → All (λ p. All (λ w. All (λ n. MayAskOf (house_of l.house) p w n.key) w.numbers) p.windows) (house_of l.house).places
    → Only (All (λ p. All (λ w. All AsksNothing w.numbers) p.windows) (house_of l.house).places) l.initial.self.counts l.self.counts
    (All (λ p. All (AreNumbers (house_of l.house) (place_of p)) (place_of p).windows) (take l.place-index l.house.places.items))
