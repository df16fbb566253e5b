use Rattle.std.proofs.Common.{take, map}
use Rattle.std.specs.Prelude.{All}
use Rattle.mbdc_audit.specs.File.{AsksNothing}
use Rattle.mbdc_audit.specs.Published.{MayAsk}
use Rattle.mbdc_audit.specs.Sound.{IsHouse}
use Rattle.mbdc_audit.specs.View.{house_of, number_of}
use Rattle.mbdc_audit.specs.Walk.{AreGradedAll}
use Rattle.mbdc_audit.specs.Totals.{AreBases}
use Rattle.mbdc_audit.proofs.Judge.{Only, SureOf}
use Rattle.mbdc_audit.proofs.teller.Teller.judge_sums.Given as goal

-- the numbers so far are judged, and bases are of their spans and uses
abbrev pub invariant-numbers : goal.invariant-numbers
invariant-numbers g l = record {
  known : AreBases l.sums.house.now.places.items l.sums.house.now.users.items l.bases.items;
  judged : IsHouse (house_of l.sums.house.now) → AreGradedAll l.sums.house.now.places.items
      → All (λ n. MayAsk (house_of l.sums.house.now) n.key) (map number_of l.house.numbers.items)
      → Only (All AsksNothing (map number_of l.house.numbers.items)) l.initial.self.counts l.self.counts (All (SureOf (house_of l.sums.house.now)) (take l.number-index l.house.numbers.items));
}
