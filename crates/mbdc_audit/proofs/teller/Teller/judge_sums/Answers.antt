use Rattle.std.proofs.Common.{arith, ap, length, map, take, ◌≤◌, List, All, subst}
use Rattle.mbdc_audit.specs.declared.house.House.{House}
use Rattle.mbdc_audit.specs.File.{AsksNothing}
use Rattle.mbdc_audit.specs.Published.{MayAsk}
use Rattle.mbdc_audit.specs.Sound.{IsHouse}
use Rattle.mbdc_audit.specs.View.{house_of, number_of}
use Rattle.mbdc_audit.specs.Walk.{AreGradedAll, texts_beside}
use Rattle.mbdc_audit.proofs.Judge.{Only, SureOf, number_more, numbers_all}
use Rattle.mbdc_audit.proofs.teller.Teller.judge_sums.Goals as goal

pub numbers-preserved : goal.numbers-preserved
numbers-preserved g c = record {
  known = c.in_ok-holds.ensures.bases;
  judged = λ sound graded asks. number_more (house_of c.in_ok-sums.sums.house.now) c.deref-number-items.result.now c.args.house.now.numbers.items c.numbers.number-index _
      c.in_ok-holds.holds.0 (texts_beside c.in_ok-holds.holds.1) c.args.self.now.counts c.numbers.self.counts c.judge.new.self.counts
      c.deref-number-items.ensures.value c.numbers-test.true asks
      (c.in_ok-holds.ensures.found sound graded) (c.in_ok-holds.ensures.beside sound graded)
      (c.numbers.invariant.judged sound graded asks) c.in_ok-judge.ensures.kept c.in_ok-judge.ensures.right;
}

pub returns : goal.returns
returns g c = record {
  right = λ sound graded asks.
      let numbers = c.args.house.now.numbers.items in
      let le : length numbers ≤ c.numbers.number-index = omega (arith, ap (λ (l : List _). length l) c.deref-number-items.ensures.value, c.numbers-test.false) in
      numbers_all (house_of c.args.house.now) numbers c.numbers.number-index c.args.self.now.counts c.numbers.self.counts le
      (subst (λ (h : House _). IsHouse (house_of h) → AreGradedAll h.places.items
      → All (λ n. MayAsk (house_of h) n.key) (map number_of numbers)
      → Only (All AsksNothing (map number_of numbers)) c.args.self.now.counts c.numbers.self.counts (All (SureOf (house_of h)) (take c.numbers.number-index numbers)))
      c.in_ok-sums.ensures c.numbers.invariant.judged sound graded asks);
}
