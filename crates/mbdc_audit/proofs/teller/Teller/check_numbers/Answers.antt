use Rattle.std.proofs.Common.{◌≤◌, arith, length}
use Rattle.std.specs.Prelude.{All}
use Rattle.mbdc_audit.specs.declared.house.Place.{Place}
use Rattle.mbdc_audit.specs.File.{AsksNothing, all_opened}
use Rattle.mbdc_audit.specs.House.{House}
use Rattle.mbdc_audit.specs.Published.{IsNumber, MayAskOf}
use Rattle.mbdc_audit.specs.View.{house_of, place_of}
use Rattle.mbdc_audit.specs.Walk.{IsQuiet}
use Rattle.mbdc_audit.proofs.Judge.{all_unmap}
use Rattle.mbdc_audit.proofs.Nested.{AreNumbers, IsPlaced, each_all, flat, item_more, nested, only_both, places_set}
use Rattle.mbdc_audit.proofs.teller.Teller.check_numbers.Goals as goal

pub places-preserved : goal.places-preserved
places-preserved g c = λ sound graded asks.
    let h : House = house_of c.args.house.now in
    item_more (λ (p : Place g.row.A.Denot). IsPlaced h p) (λ (p : Place g.row.A.Denot). All (AreNumbers h (place_of p)) (place_of p).windows)
    (λ (p : Place g.row.A.Denot). All (λ w. All AsksNothing w.numbers) (place_of p).windows)
    (All (λ p. All (λ w. All AsksNothing w.numbers) p.windows) h.places)
    c.deref-place-items.result.now c.args.house.now.places.items c.places.place-index c.place-item.result
    c.args.self.now.counts c.places.self.counts c.judge_place.new.self.counts c.deref-place-items.ensures.value c.places-test.true c.place-item.is
    (places_set h c.args.house.now.places.items sound graded asks)
    (all_unmap (λ p. All (λ w. All AsksNothing w.numbers) p.windows) place_of c.args.house.now.places.items)
    (c.places.invariant sound graded asks)
    (λ one. c.in_ok-judge_place.ensures.right one.0 one.1 one.2)

pub returns : goal.returns
returns g c = record {
  right = λ sound graded asks more.
      let h : House = house_of c.args.house.now in
      let le : length c.deref-place-items.result.now ≤ c.places.place-index = omega (arith, c.places-test.false) in
      only_both (All (λ p. All (λ w. AreNumbers h p w) p.windows) h.places) (All (λ n. AsksNothing n → IsNumber h n) h.numbers)
      (All (λ o. AreNumbers h o.place o.window) (all_opened h)) (All (λ p. All (λ w. All AsksNothing w.numbers) p.windows) h.places)
      (All AsksNothing h.numbers) (IsQuiet h) c.args.self.now.counts c.places.self.counts c.judge_sums.new.self.counts
      (flat h (λ o. AreNumbers h o.place o.window), nested h (λ o. AreNumbers h o.place o.window)) (λ quiet. quiet.of_places) (λ quiet. quiet.of_house)
      (each_all (λ p. All (AreNumbers h p) p.windows) (All (λ p. All (λ w. All AsksNothing w.numbers) p.windows) h.places) place_of c.deref-place-items.result.now c.args.house.now.places.items
      c.places.place-index c.args.self.now.counts c.places.self.counts c.deref-place-items.ensures.value le
      (c.places.invariant sound.places graded (nested h (λ o. All (λ n. MayAskOf h o.place o.window n.key) o.window.numbers) asks)))
      (c.in_ok-judge_sums.ensures.right sound graded more);
}
