use Rattle.std.proofs.Common.{All, ◌≤◌, arith, length}
use Rattle.mbdc_audit.specs.File.{AsksNothing}
use Rattle.mbdc_audit.proofs.Judge.{all_unmap}
use Rattle.mbdc_audit.specs.declared.house.Window.{Window}
use Rattle.mbdc_audit.specs.House.{House, Place}
use Rattle.mbdc_audit.specs.View.{house_of, place_of, window_of}
use Rattle.mbdc_audit.proofs.Nested.{AreNumbers, IsSet, each_all, item_more, windows_set}
use Rattle.mbdc_audit.proofs.teller.Teller.judge_place.Goals as goal

pub windows-preserved : goal.windows-preserved
windows-preserved g c = λ sound graded asks.
    let h : House = house_of c.args.house.now in
    let p : Place = place_of c.args.place.now in
    item_more (λ (w : Window g.row.A.Denot). IsSet h p w) (λ (w : Window g.row.A.Denot). AreNumbers h p (window_of w))
    (λ (w : Window g.row.A.Denot). All AsksNothing (window_of w).numbers) (All (λ w. All AsksNothing w.numbers) p.windows)
    c.deref-window-items.result.now c.args.place.now.windows.items c.windows.window-index c.window-item.result
    c.args.self.now.counts c.windows.self.counts c.judge_window.new.self.counts c.deref-window-items.ensures.value c.windows-test.true c.window-item.is
    (windows_set h c.args.place.now sound graded asks) (all_unmap (λ w. All AsksNothing w.numbers) window_of c.args.place.now.windows.items)
    (c.windows.invariant sound graded asks)
    (λ one. c.in_ok-judge_window.ensures.right one.0.0 one.0.1 one.0.2 one.1 one.2)

pub returns : goal.returns
returns g c = record {
  right = λ sound graded asks.
      let h : House = house_of c.args.house.now in
      let le : length c.deref-window-items.result.now ≤ c.windows.window-index = omega (arith, c.windows-test.false) in
      each_all (AreNumbers h (place_of c.args.place.now)) (All (λ w. All AsksNothing w.numbers) (place_of c.args.place.now).windows) window_of c.deref-window-items.result.now c.args.place.now.windows.items
      c.windows.window-index c.args.self.now.counts c.windows.self.counts c.deref-window-items.ensures.value le
      (c.windows.invariant sound graded asks);
}
