use Rattle.std.proofs.Common.{ℕ, List, [], ◌≤◌, length, arith, sym, subst, refl}
use Rattle.std.proofs.lemmas.Result.{err_from_is_err_and}
use Rattle.mbdc_io.specs.Stream.{Puts}
use Rattle.mbdc_io.proofs.Pieces.{puts-both}
use Rattle.mbdc_bus.specs.Limits.{most_answer}
use Rattle.dc_poller.specs.Link.{link_by, IsHeardOver}
use Rattle.dc_poller.specs.Poll.{to_hear}
use Rattle.dc_poller.proofs.LineRuns.{on_ok}
use Rattle.dc_core.proofs.Wents.{went_none}
use Rattle.dc_poller.proofs.Ways.{way_as, way_exchange, way_then, if_fails_after, exchanged_alone, exchanged_over, loss_fails, silence_over}
use Rattle.dc_poller.proofs.poll.exchange.Goals as goal

pub returns-clause-went : goal.returns-clause-went
returns-clause-went g c meter origin state before chain at =
    let w = g.W.Sink.written in
    let w0 = w c.args.out.now in
    let w1 = w c.ask_bus.new.out in
    let w2 = w c.hear.new.out in
    let was = (g.B.Bus.lost c.args.bus.now) in
    let is = (g.B.Bus.lost c.ask_bus.new.bus) in
    let request = c.args.request.now in
    let answer = c.as_slice.result.now in
    let same = sym c.as_slice.ensures.bytes in
    let short = subst (λ (xs : List ℕ). length xs ≤ most_answer) same c.in_ok-answer.ensures.heard.0 in
    let over = subst (IsHeardOver (link_by is)) same c.in_ok-answer.ensures.heard.1 in
    let asked = subst (λ (xs : List ℕ). g.B.Bus.asks c.args.bus.now request xs c.ask_bus.new.bus) same c.in_ok-answer.ensures.asked in
    let one = way_exchange g.D.Disk origin c.args.concentrator.now.house.budget state before c.args.line c.args.moment.seconds meter was is request answer (Puts w0 w1) c.args.concentrator.now (went_none g.D.Disk origin c.args.concentrator.now.house.budget state before c.args.concentrator.now chain at (λ h image left. g.met.D.Disk.only_now c.args.concentrator.now.store.disk image left)) c.ask_bus.ensures.lost short over c.in_ok-answer.ensures.told.0 in
    way_then g.D.Disk origin c.args.concentrator.now.house.budget state before c.args.line c.args.moment.seconds meter _ (record { due = to_hear answer; link = link_by is }) _ _ _ _ _ _ c.args.concentrator.now c.args.concentrator.now c.hear.new.concentrator
    one one.ends_so.1 refl (λ behind ch a. c.hear.ensures.went meter (link_by is) origin state behind ch a)
    (λ more last e. (
      e.0,
      if_fails_after g.W.Sink c.hear.result c.args.out.now c.ask_bus.new.out c.hear.new.out one.happened more one.text c.in_ok-answer.ensures.told.1 e.1,
      exchanged_over g.B.Bus.asks c.args.bus.now c.ask_bus.new.bus was is request answer one.happened more one.ends_so.0 e.2 asked,
    ))
    (λ text more p m. on_ok c.hear.result _ _ (λ q. puts-both w0 w1 w2 text more p q) m)

pub returns-in_err-answer-clause-went : goal.returns-in_err-answer-clause-went
returns-in_err-answer-clause-went g c meter origin state before chain at =
    let p = err_from_is_err_and c.from_residual.result c.from_residual.ensures.1 in
    rw p.1 (let was = (g.B.Bus.lost c.args.bus.now) in
    let is = (g.B.Bus.lost c.ask_bus.new.bus) in
    let request = c.args.request.now in
    let lost_so = c.in_err-answer.ensures.unwritten in
    let one = way_exchange g.D.Disk origin c.args.concentrator.now.house.budget state before c.args.line c.args.moment.seconds meter was is request [] (λ text. Unit {0}) c.args.concentrator.now (went_none g.D.Disk origin c.args.concentrator.now.house.budget state before c.args.concentrator.now chain at (λ h image left. g.met.D.Disk.only_now c.args.concentrator.now.store.disk image left)) c.ask_bus.ensures.lost (omega arith) (silence_over is) tt in
    way_as g.D.Disk origin c.args.concentrator.now.house.budget state before c.args.line c.args.moment.seconds meter _ _ _ _ _ c.args.concentrator.now c.args.concentrator.now one
    (λ happened last e. (
      tt,
      loss_fails g.W.Sink c.args.out.now c.ask_bus.new.out was is (record { request = request; answer = [] }) happened lost_so.0 lost_so.1 e.0 c.in_err-answer.ensures.told.3,
      exchanged_alone g.B.Bus.asks c.args.bus.now c.ask_bus.new.bus was is request [] happened e.0 lost_so.2,
    ))
    (λ text p. tt))
