use Rattle.std.proofs.Common.{refl, ap, subst, ◌∙◌, Result, Ok, Err}
use Rattle.std.proofs.lemmas.Result.{err_from_is_err_and}
use Rattle.mbdc_io.specs.Stream.{Puts}
use Rattle.mbdc_io.proofs.Pieces.{puts-both}
use Rattle.dc_core.specs.Event.{starts, started}
use Rattle.dc_core.specs.declared.fault.StartFault.{StartFault}
use Rattle.dc_poller.specs.Link.{link_by}
use Rattle.dc_poller.specs.Poll.{does, to_start, told_text}
use Rattle.dc_poller.proofs.LineRuns.{on_ok}
use Rattle.dc_poller.proofs.Ways.{way_turn, turn_then, turn_last, fails_in_one, if_fails_later}
use Rattle.dc_poller.proofs.poll.poll.Goals as goal

pub returns-in-Ok-clause-went : goal.returns-in-Ok-clause-went
returns-in-Ok-clause-went g c origin state before chain at =
    let w = g.W.Sink.written in
    let w0 = w c.args.out.now in
    let w1 = w c.told_start.new.out in
    let w2 = w c.read_parts.new.out in
    let one = c.in_ok-started.ensures.went origin state before chain at in
    let told = subst (λ (a : Result (Unit {0}) StartFault). Puts w0 w1 (told_text (started a))) c.in-Ok.is one.is_such.1 in
    turn_then g.D.Disk origin c.args.concentrator.now.house.budget state before c.args.line c.args.moment.seconds c.args.meter.now to_start (link_by (g.B.Bus.lost c.args.bus.now)) (starts c.args.line c.args.meter.now) _ (started (Ok c.in-Ok.field-0)) _ _ _ _ c.args.concentrator.now c.told_start.new.concentrator c.read_parts.new.concentrator
    refl one (λ answer s. s.0 ∙ ap started c.in-Ok.is) c.told_start.ensures.budget (λ behind ch a. c.read_parts.ensures.went c.args.meter.now origin state behind ch a)
    (λ more last e. (
      e.0,
      if_fails_later g.W.Sink c.read_parts.result c.args.out.now c.told_start.new.out c.read_parts.new.out (starts c.args.line c.args.meter.now, started (Ok c.in-Ok.field-0)) more told c.in_ok-started.ensures.counted.0 e.1,
      e.2,
    ))
    (λ more m. on_ok c.read_parts.result _ _ (λ p. puts-both w0 w1 w2 (told_text (started (Ok c.in-Ok.field-0))) more told p) m)

pub returns-in-Err-clause-went : goal.returns-in-Err-clause-went
returns-in-Err-clause-went g c origin state before chain at =
    let w0 = g.W.Sink.written c.args.out.now in
    let w1 = g.W.Sink.written c.told_start.new.out in
    let one = c.in_ok-started.ensures.went origin state before chain at in
    turn_last g.D.Disk origin c.args.concentrator.now.house.budget state before c.args.line c.args.moment.seconds c.args.meter.now to_start (link_by (g.B.Bus.lost c.args.bus.now)) (starts c.args.line c.args.meter.now) _ (started (Err c.in-Err.field-0)) _ _ c.args.concentrator.now c.told_start.new.concentrator
    refl one (λ answer s. s.0 ∙ ap started c.in-Err.is) (refl, tt, refl) (subst (λ (a : Result (Unit {0}) StartFault). Puts w0 w1 (told_text (started a))) c.in-Err.is one.is_such.1)

pub returns-in_err-started-clause-went : goal.returns-in_err-started-clause-went
returns-in_err-started-clause-went g c origin state before chain at =
    let p = err_from_is_err_and c.from_residual.result c.from_residual.ensures.1 in
    rw p.1 (way_turn g.D.Disk origin c.args.concentrator.now.house.budget state before c.args.line c.args.moment.seconds c.args.meter.now to_start (link_by (g.B.Bus.lost c.args.bus.now)) (starts c.args.line c.args.meter.now) _ _ _ c.args.concentrator.now c.told_start.new.concentrator
    refl (c.told_start.ensures.went origin state before chain at) (λ answer is. (tt, fails_in_one g.W.Sink c.args.out.now c.told_start.new.out (does (starts c.args.line c.args.meter.now, answer)) c.in_err-started.ensures.counted.1, refl)) (λ answer is. tt))
