use Rattle.std.proofs.Common.{◌<◌, ap, refl, ◌∙◌, arith}
use Rattle.dc_core.specs.Event.{asks, asked}
use Rattle.mbdc_poll.specs.Keeping.{IsAsking}
use Rattle.mbdc_poll.specs.declared.phase.Phase.TheVariants.{Busy}
use Rattle.mbdc_poll.proofs.Becoming.{line_asked, line_given_up}
use Rattle.mbdc_poll.proofs.Queues.{on_line, off_line, steps_none, steps_one}
use Rattle.mbdc_poll.proofs.Running.{runs_none, runs_as, runs_one}
use Rattle.mbdc_poll.proofs.stepping.ask.Goals as goal

pub returns-then-asks-eq0-clause-went : goal.returns-then-asks-eq0-clause-went
returns-then-asks-eq0-clause-went g c tries sound =
    runs_none g.D.Disk _ c.args.concentrator.now (λ image left. g.met.D.Disk.only_now c.args.concentrator.now.store.disk image left)
    (λ core. steps_none tries c.args.line IsAsking c.args.station.now c.leave.new.self
    (line_given_up g.B.HalfBus tries c.args.line c.args.meter c.args.station.now c.leave.new.self (c.requires.busy ∙ ap Busy c.if-asks-eq0.true) c.requires.quiet c.requires.first sound c.leave.ensures.after c.leave.ensures.brought))

pub returns-clause-went : goal.returns-clause-went
returns-clause-went g c tries sound =
    let some : 0 < c.args.asks = omega (arith, c.if-asks-eq0.false) in
    runs_as g.D.Disk _ _ c.args.concentrator.now c.args.concentrator.now
    (runs_one g.D.Disk c.args.concentrator.now c.args.concentrator.now (asks c.args.line) (asked c.ask-request.result) (λ image left. g.met.D.Disk.only_now c.args.concentrator.now.store.disk image left) c.ask-request.ensures.may (λ origin core at. at) tt refl)
    (λ core happened is. steps_one tries c.args.line IsAsking c.args.station.now c.asked.new.self (asks c.args.line) (asked c.ask-request.result) happened is (on_line c.args.line) (λ other not. off_line c.args.line other not) tt
    (line_asked g.B.HalfBus tries c.args.line c.args.asks c.args.meter c.ask-request.result c.args.station.now c.asked.new.self c.requires.busy some c.requires.quiet c.requires.first sound c.asked.ensures.sent c.asked.ensures.over c.asked.ensures.brought))
