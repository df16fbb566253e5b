use Rattle.dc_core.specs.Event.{starts, started}
use Rattle.mbdc_poll.specs.Keeping.{IsAsking}
use Rattle.mbdc_poll.proofs.Becoming.{free_quiet, free_pass, line_started, sound_started, fewer_started}
use Rattle.mbdc_poll.proofs.Queues.{on_line, off_line, steps_one}
use Rattle.mbdc_poll.proofs.Running.{runs_as, runs_one}
use Rattle.mbdc_poll.proofs.stepping.start.Goals as goal

pub returns-clause-went : goal.returns-clause-went
returns-clause-went g c =
    let old = c.args.station.now in
    let silent = free_quiet g.B.HalfBus c.args.tries old c.requires.free c.requires.sound in
    runs_as g.D.Disk _ _ c.args.concentrator.now c.start-answer.new.self
    (runs_one g.D.Disk c.args.concentrator.now c.start-answer.new.self (starts c.args.line c.args.meter) (started c.start-answer.result) (λ image left. g.met.D.Disk.only_now c.args.concentrator.now.store.disk image left) c.start-answer.ensures.may c.start-answer.ensures.at tt c.start-answer.ensures.store)
    (λ core happened is. steps_one c.args.tries c.args.line IsAsking old c.started.new.self (starts c.args.line c.args.meter) (started c.start-answer.result) happened is (on_line c.args.line) (λ other not. off_line c.args.line other not) tt
    (line_started g.B.HalfBus c.args.tries c.args.line c.args.meter c.start-answer.result old c.started.new.self c.requires.free silent c.requires.first c.requires.due (free_pass g.B.HalfBus c.args.tries old c.requires.free c.requires.sound).1 c.started.ensures.ok c.started.ensures.err c.started.ensures.brought))

pub returns-clause-fewer : goal.returns-clause-fewer
returns-clause-fewer g c =
    let old = c.args.station.now in
    let silent = free_quiet g.B.HalfBus c.args.tries old c.requires.free c.requires.sound in
    fewer_started g.B.HalfBus c.args.tries c.args.meter c.start-answer.result old c.started.new.self c.requires.free silent c.requires.first c.requires.due c.started.ensures.ok c.started.ensures.err

pub returns-clause-sound : goal.returns-clause-sound
returns-clause-sound g c =
    sound_started g.B.HalfBus c.args.tries c.args.meter c.start-answer.result c.args.station.now c.started.new.self c.requires.free c.requires.due c.requires.sound c.started.ensures.ok c.started.ensures.err
