use Rattle.std.proofs.Common.{refl, ◌∙◌}
use Rattle.mbdc_poll.specs.Keeping.{IsAsking}
use Rattle.mbdc_poll.proofs.Becoming.{none_first}
use Rattle.mbdc_poll.proofs.Idling.{fewer_out, fewer_empty}
use Rattle.mbdc_poll.proofs.Queues.{line_stays, steps_none}
use Rattle.mbdc_poll.proofs.Running.{runs_none}
use Rattle.mbdc_poll.proofs.stepping.step.Goals as goal

pub returns-in_default : goal.returns-in_default
returns-in_default g c = record {
  went = runs_none g.D.Disk _ c.args.concentrator.now (λ image left. g.met.D.Disk.only_now c.args.concentrator.now.store.disk image left)
      (λ core. steps_none c.args.tries c.args.line IsAsking c.args.station.now c.args.station.now (line_stays c.args.tries c.args.line c.args.station.now));
  sound = c.requires;
  fewer = fewer_out g.B.HalfBus c.args.tries c.args.station.now c.requires c.in_default.not-Quiet;
  budget = refl;
}

pub returns-in_default-present-clause-went : goal.returns-in_default-present-clause-went
returns-in_default-present-clause-went g c =
    runs_none g.D.Disk _ c.args.concentrator.now (λ image left. g.met.D.Disk.only_now c.args.concentrator.now.store.disk image left)
    (λ core. steps_none c.args.tries c.args.line IsAsking c.args.station.now c.args.station.now (line_stays c.args.tries c.args.line c.args.station.now))

pub returns-in-Busy-clause-went : goal.returns-in-Busy-clause-went
returns-in-Busy-clause-went g c = c.ask.ensures.went c.args.tries c.requires

pub returns-in_default-phase-clause-went : goal.returns-in_default-phase-clause-went
returns-in_default-phase-clause-went g c =
    runs_none g.D.Disk _ c.args.concentrator.now (λ image left. g.met.D.Disk.only_now c.args.concentrator.now.store.disk image left)
    (λ core. steps_none c.args.tries c.args.line IsAsking c.args.station.now c.args.station.now (line_stays c.args.tries c.args.line c.args.station.now))

pub returns-in_default-present-clause-fewer : goal.returns-in_default-present-clause-fewer
returns-in_default-present-clause-fewer g c =
    fewer_empty g.B.HalfBus c.args.tries c.args.station.now c.requires
    (none_first c.args.station.now.left.now (λ m is. c.in_default-present.not-Some m (c.present.ensures ∙ is)))
