use Rattle.mbdc_poll.specs.Keeping.{IsAsking}
use Rattle.mbdc_poll.proofs.Queues.{steps_both}
use Rattle.mbdc_poll.proofs.Running.{runs_then}
use Rattle.mbdc_poll.proofs.stepping.prepare.Goals as goal

pub returns-then-start-clause-went : goal.returns-then-start-clause-went
returns-then-start-clause-went g c =
    runs_then g.D.Disk _ _ _ c.args.concentrator.now c.start.new.concentrator c.start.new.concentrator
    c.start.ensures.went c.start.ensures.budget (c.ask.ensures.went c.args.tries c.start.ensures.sound)
    (λ core happened more a b. steps_both c.args.tries c.args.line IsAsking c.args.station.now c.start.new.station c.ask.new.station happened more a b)
