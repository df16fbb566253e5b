use Rattle.std.proofs.Common.{ap}
use Rattle.mbdc_poll.specs.declared.outcome.Outcome.{Outcome}
use Rattle.mbdc_poll.proofs.Polling.{if_ok_both, polls_all}
use Rattle.mbdc_poll.proofs.Running.{runs_as}
use Rattle.mbdc_poll.proofs.readout.read_all.Goals as goal

pub returns-in-Ok-clause-went : goal.returns-in-Ok-clause-went
returns-in-Ok-clause-went g c =
    runs_as g.D.Disk _ _ c.args.concentrator.now c.read_rounds.new.concentrator c.in-Ok.ensures.went
    (λ core happened p. if_ok_both c.finish.result _ _ _
    (λ now counts put. polls_all g.B.HalfBus g.T.Timer.tells g.T.Timer.passes g.N.Teller.takes c.args.tries c.args.stations.now c.read_rounds.new.stations c.args.timer.now c.read_rounds.new.timer
    c.args.teller.now c.read_rounds.new.teller c.finish.new.teller c.args.before c.in-Ok.between now core happened p put (ap (λ (o : Outcome). o.read) counts) (ap (λ (o : Outcome). o.failed) counts) (ap (λ (o : Outcome). o.fault) counts))
    c.finish.ensures.counts c.finish.ensures.told)
