use Rattle.std.proofs.Common.{refl}
use Rattle.mbdc_poll.proofs.Queues.{moves_both}
use Rattle.mbdc_poll.proofs.Running.{runs_then}
use Rattle.mbdc_poll.proofs.Taking.{on_ok, told_then}
use Rattle.mbdc_poll.proofs.telling.tell.Goals as goal

pub returns-in-Ok-clause-went : goal.returns-in-Ok-clause-went
returns-in-Ok-clause-went g c =
    runs_then g.D.Disk _ _ _ c.args.concentrator.now c.args.concentrator.now c.args.concentrator.now c.in-Ok.ensures.went refl (c.tell_loss.ensures.went c.tell_end.new.outcome)
    (λ core happened more t m. on_ok c.tell_loss.result _ _ (λ q. record {
      moves = λ tries. moves_both tries c.args.line c.args.station.now c.tell_end.new.station c.tell_loss.new.station happened more (t.moves tries) (q.moves tries);
      told = told_then g.N.Teller.takes c.args.teller.now c.tell_end.new.teller c.tell_loss.new.teller c.args.outcome.now c.tell_end.new.outcome c.tell_end.new.outcome core happened more t.told q.told;
    }) m)
