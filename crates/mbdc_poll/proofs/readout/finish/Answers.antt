use Rattle.std.proofs.Common.{[], ◌∷◌}
use Rattle.mbdc_poll.specs.Round.{lates_from}
use Rattle.mbdc_poll.specs.declared.event.Event.TheVariants.{End as has_ended}
use Rattle.mbdc_poll.proofs.Taking.{takes_both}
use Rattle.mbdc_poll.proofs.readout.finish.Goals as goal

pub returns-clause-told : goal.returns-clause-told
returns-clause-told g c =
    takes_both g.N.Teller.takes c.args.teller.now c.tell_lates.new.teller c.tell_one.new.teller (lates_from g.B.HalfBus 1 c.args.stations.now)
    (has_ended c.args.between.read c.saturating_add-failed.result ∷ []) c.in_ok-tell_lates.ensures.0 c.in_ok-tell_one.ensures.0
