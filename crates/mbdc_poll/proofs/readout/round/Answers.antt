use Rattle.std.proofs.Common.{◌++◌, ℕ, Bool, List, Option, refl, sym, subst, ◌∙◌}
use Rattle.dc_core.specs.Core.{Core}
use Rattle.dc_core.specs.declared.fault.CommitFault.{CommitFault}
use Rattle.mbdc_poll.specs.Telling.{TakesAll}
use Rattle.mbdc_poll.specs.Happening.{Happening}
use Rattle.mbdc_poll.specs.Polls.{GoesRound}
use Rattle.mbdc_poll.specs.Station.{rounds_of}
use Rattle.mbdc_poll.specs.declared.station.Station.{Station}
use Rattle.mbdc_poll.proofs.Polling.{Asked, goes_round, none_of}
use Rattle.mbdc_poll.proofs.Rounds.{fewer_both}
use Rattle.mbdc_poll.proofs.Running.{runs_then}
use Rattle.mbdc_poll.proofs.readout.round.Goals as goal

pub returns-in-Ok-clause-went : goal.returns-in-Ok-clause-went
returns-in-Ok-clause-went g c =
    let b = g.B.HalfBus in
    let m : ℕ = c.now-moment.result.seconds in
    let stored = c.hear_and_commit-stored.result in
    let olds : List (Station g.row.B.Denot) = c.args.stations.now in
    let asked : List (Station g.row.B.Denot) = c.ask_all.new.stations in
    let mids : List (Station g.row.B.Denot) = c.hear_and_commit-stored.new.stations in
    let news : List (Station g.row.B.Denot) = c.tell_all.new.stations in
    runs_then g.D.Disk (λ (core : Core) (happened : List Happening). Asked b c.args.tries m stored olds asked mids happened) _ _
    c.args.concentrator.now c.hear_and_commit-stored.new.concentrator c.hear_and_commit-stored.new.concentrator
    (runs_then g.D.Disk _ _ _ c.args.concentrator.now c.ask_all.new.concentrator c.hear_and_commit-stored.new.concentrator c.ask_all.ensures.went c.ask_all.ensures.budget c.hear_and_commit-stored.ensures.went
    (λ core happened more a h. record { asking = happened; rest = more; parts = refl; asks = a; hears = h }))
    (c.hear_and_commit-stored.ensures.budget ∙ c.ask_all.ensures.budget) c.in-Ok.ensures.went
    (λ core happened more a t. subst (λ (fault : Option CommitFault). GoesRound b g.T.Timer.tells g.T.Timer.passes c.args.tries fault olds news c.args.timer.now c.now-moment.new.self (TakesAll g.N.Teller.takes c.args.teller.now c.tell_all.new.teller) c.args.counts.now c.tell_all.new.outcome core (happened ++ more))
    (sym c.err.ensures.value)
    (goes_round b g.T.Timer.tells g.T.Timer.passes g.N.Teller.takes c.args.tries m stored olds asked mids news c.args.timer.now c.pause.new.self c.now-moment.new.self c.args.teller.now c.tell_all.new.teller c.args.counts.now c.tell_all.new.outcome core happened more
    c.ask_all.auto.stations c.hear_and_commit-stored.auto.stations
    (subst (λ (may : Bool). g.T.Timer.passes c.args.timer.now may c.pause.new.self) c.may_sleep-sleeps.ensures c.pause.ensures) c.now-moment.ensures a t))

pub returns-in-Err-clause-went : goal.returns-in-Err-clause-went
returns-in-Err-clause-went g c =
    runs_then g.D.Disk (λ (core : Core) (happened : List Happening). Unit {0}) _ _
    c.args.concentrator.now c.hear_and_commit-stored.new.concentrator c.hear_and_commit-stored.new.concentrator
    (runs_then g.D.Disk _ _ _ c.args.concentrator.now c.ask_all.new.concentrator c.hear_and_commit-stored.new.concentrator c.ask_all.ensures.went c.ask_all.ensures.budget c.hear_and_commit-stored.ensures.went
    (λ core happened more a h. tt))
    (c.hear_and_commit-stored.ensures.budget ∙ c.ask_all.ensures.budget) c.tell_all.ensures.went
    (λ core happened more a t. tt)

pub returns-in-Ok-clause-fewer : goal.returns-in-Ok-clause-fewer
returns-in-Ok-clause-fewer g c kept =
    let b = g.B.HalfBus in
    let t = c.args.tries in
    let olds : List (Station g.row.B.Denot) = c.args.stations.now in
    let asked : List (Station g.row.B.Denot) = c.ask_all.new.stations in
    let mids : List (Station g.row.B.Denot) = c.hear_and_commit-stored.new.stations in
    let news : List (Station g.row.B.Denot) = c.tell_all.new.stations in
    fewer_both (rounds_of b 1 1 1 t) (rounds_of b 1 1 0 t) (rounds_of b 1 1 1 t) 1 0 olds mids news (c.hear_and_commit-stored.auto.stations ∙ c.ask_all.auto.stations)
    (fewer_both (rounds_of b 1 1 1 t) (rounds_of b 0 0 0 t) (rounds_of b 1 1 0 t) 1 0 olds asked mids c.ask_all.auto.stations c.ask_all.ensures.fewer
    (none_of c.hear_and_commit-stored.result _ c.hear_and_commit-stored.ensures.fewer (sym c.err.ensures.value ∙ kept)))
    (c.in-Ok.ensures.fewer t)
