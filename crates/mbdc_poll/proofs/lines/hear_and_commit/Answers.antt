use Rattle.std.proofs.Common.{ℕ, Ok, Err, refl}
use Rattle.mbdc_poll.specs.Round.{AreHeardAs, EndsInCommit, IsStoredAs}
use Rattle.mbdc_poll.specs.Station.{rounds_of}
use Rattle.mbdc_poll.proofs.Rounds.{all_then, all_as, fewer_both}
use Rattle.mbdc_poll.proofs.Running.{runs_then, runs_as}
use Rattle.mbdc_poll.proofs.Storing.{on_any}
use Rattle.mbdc_poll.proofs.lines.hear_and_commit.Goals as goal

pub returns-in-Ok-clause-went : goal.returns-in-Ok-clause-went
returns-in-Ok-clause-went g c =
    let m : ℕ = c.args.moment.seconds in
    runs_then g.D.Disk _ _ _ c.args.concentrator.now c.hear_all.new.concentrator c.commit_all.new.concentrator c.in-Ok.ensures.went c.hear_all.ensures.budget (c.commit_all.ensures.went c.args.tries c.hear_all.ensures.sound)
    (λ core happened more t r. all_then c.args.tries (AreHeardAs m (Ok tt)) (IsStoredAs c.commit_all.result) (EndsInCommit m c.commit_all.result) c.args.stations.now c.hear_all.new.stations c.commit_all.new.stations happened more c.hear_all.auto.stations t r
    (λ turns next a n. (turns, next, a.0, refl, a.1, n)))

pub returns-in-Err-clause-went : goal.returns-in-Err-clause-went
returns-in-Err-clause-went g c =
    let m : ℕ = c.args.moment.seconds in
    runs_as g.D.Disk _ _ c.args.concentrator.now c.hear_all.new.concentrator c.in-Err.ensures.went
    (λ core happened a. all_as c.args.tries (AreHeardAs m (Err c.in-Err.fault)) (EndsInCommit m (Err c.in-Err.fault)) c.args.stations.now c.hear_all.new.stations happened a (λ turns one. one))

pub returns-in-Ok-clause-sound : goal.returns-in-Ok-clause-sound
returns-in-Ok-clause-sound g c = c.commit_all.ensures.sound c.args.tries c.hear_all.ensures.sound

pub returns-in-Ok-clause-fewer : goal.returns-in-Ok-clause-fewer
returns-in-Ok-clause-fewer g c =
    let b = g.B.HalfBus in
    on_any c.commit_all.result _
    (fewer_both (rounds_of b 0 0 0 c.args.tries) (rounds_of b 1 0 0 c.args.tries) (rounds_of b 1 1 0 c.args.tries) 0 0 c.args.stations.now c.hear_all.new.stations c.commit_all.new.stations c.hear_all.auto.stations
    c.in-Ok.ensures.fewer (c.commit_all.ensures.fewer c.args.tries 1 1 c.hear_all.ensures.sound))
