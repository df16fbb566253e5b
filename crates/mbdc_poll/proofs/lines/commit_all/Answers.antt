use Rattle.std.proofs.Common.{◌≡◌, [], ◌∷◌, refl}
use Rattle.dc_core.specs.Event.{commits, committed}
use Rattle.dc_core.proofs.Answering.{commit_shown}
use Rattle.dc_core.proofs.SingleTurns.{committed_went}
use Rattle.mbdc_poll.specs.Happening.{does}
use Rattle.mbdc_poll.proofs.Storing.{all_stored, all_sound, all_fewer, stored_as}
use Rattle.mbdc_poll.proofs.Running.{runs_as, turn_happens}
use Rattle.mbdc_poll.proofs.lines.commit_all.Goals as goal

pub returns-clause-went : goal.returns-clause-went
returns-clause-went g c tries sound =
    runs_as g.D.Disk (λ core happened. happened ≡ does (commits, committed c.commit-stored.result) ∷ []) _ c.args.concentrator.now c.commit-stored.new.self
    (λ origin state before chain at. turn_happens g.D.Disk origin state before commits (committed c.commit-stored.result) c.args.concentrator.now c.commit-stored.new.self
    (committed_went g.D.Disk origin c.args.concentrator.now.house.budget state before (committed c.commit-stored.result) _ c.args.concentrator.now c.commit-stored.new.self chain at
    (λ h image left. g.met.D.Disk.only_now c.args.concentrator.now.store.disk image left) (c.commit-stored.ensures.may origin _ at) (c.commit-stored.ensures.at origin _ at)
    (commit_shown g.D.Disk c.args.concentrator.now c.commit-stored.new.self c.commit-stored.result c.commit-stored.ensures.counts.failed c.commit-stored.ensures.worn c.commit-stored.ensures.unchanged)
    c.commit-stored.ensures.counts.count (λ h. c.commit-stored.ensures.any_moment origin h _ at) refl))
    (λ core happened is. all_stored g.B.HalfBus tries c.commit-stored.result _ c.args.stations.now c.store_all.new.stations happened is (stored_as c.commit-stored.result _ c.uncounted.ensures) sound c.store_all.ensures)

pub returns-clause-sound : goal.returns-clause-sound
returns-clause-sound g c tries sound = all_sound g.B.HalfBus tries c.commit-stored.result c.args.stations.now c.store_all.new.stations sound c.store_all.ensures

pub returns-clause-fewer : goal.returns-clause-fewer
returns-clause-fewer g c tries out pending sound = all_fewer g.B.HalfBus tries out pending c.commit-stored.result c.args.stations.now c.store_all.new.stations sound c.store_all.ensures
