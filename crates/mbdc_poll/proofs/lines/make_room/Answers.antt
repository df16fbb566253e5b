use Rattle.std.proofs.Common.{refl, inl, inr, arith}
use Rattle.mbdc_poll.proofs.Rounds.{all_none, all_as}
use Rattle.mbdc_poll.proofs.Running.{runs_none, runs_as}
use Rattle.mbdc_poll.proofs.lines.make_room.Goals as goal

pub returns-then-pending-lt-MOST_PENDING-clause-went : goal.returns-then-pending-lt-MOST_PENDING-clause-went
returns-then-pending-lt-MOST_PENDING-clause-went g c tries sound =
    runs_none g.D.Disk _ c.args.concentrator.now (λ image left. g.met.D.Disk.only_now c.args.concentrator.now.store.disk image left)
    (λ core. all_none tries _ c.args.stations.now (inl (refl, refl)))

pub returns-in-Ok-clause-went : goal.returns-in-Ok-clause-went
returns-in-Ok-clause-went g c tries sound =
    runs_as g.D.Disk _ _ c.args.concentrator.now c.commit_all.new.concentrator (c.in-Ok.ensures.went tries sound)
    (λ core happened a. all_as tries _ _ c.args.stations.now c.commit_all.new.stations happened a (λ turns one. inr (one, refl)))

pub returns-then-pending-lt-MOST_PENDING-clause-few : goal.returns-then-pending-lt-MOST_PENDING-clause-few
returns-then-pending-lt-MOST_PENDING-clause-few g c = c.if-pending-lt-MOST_PENDING.true

pub returns-then-pending-lt-MOST_PENDING-clause-sound : goal.returns-then-pending-lt-MOST_PENDING-clause-sound
returns-then-pending-lt-MOST_PENDING-clause-sound g c tries sound = sound

pub returns-then-pending-lt-MOST_PENDING-clause-fewer : goal.returns-then-pending-lt-MOST_PENDING-clause-fewer
returns-then-pending-lt-MOST_PENDING-clause-fewer g c tries out sound k d below = omega arith

pub returns-then-pending-lt-MOST_PENDING-clause-budget : goal.returns-then-pending-lt-MOST_PENDING-clause-budget
returns-then-pending-lt-MOST_PENDING-clause-budget g c = refl

pub returns-in-Ok-clause-few : goal.returns-in-Ok-clause-few
returns-in-Ok-clause-few g c = omega arith

pub returns-in-Ok-clause-sound : goal.returns-in-Ok-clause-sound
returns-in-Ok-clause-sound g c = c.commit_all.ensures.sound

pub returns-in-Ok-clause-fewer : goal.returns-in-Ok-clause-fewer
returns-in-Ok-clause-fewer g c tries out = c.commit_all.ensures.fewer tries out 0

pub returns-in-Ok-clause-budget : goal.returns-in-Ok-clause-budget
returns-in-Ok-clause-budget g c = c.commit_all.ensures.budget

pub returns-in-Err-clause-went : goal.returns-in-Err-clause-went
returns-in-Err-clause-went g c tries sound =
    runs_as g.D.Disk _ _ c.args.concentrator.now c.commit_all.new.concentrator (c.in-Err.ensures.went tries sound)
    (λ core happened a. all_as tries _ _ c.args.stations.now c.commit_all.new.stations happened a (λ turns one. one))

pub returns-in-Err-clause-sound : goal.returns-in-Err-clause-sound
returns-in-Err-clause-sound g c = c.commit_all.ensures.sound

pub returns-in-Err-clause-fewer : goal.returns-in-Err-clause-fewer
returns-in-Err-clause-fewer g c tries out = c.commit_all.ensures.fewer tries out 0

pub returns-in-Err-clause-budget : goal.returns-in-Err-clause-budget
returns-in-Err-clause-budget g c = c.commit_all.ensures.budget
