use Rattle.std.proofs.Common.{◌⊎◌, inl, sym, subst}
use Rattle.mbdc_ending.specs.declared.ending.Ending.{Ending}
use Rattle.mbdc.specs.Commands.{IsPolled, Refuses}
use Rattle.mbdc.proofs.poll.poll_reached.Goals as goal
use Rattle.mbdc.proofs.poll.poll_reached.Goals.{in-Ok-tracers_of, in-Err-tracers_of}

pub returns : goal.returns
returns g c =
    let ends = λ (e : Ending). Refuses e ⊎ IsPolled g.D.Disk c.args.only.now c.args.task.now.image.now c.args.disk e in
    elim c.match-tracers_of.branch [
      | in-Ok-tracers_of w ↦ subst ends (sym w.ending-is) w.poll_peers-ending.ensures
      | in-Err-tracers_of w ↦ subst ends (sym w.ending-is) (inl w.in-Err-tracers_of.ensures)
    ]
