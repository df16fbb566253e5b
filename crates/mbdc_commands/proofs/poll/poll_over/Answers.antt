use Rattle.std.proofs.Common.{inl, inr}
use Rattle.mbdc_commands.proofs.poll.poll_over.Goals as goal

pub returns-in-Err : goal.returns-in-Err
returns-in-Err g c = inr c.in-Err.ensures.shut

pub returns : goal.returns
returns g c =
    inl (
      c.guarded.new.disk,
      c.in-Ok.ensures.ready,
      record { outcome = c.poll_printed-disk.result.1; is_printed = c.poll_printed-disk.result.2; ends = c.poll_ending.ensures; leaves = c.poll_printed-disk.ensures },
    )
