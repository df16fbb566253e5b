use Rattle.std.proofs.Common.{inl, inr}
use Rattle.mbdc_commands.proofs.run.run_over.Goals as goal

pub returns-in-Err : goal.returns-in-Err
returns-in-Err g c = inr c.in-Err.ensures.shut

pub returns : goal.returns
returns g c = inl (c.guarded.new.disk, c.in-Ok.ensures.ready, (c.run_lines-disk.result.1, c.ended.ensures, c.run_lines-disk.ensures))
