use Rattle.std.proofs.Common.{is_some}
use Rattle.mbdc_commands.proofs.run.run_over.Given as goal

abbrev pub ghosts-run_lines : goal.ghosts-run_lines
ghosts-run_lines g a = record { reads = is_some (g.F.Read.remaining a.lines); writes = is_some (g.O.Write.contents a.out) }
