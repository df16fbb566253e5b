use Rattle.std.proofs.Common.{is_some}
use Rattle.mbdc_commands.proofs.fit.fit_over.Given as goal

abbrev pub ghosts-fit_printed : goal.ghosts-fit_printed
ghosts-fit_printed g a = record { reads = is_some (g.O.Write.contents a.out); writes = is_some (g.O.Write.contents a.out) }
