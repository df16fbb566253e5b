use Rattle.std.proofs.Common.{is_some}
use Rattle.mbdc_commands.proofs.poll.poll_over.Given as goal

abbrev pub ghosts-poll_printed : goal.ghosts-poll_printed
ghosts-poll_printed g a = record { reads = is_some (g.O.Write.contents a.out); writes = is_some (g.O.Write.contents a.out) }
