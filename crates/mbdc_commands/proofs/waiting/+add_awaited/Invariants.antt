use Rattle.std.proofs.Common.{length}
use Rattle.mbdc_commands.proofs.waiting.+add_awaited.Given as goal

abbrev pub decreases-add_awaited : goal.decreases-add_awaited
decreases-add_awaited g l = length l.stations.now
