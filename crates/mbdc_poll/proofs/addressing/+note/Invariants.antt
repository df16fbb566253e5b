use Rattle.std.proofs.Common.{length}
use Rattle.mbdc_poll.proofs.addressing.+note.Given as goal

abbrev pub decreases-note : goal.decreases-note
decreases-note l = length l.selected.now
