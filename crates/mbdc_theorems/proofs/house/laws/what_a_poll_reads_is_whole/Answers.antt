use Rattle.mbdc_theorems.proofs.HouseTalks.{polls_are_whole}
use Rattle.mbdc_theorems.proofs.house.laws.what_a_poll_reads_is_whole.Goals as goal

pub returns : goal.returns
returns g c = polls_are_whole {B = g.row.B.Denot} g.B.HalfBus
