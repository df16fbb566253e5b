use Rattle.dc_search.proofs.Rounds.{rounds_left-after}
use Rattle.dc_search.proofs.laws.searches_end.Goals as goal

pub returns : goal.returns
returns c = rounds_left-after
