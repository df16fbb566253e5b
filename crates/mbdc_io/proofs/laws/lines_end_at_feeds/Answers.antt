use Rattle.std.proofs.Common.{refl}
use Rattle.mbdc_io.specs.Lines.{lines_of}
use Rattle.mbdc_io.proofs.Feeds.{tested, last_line, line_and_feed}
use Rattle.mbdc_io.proofs.laws.lines_end_at_feeds.Goals as goal

pub returns-clause-ended : goal.returns-clause-ended
returns-clause-ended c = λ line rest lacks. line_and_feed line rest (tested line lacks)

pub returns-clause-last : goal.returns-clause-last
returns-clause-last c = λ line some lacks. last_line line some (tested line lacks)

pub returns-clause-empty : goal.returns-clause-empty
unfolding lines_of
returns-clause-empty c = refl
