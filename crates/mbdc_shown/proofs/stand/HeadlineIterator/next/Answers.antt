use Rattle.std.proofs.Common.{arith}
use Rattle.mbdc_shown.proofs.Sents.{next_headline, none_next, none_left, no_main}
use Rattle.mbdc_shown.proofs.stand.HeadlineIterator.next.Goals as goal

pub returns-clause-goes : goal.returns-clause-goes
returns-clause-goes c = grind (arith, next_headline, none_next, none_left, no_main)
