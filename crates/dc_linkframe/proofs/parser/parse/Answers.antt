use Rattle.dc_linkframe.proofs.Spellings.{only_found, only_refused, same_as_read}
use Rattle.dc_linkframe.proofs.parser.parse.Goals as goal

pub returns-clause-only : goal.returns-clause-only
returns-clause-only c = only_found _ _ c.read.ensures.found c.read.ensures.refused

pub returns-clause-fault : goal.returns-clause-fault
returns-clause-fault c = only_refused _ _ c.read.ensures.found c.read.ensures.refused

pub returns-clause-exact : goal.returns-clause-exact
returns-clause-exact c = same_as_read _ _ c.read.ensures.found c.read.ensures.refused
