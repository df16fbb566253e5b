use Rattle.dc_linkframe.proofs.Cutting.{never_whole, late_faults}
use Rattle.dc_linkframe.proofs.laws.need_agrees_with_parse.Goals as goal

pub returns-clause-length : goal.returns-clause-length
returns-clause-length c = late_faults

pub returns-clause-more : goal.returns-clause-more
returns-clause-more c = never_whole
