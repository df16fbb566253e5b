use Rattle.dc_sectors.proofs.Over.{kept, left}
use Rattle.dc_sectors.proofs.laws.a_file_over_another_keeps_its_rule.Goals as goal

pub returns-clause-kept : goal.returns-clause-kept
returns-clause-kept c start steps keeps = kept start steps keeps

pub returns-clause-left : goal.returns-clause-left
returns-clause-left c start before later image since = left start before later image since
