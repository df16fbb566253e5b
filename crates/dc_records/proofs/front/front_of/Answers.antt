use Rattle.dc_records.proofs.Spellings.Turns.{reads_given}
use Rattle.dc_records.proofs.front.front_of.Goals as goal

pub returns-clause-reads : goal.returns-clause-reads
returns-clause-reads c = reads_given _ _ c.exact_front.ensures
