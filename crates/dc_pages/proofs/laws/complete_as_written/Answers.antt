use Rattle.dc_pages.proofs.OneSync.{old_or_as_written}
use Rattle.dc_pages.proofs.laws.complete_as_written.Goals as goal

pub returns : goal.returns
returns c = old_or_as_written
