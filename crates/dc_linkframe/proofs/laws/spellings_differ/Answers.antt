use Rattle.dc_linkframe.proofs.Spellings.{same_frame}
use Rattle.dc_linkframe.proofs.laws.spellings_differ.Goals as goal

pub returns : goal.returns
returns c = same_frame
