use Rattle.dc_linkframe.proofs.Spellings.{frame_of-spelled}
use Rattle.dc_linkframe.proofs.Readings.{Spells-frame_of}
use Rattle.dc_linkframe.proofs.laws.frames_are_read_as_spelled.Goals as goal

pub returns-clause-read : goal.returns-clause-read
returns-clause-read c = frame_of-spelled

pub returns-clause-spelled : goal.returns-clause-spelled
returns-clause-spelled c = Spells-frame_of
