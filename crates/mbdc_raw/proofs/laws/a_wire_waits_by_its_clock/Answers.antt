use Rattle.mbdc_raw.proofs.Life.{deserted}
use Rattle.mbdc_raw.proofs.Listened.{window}
use Rattle.mbdc_raw.proofs.Told.{always_told, apart}
use Rattle.mbdc_raw.proofs.laws.a_wire_waits_by_its_clock.Goals as goal

pub returns-clause-told : goal.returns-clause-told
returns-clause-told g c = always_told g.W.Write.contents g.R.Read.remaining

pub returns-clause-apart : goal.returns-clause-apart
returns-clause-apart g c = apart g.W.Write.contents g.R.Read.remaining

pub returns-clause-window : goal.returns-clause-window
returns-clause-window g c = window g.W.Write.contents g.R.Read.remaining

pub returns-clause-deserted : goal.returns-clause-deserted
returns-clause-deserted g c = deserted g.W.Write.contents g.R.Read.remaining
