use Rattle.mbdc_change.proofs.CommandSpellings.{spells_push}
use Rattle.mbdc_change.proofs.laws.one_spelling.Goals as goal

pub returns-clause-push : goal.returns-clause-push
returns-clause-push c = spells_push
