use Rattle.mbdc_theorems.proofs.Answers.{all_found, found}
use Rattle.mbdc_theorems.proofs.searching.laws.every_meter_is_found.Goals as goal

pub returns-clause-walk : goal.returns-clause-walk
returns-clause-walk g c = found g.B.Bus.asks_all

pub returns-clause-all : goal.returns-clause-all
returns-clause-all g c = all_found g.B.Bus.asks_all
