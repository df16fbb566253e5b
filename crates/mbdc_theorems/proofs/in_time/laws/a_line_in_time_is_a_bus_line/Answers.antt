use Rattle.mbdc_theorems.proofs.Orderly.{answers_it}
use Rattle.mbdc_theorems.proofs.Outcomes.{answered_in_time}
use Rattle.mbdc_theorems.proofs.in_time.laws.a_line_in_time_is_a_bus_line.Goals as goal

pub returns : goal.returns
returns g c line last request answer frame reply due old new exchanged on_way runs alike asks =
    answered_in_time frame old new reply answer exchanged on_way (answers_it g.W.Wire line last request answer reply due runs alike asks)
