use Rattle.mbdc_theorems.proofs.Orderly.{answers_it}
use Rattle.mbdc_theorems.proofs.in_time.laws.every_answer_is_to_its_request.Goals as goal

pub returns : goal.returns
returns g c old new request answer reply due runs alike asks = answers_it g.W.Wire old new request answer reply due runs alike asks
