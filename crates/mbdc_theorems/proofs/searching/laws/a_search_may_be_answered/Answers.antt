use Rattle.mbdc_theorems.proofs.Answers.{one_is_answered}
use Rattle.mbdc_theorems.proofs.searching.laws.a_search_may_be_answered.Goals as goal

pub returns : goal.returns
returns c = one_is_answered
