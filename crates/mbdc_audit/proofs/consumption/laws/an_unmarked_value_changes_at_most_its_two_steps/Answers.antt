use Rattle.mbdc_audit.proofs.Consumed.Replaced.{other_value}
use Rattle.mbdc_audit.proofs.consumption.laws.an_unmarked_value_changes_at_most_its_two_steps.Goals as goal

pub returns : goal.returns
returns c = λ front v x y back other from to order le same same' low high low' high'.
    other_value v x y back other same same' low high low' high' front from to order le
